-- The resolvers of single suffixes (`Routes` of `tailcfg.DNSConfig`) in byte order, each suffix once.
use Rattle.std.specs.Prelude.{List, [], ◌∷◌, map, fold}
use Rattle.std.specs.Borrow.{Bor}
use Rattle.std.specs.Ordering.{nat_cmp, match_ordering}
use Rattle.std.specs.Cmp.Lexicographic.{slice_cmp}
use Rattle.serde_json.specs.Data.{Members, no_members, member}
use Rattle.tailcfg.specs.declared.dns.DnsRoute.{DnsRoute}
use Rattle.wire_write.specs.Dns.{resolver_data}
use Rattle.wire_write.specs.Parts.{array_data}

-- a route among others by suffix, in the place of one of its suffix
unfoldable pub placed : DnsRoute → List DnsRoute → List DnsRoute
placed r [] = r ∷ []
placed r (q ∷ qs) = match_ordering (slice_cmp nat_cmp r.suffix q.suffix) (r ∷ q ∷ qs) (r ∷ qs) (q ∷ placed r qs)

-- each route placed among those before it
abbrev pub by_suffix : List DnsRoute → List DnsRoute
by_suffix rs = fold (λ qs r. placed r qs) [] rs

-- the routes behind references
abbrev pub behind : List (Bor DnsRoute) → List DnsRoute
behind rs = map (λ r. r.now) rs

-- a member for each route
abbrev pub route_members : List DnsRoute → Members
route_members [] = no_members
route_members (r ∷ rs) = member r.suffix (array_data resolver_data r.resolvers) (route_members rs)
