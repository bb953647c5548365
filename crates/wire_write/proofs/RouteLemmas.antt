-- Routes by suffix.
use Rattle.std.proofs.Common.{◌≡◌, ◌<◌, ◌≤◌, ◌+◌, ◌∙◌, ◌++◌, ◌∷◌, [], ℕ, zero, suc, List, take, drop, length, get_or, slice_set, refl, sym, ap, ap₂, subst, arith, append_assoc}
use Rattle.std.specs.Prelude.{map, fold, insert}
use Rattle.std.specs.Borrow.{Bor}
use Rattle.std.specs.Ordering.{nat_cmp, match_ordering}
use Rattle.std.specs.declared.cmp.Ordering.{Ordering}
use Rattle.std.specs.declared.cmp.Ordering.TheVariants.{Less, Equal, Greater}
use Rattle.std.specs.Cmp.Lexicographic.{slice_cmp}
use Rattle.std.proofs.lemmas.List.{drop_all, drop_more, length-map, map-set, set_split, take_more}
use Rattle.std.proofs.lemmas.Map.Lookups.{exact_bytes}
use Rattle.std.proofs.Math.ListN.{get_or-map}
use Rattle.json.specs.Token.{key, end_object}
use Rattle.json.specs.Written.{Written}
use Rattle.serde_json.specs.Data.{Data, Members, member, object, put}
use Rattle.tailcfg.specs.declared.dns.DnsRoute.{DnsRoute}
use Rattle.wire_write.specs.Dns.{resolver_data, routes_data, with_route}
use Rattle.wire_write.specs.Parts.{array_data}
use Rattle.wire_write.specs.Routes.{behind, by_suffix, placed, route_members}
use Rattle.wire_write.specs.Tokens.{Adds, closing_tokens, data_tokens}
use Rattle.wire_write.proofs.TokenLemmas.{last, next}

-- `put` and `placed` go the same way
pub placed_members : (r : DnsRoute) (qs : List DnsRoute) → route_members (placed r qs) ≡ put r.suffix (array_data resolver_data r.resolvers) (route_members qs)
unfolding placed
placed_members r [] = refl
placed_members r (q ∷ qs) =
    let d : Data = array_data resolver_data r.resolvers in
    let e : Data = array_data resolver_data q.resolvers in
    let ms : Members = route_members qs in
    (elim (slice_cmp nat_cmp r.suffix q.suffix) as (λ o. slice_cmp nat_cmp r.suffix q.suffix ≡ o → route_members (match_ordering o (r ∷ q ∷ qs) (r ∷ qs) (q ∷ placed r qs)) ≡ match_ordering o (member r.suffix d (member q.suffix e ms)) (member q.suffix d ms) (member q.suffix e (put r.suffix d ms))) [
      | Less ↦ λ is. refl
      | Equal ↦ λ is. ap (λ k. member k d ms) (exact_bytes r.suffix q.suffix is)
      | Greater ↦ λ is. ap (λ more. member q.suffix e more) (placed_members r qs)
    ]) refl

-- the members of routes that are placed one after the other
pub members_from : (rs qs : List DnsRoute) → route_members (fold (λ ps r. placed r ps) qs rs) ≡ fold with_route (route_members qs) rs
members_from [] qs = refl
members_from (r ∷ rs) qs = members_from rs (placed r qs) ∙ ap (λ ms. fold with_route ms rs) (placed_members r qs)

-- the first i come before the route
pub record Passed (r : DnsRoute) (i : ℕ) (qs : List DnsRoute) : Type 0 where
  pub is : placed r qs ≡ take i qs ++ placed r (drop i qs)

pub none_passed : (r : DnsRoute) (qs : List DnsRoute) → Passed r 0 qs
none_passed r qs = record { is = refl }

-- how the route goes with the i-th
here : (r : DnsRoute) (i : ℕ) (qs : List DnsRoute) (d : DnsRoute) → i < length qs
    → placed r (drop i qs) ≡ match_ordering (slice_cmp nat_cmp r.suffix (get_or qs i d).suffix) (r ∷ get_or qs i d ∷ drop (i + 1) qs) (r ∷ drop (i + 1) qs) (get_or qs i d ∷ placed r (drop (i + 1) qs))
unfolding placed
here r i qs d inside = ap (λ ps. placed r ps) (drop_more qs i d inside)

pub goes_before : (r : DnsRoute) (i : ℕ) (qs : List DnsRoute) (d : DnsRoute) → i < length qs → slice_cmp nat_cmp r.suffix (get_or qs i d).suffix ≡ Less
    → Passed r i qs → placed r qs ≡ insert qs i r
goes_before r i qs d inside less passed =
    passed.is ∙ ap (λ ps. take i qs ++ ps) (here r i qs d inside
    ∙ ap (λ o. match_ordering o (r ∷ get_or qs i d ∷ drop (i + 1) qs) (r ∷ drop (i + 1) qs) (get_or qs i d ∷ placed r (drop (i + 1) qs))) less
    ∙ ap (λ ps. r ∷ ps) (sym (drop_more qs i d inside)))

pub goes_there : (r : DnsRoute) (i : ℕ) (qs : List DnsRoute) (d : DnsRoute) → i < length qs → slice_cmp nat_cmp r.suffix (get_or qs i d).suffix ≡ Equal
    → Passed r i qs → placed r qs ≡ slice_set qs i r
goes_there r i qs d inside equal passed =
    passed.is ∙ ap (λ ps. take i qs ++ ps) (here r i qs d inside
    ∙ ap (λ o. match_ordering o (r ∷ get_or qs i d ∷ drop (i + 1) qs) (r ∷ drop (i + 1) qs) (get_or qs i d ∷ placed r (drop (i + 1) qs))) equal
    ∙ ap (λ n. r ∷ drop n qs) {x = i + 1} {y = suc i} (omega arith)) ∙ sym (set_split qs i r inside)

pub goes_on : (r : DnsRoute) (i : ℕ) (qs : List DnsRoute) (d : DnsRoute) → i < length qs → slice_cmp nat_cmp r.suffix (get_or qs i d).suffix ≡ Greater
    → Passed r i qs → Passed r (i + 1) qs
goes_on r i qs d inside greater passed = record {
  is = passed.is ∙ ap (λ ps. take i qs ++ ps) (here r i qs d inside
      ∙ ap (λ o. match_ordering o (r ∷ get_or qs i d ∷ drop (i + 1) qs) (r ∷ drop (i + 1) qs) (get_or qs i d ∷ placed r (drop (i + 1) qs))) greater)
      ∙ sym (append_assoc (take i qs) (get_or qs i d ∷ []) (placed r (drop (i + 1) qs))) ∙ ap (λ ps. ps ++ placed r (drop (i + 1) qs)) (sym (take_more qs i d inside));
}

pub goes_last : (r : DnsRoute) (i n : ℕ) (qs : List DnsRoute) → i ≡ n → length qs ≤ i → Passed r i qs → placed r qs ≡ insert qs n r
unfolding placed
goes_last r i n qs same past passed =
    let none : drop i qs ≡ [] = drop_all i qs past in
    passed.is ∙ ap (λ ps. take i qs ++ placed r ps) none ∙ ap (λ ps. take i qs ++ r ∷ ps) (sym none) ∙ ap (λ k. insert qs k r) same

pub map_insert : {X Y : Type 0} (f : X → Y) (xs : List X) (i : ℕ) (x : X) → map f (insert xs i x) ≡ insert (map f xs) i (f x)
map_insert f xs zero x = refl
map_insert f [] (suc i) x = refl
map_insert f (y ∷ ys) (suc i) x = ap (λ zs. f y ∷ zs) (map_insert f ys i x)

-- the routes behind references

pub behind_long : (rs : List (Bor DnsRoute)) → length (behind rs) ≡ length rs
behind_long rs = length-map rs (λ (q : Bor DnsRoute). q.now)

-- how a suffix compares with that of the i-th route
pub compared : (r : DnsRoute) (rs : List (Bor DnsRoute)) (i : ℕ) (q : Bor DnsRoute) (s t : List ℕ) (o : Ordering) → s ≡ r.suffix → t ≡ (get_or rs i q).now.suffix → o ≡ slice_cmp nat_cmp s t
    → slice_cmp nat_cmp r.suffix (get_or (behind rs) i q.now).suffix ≡ o
compared r rs i q s t o first second result =
    ap₂ (λ u v. slice_cmp nat_cmp u v) (sym first) (ap (λ (p : DnsRoute). p.suffix) (get_or-map (λ (p : Bor DnsRoute). p.now) rs i q) ∙ sym second) ∙ sym result

pub set_behind : (rs ss : List (Bor DnsRoute)) (i : ℕ) (r : Bor DnsRoute) → ss ≡ rs → placed r.now (behind ss) ≡ slice_set (behind ss) i r.now → behind (slice_set rs i r) ≡ placed r.now (behind rs)
set_behind rs ss i r same is = map-set (λ (q : Bor DnsRoute). q.now) rs i r ∙ sym (subst (λ ts. placed r.now (behind ts) ≡ slice_set (behind ts) i r.now) same is)

pub insert_behind : (rs ss new : List (Bor DnsRoute)) (i : ℕ) (r : Bor DnsRoute) → ss ≡ rs → placed r.now (behind ss) ≡ insert (behind ss) i r.now → new ≡ insert rs i r → behind new ≡ placed r.now (behind rs)
insert_behind rs ss new i r same is made =
    ap behind made ∙ map_insert (λ (q : Bor DnsRoute). q.now) rs i r ∙ sym (subst (λ ts. placed r.now (behind ts) ≡ insert (behind ts) i r.now) same is)

-- the members of routes by suffix are those that are put
pub sorted_members : (rs : List DnsRoute) (sorted : List (Bor DnsRoute)) → behind sorted ≡ by_suffix rs → object (route_members (behind sorted)) ≡ routes_data rs
unfolding routes_data
sorted_members rs sorted is = ap (λ qs. object (route_members qs)) is ∙ ap object (members_from rs [])

-- a member, and then those behind it
pub one_written : (rs : List (Bor DnsRoute)) (i : ℕ) (q : Bor DnsRoute) (s : List ℕ) {a b w : Written} → i < length rs → q ≡ get_or rs i q → s ≡ q.now.suffix
    → Adds (key s ∷ data_tokens (array_data resolver_data q.now.resolvers)) a b → Adds (closing_tokens (route_members (behind (drop (i + 1) rs)))) b w
    → Adds (closing_tokens (route_members (behind (drop i rs)))) a w
one_written rs i q s {a} {b} {w} inside is same p rest =
    let d : Data = array_data resolver_data q.now.resolvers in
    let more : List (Bor DnsRoute) = drop (i + 1) rs in
    let here : q ∷ more ≡ drop i rs = sym (drop_more rs i q inside ∙ ap (λ r. r ∷ more) (sym is)) in
    subst (λ ts. Adds (closing_tokens (route_members (behind ts))) a w) here (next d (route_members (behind more)) (subst (λ t. Adds (key t ∷ data_tokens d) a b) same p) rest)

pub all_written : (rs : List (Bor DnsRoute)) (i : ℕ) {a b : Written} → length rs ≤ i → Adds (end_object ∷ []) a b → Adds (closing_tokens (route_members (behind (drop i rs)))) a b
all_written rs i {a} {b} past p = subst (λ ts. Adds (closing_tokens (route_members (behind ts))) a b) (sym (drop_all i rs past)) (last p)
