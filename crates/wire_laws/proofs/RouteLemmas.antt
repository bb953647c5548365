-- Routes whose suffixes rise are those by suffix.
use Rattle.std.proofs.Common.{◌≡◌, List, [], ◌∷◌, ◌++◌, refl, sym, ap, ◌∙◌, append_assoc, append-nil}
use Rattle.std.specs.Prelude.{fold}
use Rattle.std.specs.List.{AllByRecursion}
use Rattle.std.specs.List.Sorted.{IsStrictlySortedBy}
use Rattle.std.specs.Ordering.{match_ordering, ordering_reverse}
use Rattle.std.specs.declared.cmp.Ordering.TheVariants.{Less, Greater}
use Rattle.std.proofs.lemmas.Cmp.{nat_list_cmp_total}
use Rattle.tailcfg.specs.declared.dns.DnsRoute.{DnsRoute}
use Rattle.wire_write.specs.Routes.{by_suffix, placed}
use Rattle.settings.specs.Settings.{suffix_cmp}

-- the route's suffix comes behind each of theirs
abbrev IsBehind : List DnsRoute → DnsRoute → Type 0
IsBehind qs r = AllByRecursion (λ q. suffix_cmp q r ≡ Less) qs

placed_last : (r : DnsRoute) (qs : List DnsRoute) → IsBehind qs r → placed r qs ≡ qs ++ r ∷ []
unfolding placed
placed_last r [] h = refl
placed_last r (q ∷ qs) h =
    let back : suffix_cmp r q ≡ Greater = nat_list_cmp_total.antisymm r.suffix q.suffix ∙ ap ordering_reverse h.0 in
    ap (λ o. match_ordering o (r ∷ q ∷ qs) (r ∷ qs) (q ∷ placed r qs)) back ∙ ap (λ ps. q ∷ ps) (placed_last r qs h.1)

-- each of these comes behind all of those
abbrev AreBehind : List DnsRoute → List DnsRoute → Type 0
AreBehind qs rs = AllByRecursion (IsBehind qs) rs

one_more : (qs : List DnsRoute) (r s : DnsRoute) → IsBehind qs s → suffix_cmp r s ≡ Less → IsBehind (qs ++ r ∷ []) s
one_more [] r s h less = (less, tt)
one_more (q ∷ qs) r s h less = (h.0, one_more qs r s h.1 less)

all_more : (qs : List DnsRoute) (r : DnsRoute) (rs : List DnsRoute) → AreBehind qs rs → AllByRecursion (λ s. suffix_cmp r s ≡ Less) rs → AreBehind (qs ++ r ∷ []) rs
all_more qs r [] h less = tt
all_more qs r (s ∷ rs) h less = (one_more qs r s h.0 less.0, all_more qs r rs h.1 less.1)

placed_all : (qs rs : List DnsRoute) → AreBehind qs rs → IsStrictlySortedBy suffix_cmp rs → fold (λ ps r. placed r ps) qs rs ≡ qs ++ rs
unfolding IsStrictlySortedBy
placed_all qs [] h rise = sym (append-nil qs)
placed_all qs (r ∷ rs) h rise =
    ap (λ ps. fold (λ ps r. placed r ps) ps rs) (placed_last r qs h.0)
    ∙ placed_all (qs ++ r ∷ []) rs (all_more qs r rs h.1 rise.0) rise.1
    ∙ append_assoc qs (r ∷ []) rs

behind_none : (rs : List DnsRoute) → AreBehind [] rs
behind_none [] = tt
behind_none (r ∷ rs) = (tt, behind_none rs)

pub rising_routes : (rs : List DnsRoute) → IsStrictlySortedBy suffix_cmp rs → by_suffix rs ≡ rs
rising_routes rs rise = placed_all [] rs (behind_none rs) rise
