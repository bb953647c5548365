-- Routes in order are those that were given.
use Rattle.std.proofs.Common.{◌≡◌, Bool, true, false, List, refl}
use Rattle.std.specs.FinMap.{nat_cmp-IsAntisymmetric}
use Rattle.std.specs.List.{list_any}
use Rattle.std.specs.Ordering.{bool_cmp, nat_cmp, ordering_then}
use Rattle.std.specs.declared.cmp.Ordering.{Ordering}
use Rattle.std.specs.declared.cmp.Ordering.TheVariants.{Less, Equal, Greater}
use Rattle.tail_base.proofs.SortedLemmas.{sorted_once_any}
use Rattle.net_addr.specs.Bits.{Block}
use Rattle.net_addr.specs.Routes.{route_cmp, sorted_routes}

then_first : (r s : Ordering) → ordering_then r s ≡ Equal → (r ≡ Equal) × (s ≡ Equal)
then_first Less s e = absurd (cc)
then_first Equal s e = (refl, e)
then_first Greater s e = absurd (cc)

same_bool : (a b : Bool) → bool_cmp a b ≡ Equal → a ≡ b
same_bool true true h = refl
same_bool true false h = absurd (cc)
same_bool false true h = absurd (cc)
same_bool false false h = refl

-- only equal routes compare as equal
route_cmp_same : (p q : Block) → route_cmp p q ≡ Equal → p ≡ q
route_cmp_same p q h =
    let family = then_first (bool_cmp p.base.v6 q.base.v6) (ordering_then (nat_cmp p.base.bits q.base.bits) (nat_cmp p.len q.len)) h in
    let rest = then_first (nat_cmp p.base.bits q.base.bits) (nat_cmp p.len q.len) family.1 in
    let v6 = same_bool p.base.v6 q.base.v6 family.0 in
    let bits = nat_cmp-IsAntisymmetric p.base.bits q.base.bits rest.0 in
    let len = nat_cmp-IsAntisymmetric p.len q.len rest.1 in
    λ i. record { base = record { v6 = v6 i; bits = bits i }; len = len i }

pub kept : (test : Block → Bool) (routes : List Block) → list_any test (sorted_routes routes) ≡ list_any test routes
kept = sorted_once_any route_cmp route_cmp_same
