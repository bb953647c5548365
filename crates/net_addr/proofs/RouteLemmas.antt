-- The order of routes is total, and only equal routes compare as equal.
use Rattle.std.proofs.Common.{◌≡◌, ℕ, Bool, true, false, refl}
use Rattle.std.specs.Cmp.{IsTotalOrder, bool_cmp_total, nat_cmp_total, on_total, then_total}
use Rattle.std.specs.FinMap.{nat_cmp-IsAntisymmetric}
use Rattle.std.specs.Ordering.{bool_cmp, nat_cmp, ordering_then}
use Rattle.std.specs.declared.cmp.Ordering.{Ordering}
use Rattle.std.specs.declared.cmp.Ordering.TheVariants.{Less, Equal, Greater}
use Rattle.net_addr.specs.Bits.{Block}
use Rattle.net_addr.specs.Routes.{route_cmp}

pub route_cmp_total : IsTotalOrder route_cmp
route_cmp_total = then_total (on_total (λ (p : Block). p.base.v6) bool_cmp_total) (then_total (on_total (λ (p : Block). p.base.bits) nat_cmp_total) (on_total (λ (p : Block). p.len) nat_cmp_total))

then_first : (r s : Ordering) → ordering_then r s ≡ Equal → (r ≡ Equal) × (s ≡ Equal)
then_first Less s e = absurd (cc)
then_first Equal s e = (refl, e)
then_first Greater s e = absurd (cc)

same_bool : (a b : Bool) → bool_cmp a b ≡ Equal → a ≡ b
same_bool true true h = refl
same_bool true false h = absurd (cc)
same_bool false true h = absurd (cc)
same_bool false false h = refl

abbrev block : Bool → ℕ → ℕ → Block
block v6 bits len = record { base = record { v6 = v6; bits = bits }; len = len }

same_block : (a b : Bool) (m n k l : ℕ) → a ≡ b → m ≡ n → k ≡ l
    → block a m k ≡ block b n l
same_block a b m n k l p q r = rw (p, q, r) refl

pub route_cmp_same : (p q : Block) → route_cmp p q ≡ Equal → p ≡ q
route_cmp_same p q h =
    let family = then_first (bool_cmp p.base.v6 q.base.v6) _ h in
    let rest = then_first (nat_cmp p.base.bits q.base.bits) (nat_cmp p.len q.len) family.1 in
    same_block p.base.v6 q.base.v6 p.base.bits q.base.bits p.len q.len (same_bool p.base.v6 q.base.v6 family.0)
    (nat_cmp-IsAntisymmetric p.base.bits q.base.bits rest.0) (nat_cmp-IsAntisymmetric p.len q.len rest.1)
