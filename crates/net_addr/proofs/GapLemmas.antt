-- Where the first `::` stands.
use Rattle.std.proofs.Common.{◌≡◌, ◌<◌, ◌+◌, ℕ, false, List, ◌∷◌, length, drop, get_or, cond, Option, Some, None, arith, refl, sym, ap, ◌∙◌}
use Rattle.std.specs.Prelude.{nat_eq, codes}
use Rattle.std.specs.List.{starts_with}
use Rattle.std.specs.Option.{option_map}
use Rattle.std.proofs.lemmas.List.{at_drop_more, drop_more}
use Rattle.net_addr.specs.GroupReads.{gap}

shifted : (o : Option ℕ) (i : ℕ) → option_map (λ k. k + (i + 1)) o ≡ option_map (λ k. k + i) (option_map (λ k. k + 1) o)
shifted (Some k) i = let same : k + (i + 1) ≡ (k + 1) + i = omega arith in ap Some same
shifted None i = refl

-- one byte further
pub gap_next : (bs : List ℕ) (i : ℕ) (r : Option ℕ) → i < length bs → starts_with nat_eq (drop i bs) (codes "::") ≡ false
    → option_map (λ k. k + i) (gap (drop i bs)) ≡ r → option_map (λ k. k + (i + 1)) (gap (drop (i + 1) bs)) ≡ r
gap_next bs i r inside other leads =
    let b = get_or bs i 0 in
    let rest = drop (i + 1) bs in
    let here : starts_with nat_eq (b ∷ rest) (codes "::") ≡ false = ap (λ xs. starts_with nat_eq xs (codes "::")) (sym (drop_more bs i 0 inside)) ∙ other in
    let step : gap (drop i bs) ≡ option_map (λ k. k + 1) (gap rest) =
    at_drop_more gap bs i 0 inside ∙ ap (λ t. cond t (Some 0) (option_map (λ k. k + 1) (gap rest))) here in
    shifted (gap rest) i ∙ sym (ap (option_map (λ k. k + i)) step) ∙ leads
