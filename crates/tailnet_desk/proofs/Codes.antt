-- Rows are the same, or differ.
use base.Stored.{Gv, gnil, gnum, gcons}
use Rattle.std.proofs.Common.{◌≡◌, ◌⊎◌, inl, inr, ℕ, Bool, true, false, ◌==◌, refl, sym, ap, ap₂, ◌∙◌}
use Rattle.std.proofs.lemmas.Bool.{eq-eqb, eqb-true}
use Rattle.net_rows.specs.contracts.rows.Rows.{the_row}
use Rattle.net_rows.specs.declared.rows.Rows.{Rows}

abbrev Either : Type 0 → Type 0
Either P = P ⊎ (P → ⊥)

abbrev left_of : Gv → Gv
left_of gnil = gnil
left_of (gnum n) = gnil
left_of (gcons a b) = a

abbrev right_of : Gv → Gv
right_of gnil = gnil
right_of (gnum n) = gnil
right_of (gcons a b) = b

numbers : (m n : ℕ) → Either (gnum m ≡ gnum n)
numbers m n = go (m == n) refl
  where
    go : (b : Bool) → (m == n) ≡ b → Either (gnum m ≡ gnum n)
    go true is = inl (ap gnum (eqb-true m n is))
    go false is = inr (λ e. let same : m ≡ n = cc (e) in let yes = eq-eqb m n same in absurd (let clash = sym yes ∙ is in cc))

codes : (a b : Gv) → Either (a ≡ b)
codes gnil gnil = inl refl
codes gnil (gnum n) = inr (λ e. absurd (cc (e)))
codes gnil (gcons c d) = inr (λ e. absurd (cc (e)))
codes (gnum m) gnil = inr (λ e. absurd (cc (e)))
codes (gnum m) (gnum n) = numbers m n
codes (gnum m) (gcons c d) = inr (λ e. absurd (cc (e)))
codes (gcons a b) gnil = inr (λ e. absurd (cc (e)))
codes (gcons a b) (gnum n) = inr (λ e. absurd (cc (e)))
codes (gcons a b) (gcons c d) = pairs (codes a c) (codes b d)
  where
    pairs : Either (a ≡ c) → Either (b ≡ d) → Either (gcons a b ≡ gcons c d)
    pairs (inl first) (inl second) = inl (ap₂ gcons first second)
    pairs (inr differs) second = inr (λ e. differs (ap left_of e))
    pairs (inl first) (inr differs) = inr (λ e. differs (ap right_of e))

pub same_rows : (a b : Rows) → (a ≡ b) ⊎ (a ≡ b → ⊥)
same_rows a b =
    elim (codes (the_row.coded.code a) (the_row.coded.code b)) [
      | inl same ↦ inl (the_row.coded.inj a b same)
      | inr differ ↦ inr (λ e. differ (ap the_row.coded.code e))
    ]
