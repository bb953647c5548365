-- One byte of labels joined by dots.
use Rattle.std.proofs.Common.{◌≡◌, ◌==◌, ◌+◌, ◌<◌, ◌≤◌, ℕ, true, false, List, [], ◌∷◌, ◌++◌, length, drop, get_or, arith, refl, sym, ap, ◌∙◌}
use Rattle.std.proofs.lemmas.Bool.Decides.{nat_tests}
use Rattle.std.specs.List.{between}
use Rattle.std.proofs.lemmas.List.{drop_more}
use Rattle.std.proofs.lemmas.List.Edits.{between_more, between_none}
use Rattle.tail_base.specs.Labels.{is_label}
use Rattle.settings.specs.Settings.{are_labels}

no_dot : (b : ℕ) → (b ≡ 46 → ⊥) → (b == 46) ≡ false
no_dot b other = grind (arith, nat_tests)

-- a dot after a label, and what follows
at_dot : (label rest : List ℕ) (b : ℕ) → (b == 46) ≡ true → is_label label ≡ true → are_labels label (b ∷ rest) ≡ are_labels [] rest
at_dot label rest b dot good = rw (dot, good) refl

at_byte : (label rest : List ℕ) (b : ℕ) → (b == 46) ≡ false → are_labels label (b ∷ rest) ≡ are_labels (label ++ b ∷ []) rest
at_byte label rest b other = rw other refl

pub after_dot : (text : List ℕ) (start i : ℕ) → i < length text → get_or text i 0 ≡ 46 → is_label (between start i text) ≡ true
    → are_labels (between start i text) (drop i text) ≡ are_labels (between (i + 1) (i + 1) text) (drop (i + 1) text)
after_dot text start i below dot good =
    ap (are_labels (between start i text)) (drop_more text i 0 below) ∙ at_dot (between start i text) (drop (i + 1) text) (get_or text i 0) (ap (λ b. b == 46) dot) good ∙ ap (λ l. are_labels l (drop (i + 1) text)) (sym (between_none text (i + 1)))

pub after_byte : (text : List ℕ) (start i : ℕ) → start ≤ i → i < length text → (get_or text i 0 ≡ 46 → ⊥)
    → are_labels (between start i text) (drop i text) ≡ are_labels (between start (i + 1) text) (drop (i + 1) text)
after_byte text start i begun below other =
    ap (are_labels (between start i text)) (drop_more text i 0 below) ∙ at_byte (between start i text) (drop (i + 1) text) (get_or text i 0) (no_dot (get_or text i 0) other) ∙ ap (λ l. are_labels l (drop (i + 1) text)) (sym (between_more text start i 0 begun below))
