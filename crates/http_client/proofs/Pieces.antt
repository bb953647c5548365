-- Pieces that went onto a list, one after the other.
use Rattle.std.proofs.Common.{◌≡◌, ℕ, List, ◌++◌, ap, ◌∙◌, append_assoc}

pub three_pieces : (old a b d first second third : List ℕ) → first ≡ old ++ a → second ≡ first ++ b → third ≡ second ++ d → third ≡ old ++ (a ++ (b ++ d))
three_pieces old a b d first second third e f g =
    g ∙ ap (λ s. s ++ d) f ∙ append_assoc first b d ∙ ap (λ s. s ++ (b ++ d)) e ∙ append_assoc old a (b ++ d)
