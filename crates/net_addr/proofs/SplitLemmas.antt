-- Texts that are joined by a mark are split at it again.
use Rattle.std.proofs.Common.{◌≡◌, ℕ, zero, suc, Bool, true, false, not, List, [], ◌∷◌, eqb, arith, refl, ap, ◌∙◌}
use Rattle.std.specs.List.{slice_split, join_with_byte, All, list_all}
use Rattle.std.proofs.lemmas.Bool.{and_parts, not-true, eq-eqb}
use Rattle.std.proofs.lemmas.List.Splits.{slice_split_at, slice_split_none}

-- the bytes have no mark among them
abbrev pub is_other : ℕ → ℕ → Bool
is_other mark b = not (eqb b mark)

all_other : (mark : ℕ) (bs : List ℕ) → list_all (is_other mark) bs ≡ true → All (λ b. eqb b mark ≡ false) bs
all_other mark [] h k d inside = absurd (omega arith)
all_other mark (b ∷ bs) h zero d inside = not-true (eqb b mark) (and_parts _ _ h).0
all_other mark (b ∷ bs) h (suc k) d inside = all_other mark bs (and_parts _ _ h).1 k d (omega arith)

-- none of the texts has the mark
abbrev pub AllFree : ℕ → List (List ℕ) → Type 0
AllFree mark [] = Unit {0}
AllFree mark (bs ∷ more) = (list_all (is_other mark) bs ≡ true) × AllFree mark more

pub split_joined : (mark : ℕ) (first : List ℕ) (more : List (List ℕ)) → list_all (is_other mark) first ≡ true → AllFree mark more
    → slice_split (λ b. eqb b mark) (join_with_byte mark (first ∷ more)) ≡ first ∷ more
split_joined mark first [] h free = slice_split_none (λ b. eqb b mark) first (all_other mark first h)
split_joined mark first (next ∷ more) h free =
    slice_split_at (λ b. eqb b mark) first mark (join_with_byte mark (next ∷ more)) (all_other mark first h) (eq-eqb mark mark refl)
    ∙ ap (λ parts. first ∷ parts) (split_joined mark next more free.0 free.1)
