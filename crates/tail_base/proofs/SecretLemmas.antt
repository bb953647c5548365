-- Bytes are the same where no bit of them differs.
use Rattle.std.proofs.Common.{◌≡◌, ℕ, ◌+◌, ◌*◌, ◌≤◌, Bool, true, false, ◌&&◌, nat_eq, bit_and, bit_or, arith, refl, sym, ap, ◌∙◌, List, [], ◌∷◌, length, inl, inr, ◌⊎◌}
use Rattle.std.specs.Str.{bytes_eq}
use Rattle.std.specs.Int.Bits.{bit_xor, xor_add_and, xor_self, or_zero_l}
use Rattle.std.proofs.lemmas.Nat.{and_le_l, and_le_r, le_or_l, le_or_r}
use Rattle.std.proofs.lemmas.Bool.{and_from, and_parts, eqb-true, eq-eqb}

agree : (s t : Bool) → (s ≡ true → t ≡ true) → (t ≡ true → s ≡ true) → s ≡ t
agree true t to from = sym (to refl)
agree false true to from = from refl
agree false false to from = refl

together : (p q r : Bool) → ((p && q) && r) ≡ (p && (q && r))
together true q r = refl
together false q r = refl

right_true : (p : Bool) → (p && true) ≡ p
right_true true = refl
right_true false = refl

same_byte : (d a b : ℕ) → nat_eq (bit_or d (bit_xor a b)) 0 ≡ (nat_eq d 0 && nat_eq a b)
same_byte d a b = agree (nat_eq (bit_or d (bit_xor a b)) 0) (nat_eq d 0 && nat_eq a b) (
    λ none. let zero : bit_or d (bit_xor a b) ≡ 0 = eqb-true (bit_or d (bit_xor a b)) 0 none in
    and_from (nat_eq d 0) (nat_eq a b) (
    eq-eqb d 0 (omega (arith, le_or_l d (bit_xor a b)))
    ) (eq-eqb a b (omega (arith, le_or_r d (bit_xor a b), xor_add_and a b, and_le_l a b, and_le_r a b)))
    ) (
    λ both. let parts = and_parts (nat_eq d 0) (nat_eq a b) both in
    eq-eqb (bit_or d (bit_xor a b)) 0 (
    ap (λ x. bit_or x (bit_xor a b)) (eqb-true d 0 parts.0) ∙ or_zero_l (bit_xor a b) ∙ ap (λ x. bit_xor a x) (sym (eqb-true a b parts.1)) ∙ xor_self a
    )
    )

-- what differs so far and the rest of two texts, one byte later
pub one_more : (d a b : ℕ) (xs ys : List ℕ) → (nat_eq (bit_or d (bit_xor a b)) 0 && bytes_eq xs ys) ≡ (nat_eq d 0 && bytes_eq (a ∷ xs) (b ∷ ys))
one_more d a b xs ys = ap (λ t. t && bytes_eq xs ys) (same_byte d a b) ∙ together (nat_eq d 0) (nat_eq a b) (bytes_eq xs ys)

pub ended : (d : ℕ) (xs ys : List ℕ) → length xs ≡ length ys → (length xs ≡ 0) ⊎ (length ys ≡ 0) → nat_eq d 0 ≡ (nat_eq d 0 && bytes_eq xs ys)
ended d [] [] long none = sym (right_true (nat_eq d 0))
ended d [] (y ∷ ys) long none = absurd (omega arith)
ended d (x ∷ xs) [] long none = absurd (omega arith)
ended d (x ∷ xs) (y ∷ ys) long none = elim none [ inl p ↦ absurd (omega arith) | inr p ↦ absurd (omega arith) ]
