-- Hexadecimal numerals, a digit at a time.
use Rattle.std.proofs.Common.{◌≡◌, ◌≢◌, ◌<◌, ◌≤◌, ◌/◌, ◌%◌, ◌-◌, ◌∙◌, ◌++◌, ◌∷◌, [], ℕ, zero, suc, Bool, true, false, List, cond, eqb, refl, sym, ap, append_assoc, arith, inl, inr}
use Rattle.std.specs.Fmt.{digit_glyph, digits, digits_onto}
use Rattle.std.proofs.lemmas.Bool.{cases_lt, eq-eqb, ne_eqb}
use Rattle.std.proofs.lemmas.Fmt.{hex_one_digit, hex_two_digits}

whole : (n : ℕ) → digits 16 false n ≡ digits_onto 64 16 false n []
unfolding digits
whole n = refl

one_more : (k n : ℕ) (acc : List ℕ) (t : Bool) → eqb (n / 16) 0 ≡ t → digits_onto (suc k) 16 false n acc ≡ cond t (digit_glyph false (n % 16) ∷ acc) (digits_onto k 16 false (n / 16) (digit_glyph false (n % 16) ∷ acc))
one_more k n acc t e = ap (λ (b : Bool). cond b (digit_glyph false (n % 16) ∷ acc) (digits_onto k 16 false (n / 16) (digit_glyph false (n % 16) ∷ acc))) e

first : (i n : ℕ) (acc : List ℕ) → 0 < i → n / 16 ≡ 0 → digits_onto i 16 false n acc ≡ digit_glyph false (n % 16) ∷ acc
first zero n acc h e = absurd (omega arith)
first (suc k) n acc h e = one_more k n acc true (eq-eqb _ 0 e)

step : (i n : ℕ) (acc : List ℕ) → 0 < i → n / 16 ≢ 0 → digits_onto i 16 false n acc ≡ digits_onto (i - 1) 16 false (n / 16) (digit_glyph false (n % 16) ∷ acc)
step zero n acc h e = absurd (omega arith)
step (suc k) n acc h e = one_more k n acc false (ne_eqb _ 0 e) ∙ ap (λ (j : ℕ). digits_onto j 16 false (n / 16) (digit_glyph false (n % 16) ∷ acc)) {x = k} {y = suc k - 1} (omega arith)

-- one digit
pub hex_first : (n : ℕ) → n < 16 → digits 16 false n ≡ digit_glyph false n ∷ []
hex_first n small = hex_one_digit false n small

three : (n : ℕ) → 256 ≤ n → n < 4096 → digits 16 false n ≡ digit_glyph false (n / 256) ∷ digit_glyph false (n / 16 % 16) ∷ digit_glyph false (n % 16) ∷ []
three n large small =
    let ds : List ℕ = digit_glyph false (n % 16) ∷ [] in
    let same : n / 16 / 16 % 16 ≡ n / 256 = omega arith in
    whole n ∙ step 64 n [] (omega arith) (omega arith)
    ∙ step 63 (n / 16) ds (omega arith) (omega arith)
    ∙ first 62 (n / 16 / 16) (digit_glyph false (n / 16 % 16) ∷ ds) (omega arith) (omega arith)
    ∙ ap (λ d. digit_glyph false d ∷ digit_glyph false (n / 16 % 16) ∷ ds) same

four : (n : ℕ) → 4096 ≤ n → n < 65536 → digits 16 false n ≡ digit_glyph false (n / 4096) ∷ digit_glyph false (n / 256 % 16) ∷ digit_glyph false (n / 16 % 16) ∷ digit_glyph false (n % 16) ∷ []
four n large small =
    let ds : List ℕ = digit_glyph false (n % 16) ∷ [] in
    let es : List ℕ = digit_glyph false (n / 16 % 16) ∷ ds in
    let fs : List ℕ = digit_glyph false (n / 16 / 16 % 16) ∷ es in
    let third : n / 16 / 16 % 16 ≡ n / 256 % 16 = omega arith in
    let fourth : n / 16 / 16 / 16 % 16 ≡ n / 4096 = omega arith in
    whole n ∙ step 64 n [] (omega arith) (omega arith)
    ∙ step 63 (n / 16) ds (omega arith) (omega arith)
    ∙ step 62 (n / 16 / 16) es (omega arith) (omega arith)
    ∙ first 61 (n / 16 / 16 / 16) fs (omega arith) (omega arith)
    ∙ ap (λ d. digit_glyph false d ∷ fs) fourth
    ∙ ap (λ d. digit_glyph false (n / 4096) ∷ digit_glyph false d ∷ es) third

-- the front, and the last digit
pub hex_more : (n : ℕ) → 16 ≤ n → n < 65536 → digits 16 false n ≡ digits 16 false (n / 16) ++ digit_glyph false (n % 16) ∷ []
hex_more n large small =
    elim (cases_lt n 256) [
      | inl two ↦ rw (hex_two_digits false n large two, hex_first (n / 16) (omega arith)) refl
      | inr more ↦
          elim (cases_lt n 4096) [
            | inl below ↦
                let high : n / 16 / 16 ≡ n / 256 = omega arith in
                rw (three n more below, hex_two_digits false (n / 16) (omega arith) (omega arith), high) refl
            | inr past ↦
                let high : n / 16 / 256 ≡ n / 4096 = omega arith in
                let next : n / 16 / 16 ≡ n / 256 = omega arith in
                rw (four n past small, three (n / 16) (omega arith) (omega arith), high, next) refl
          ]
    ]

-- a text, and then another
pub appended : (a fs gs : List ℕ) {b d ds : List ℕ} → b ≡ a ++ fs → d ≡ b ++ gs → ds ≡ fs ++ gs → d ≡ a ++ ds
appended a fs gs p q r = q ∙ ap (λ xs. xs ++ gs) p ∙ append_assoc a fs gs ∙ ap (λ xs. a ++ xs) (sym r)
