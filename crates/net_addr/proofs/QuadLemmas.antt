-- IPv4 addresses are read from their own texts alone.
use Rattle.std.proofs.Common.{◌≡◌, ◌<◌, ◌+◌, ◌*◌, ◌^◌, ℕ, true, List, [], ◌∷◌, eqb, Some, arith, refl, sym, ap, ◌∙◌}
use Rattle.std.specs.Char.{is_ascii_digit}
use Rattle.std.specs.Fmt.{decimal}
use Rattle.std.specs.List.{slice_split, join_with_byte, list_all}
use Rattle.std.specs.Option.{option_and_then}
use Rattle.std.proofs.lemmas.Bool.Decides.{nat_tests}
use Rattle.std.proofs.lemmas.List.Splits.{join_with_byte-slice_split}
use Rattle.net_addr.specs.declared.parts.Notation.TheVariants.{Decimal}
use Rattle.net_addr.specs.Parts.{parts_of, parts_from}
use Rattle.net_addr.specs.QuadTexts.{byte_at, quad_number, quad_of_text, quad_text}
use Rattle.tail_base.proofs.AllBytes.{all_weaker}
use Rattle.net_addr.proofs.DecimalLemmas.{number_text, number_of_decimal}
use Rattle.tail_base.proofs.NumberLemmas.{decimal_digits}
use Rattle.tail_base.proofs.NumeralLemmas.{number_in_fits}
use Rattle.net_addr.proofs.PartLemmas.{and_then_some}
use Rattle.net_addr.proofs.ReadLemmas.{ReadAs, parts_read, read_parts}
use Rattle.net_addr.proofs.SplitLemmas.{is_other, split_joined}

-- four texts of bytes, joined
four : (texts : List (List ℕ)) (parts : List ℕ) (n : ℕ) → ReadAs Decimal texts parts → quad_number parts ≡ Some n → join_with_byte 46 texts ≡ quad_text n
four (s ∷ t ∷ u ∷ v ∷ []) (a ∷ b ∷ c ∷ d ∷ []) n h is =
    let same : ((a * 256 + b) * 256 + c) * 256 + d ≡ n = cc (is) in
    let small_a = (number_in_fits 3 0 255 a s h.0).1 in
    let small_b = (number_in_fits 3 0 255 b t h.1.0).1 in
    let small_c = (number_in_fits 3 0 255 c u h.1.1.0).1 in
    let small_d = (number_in_fits 3 0 255 d v h.1.1.1.0).1 in
    let first : a ≡ byte_at n 3 = omega arith in
    let second : b ≡ byte_at n 2 = omega arith in
    let third : c ≡ byte_at n 1 = omega arith in
    let fourth : d ≡ byte_at n 0 = omega arith in
    rw (number_text 3 255 a s (omega arith) h.0, number_text 3 255 b t (omega arith) h.1.0, number_text 3 255 c u (omega arith) h.1.1.0, number_text 3 255 d v (omega arith) h.1.1.1.0)
    (rw (first, second, third, fourth) refl)
four [] (a ∷ b ∷ c ∷ d ∷ []) n h is = absurd h
four (s ∷ []) (a ∷ b ∷ c ∷ d ∷ []) n h is = absurd h.1
four (s ∷ t ∷ []) (a ∷ b ∷ c ∷ d ∷ []) n h is = absurd h.1.1
four (s ∷ t ∷ u ∷ []) (a ∷ b ∷ c ∷ d ∷ []) n h is = absurd h.1.1.1
four (s ∷ t ∷ u ∷ v ∷ w ∷ more) (a ∷ b ∷ c ∷ d ∷ []) n h is = absurd h.1.1.1.1
four texts [] n h is = absurd (cc (is))
four texts (a ∷ []) n h is = absurd (cc (is))
four texts (a ∷ b ∷ []) n h is = absurd (cc (is))
four texts (a ∷ b ∷ c ∷ []) n h is = absurd (cc (is))
four texts (a ∷ b ∷ c ∷ d ∷ e ∷ more) n h is = absurd (cc (is))

pub quad_spelled : (text : List ℕ) (n : ℕ) → quad_of_text text ≡ Some n → text ≡ quad_text n
quad_spelled text n h =
    let step = and_then_some (parts_of Decimal text) quad_number n h in
    let read = parts_read Decimal [] (slice_split (λ b. eqb b 46) text) step.0 step.1 in
    let parts : quad_number read.0 ≡ Some n = ap quad_number (sym read.1) ∙ step.2 in
    sym (join_with_byte-slice_split 46 text) ∙ four (slice_split (λ b. eqb b 46) text) read.0 n read.2 parts

digit_other : (b : ℕ) → is_ascii_digit b ≡ true → is_other 46 b ≡ true
digit_other b h = grind (arith, nat_tests)

free : (n : ℕ) → n < 256 → list_all (is_other 46) (decimal n) ≡ true
free n small = all_weaker is_ascii_digit (is_other 46) digit_other (decimal n) (decimal_digits n (omega arith))

pub quad_read : (n : ℕ) → n < 2 ^ 32 → quad_of_text (quad_text n) ≡ Some n
quad_read n small =
    let a = byte_at n 3 in
    let b = byte_at n 2 in
    let c = byte_at n 1 in
    let d = byte_at n 0 in
    let bounds : (a < 256) × (b < 256) × (c < 256) × (d < 256) = (omega arith, omega arith, omega arith, omega arith) in
    let split = split_joined 46 (decimal a) (decimal b ∷ decimal c ∷ decimal d ∷ []) (free a bounds.0) (free b bounds.1, (free c bounds.2, (free d bounds.3, tt))) in
    let read = read_parts Decimal [] (decimal a ∷ decimal b ∷ decimal c ∷ decimal d ∷ []) (a ∷ b ∷ c ∷ d ∷ [])
    (number_of_decimal 3 255 a (omega arith) (omega arith) (omega arith) (omega arith), (number_of_decimal 3 255 b (omega arith) (omega arith) (omega arith) (omega arith), (number_of_decimal 3 255 c (omega arith) (omega arith) (omega arith) (omega arith), (number_of_decimal 3 255 d (omega arith) (omega arith) (omega arith) (omega arith), tt)))) (omega arith) in
    let whole : ((a * 256 + b) * 256 + c) * 256 + d ≡ n = omega arith in
    ap (λ parts. option_and_then quad_number (parts_from Decimal [] parts)) split ∙ ap (option_and_then quad_number) read ∙ ap Some whole
