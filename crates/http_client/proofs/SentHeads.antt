-- The head that the server writes is one of the grammar, and states its body's length.
use Rattle.std.proofs.Common.{◌≡◌, ℕ, zero, suc, ◌+◌, ◌<◌, ◌≤◌, ◌^◌, Bool, true, false, ◌&&◌, IsTrue, leb, List, [], ◌∷◌, ◌++◌, length, reverse, Some, codes, refl, sym, ap, subst, ◌∙◌, All, lit<, lit≤, arith, append_assoc, length-append}
use Rattle.std.specs.Prelude.{unwrap_or}
use Rattle.std.specs.Char.{is_ascii_digit}
use Rattle.std.specs.Fmt.{decimal}
use Rattle.std.specs.List.{list_all}
use Rattle.std.specs.Str.{all_ascii_digits}
use Rattle.std.proofs.lemmas.Bool.{and_from, and_parts, cond-true, cond-false, le-leb, leb-true, lt-ltb}
use Rattle.std.proofs.lemmas.Bool.Decides.{Decides-below_and, Decides-by_and, nat_tests}
use Rattle.std.proofs.lemmas.Fmt.{decimal_is_IsNumeral, decimal_nonempty, length-decimal-le}
use Rattle.std.proofs.lemmas.Int.Digits.{digits_value-lt}
use Rattle.std.proofs.lemmas.List.Elements.{All-from_recursion}
use Rattle.httparse.specs.Grammar.{AllPass, Field, IsField, IsResponseHead, ResponseHead, crlf, is_ows, is_token_byte, is_value_byte, print_response, skip_ows, trim_ows}
use Rattle.httparse.proofs.TrimLemmas.{AllPass-reverse, trim_ows_space}
use Rattle.http.specs.StatusCode.{reason_phrase}
use Rattle.tail_base.proofs.NumberLemmas.{decimal_digits}
use Rattle.http_front.specs.AnswerBytes.{answer_head, close_line}
use Rattle.http_front.specs.Lines.{length_value}
use Rattle.http_front.specs.Requests.{head_limit}
use Rattle.http_client.specs.Answers.{answer_head_of, answer_length, answer_limit, only_length, within_limit}

from_test : (test : ℕ → Bool) (bytes : List ℕ) → list_all test bytes ≡ true → AllPass test bytes
from_test test bytes = (Decides-by_and test (λ b. IsTrue (test b)) (list_all test) (λ b. (λ h. h, λ h. h)) refl (λ _ _. refl) bytes).0

to_test : (test : ℕ → Bool) (bytes : List ℕ) → AllPass test bytes → list_all test bytes ≡ true
to_test test bytes = (Decides-by_and test (λ b. IsTrue (test b)) (list_all test) (λ b. (λ h. h, λ h. h)) refl (λ _ _. refl) bytes).1

-- ---- phrases

abbrev phrase_of : ℕ → List ℕ
phrase_of n = unwrap_or (reason_phrase n) []

abbrev is_fit : List ℕ → Bool
is_fit phrase = list_all is_value_byte phrase && leb (length phrase) 64

abbrev fit_below : ℕ → Bool
fit_below zero = true
fit_below (suc n) = is_fit (phrase_of n) && fit_below n

fit_phrase : (n : ℕ) → n < 1000 → is_fit (phrase_of n) ≡ true
fit_phrase n small =
    let test = λ (k : ℕ). is_fit (phrase_of k) in
    (Decides-below_and test (λ k. test k ≡ true) fit_below (λ k. (λ x. x, λ x. x)) refl (λ _. refl) 1000).0 refl n small

-- ---- numbers

digit_no_ows : (b : ℕ) → is_ascii_digit b ≡ true → is_ows b ≡ false
digit_no_ows b h = grind (arith, nat_tests)

digit_value_byte : (b : ℕ) → is_ascii_digit b ≡ true → is_value_byte b ≡ true
digit_value_byte b h = grind (arith, nat_tests)

no_ows : (ds : List ℕ) → list_all is_ascii_digit ds ≡ true → skip_ows ds ≡ ds
no_ows [] h = refl
no_ows (d ∷ ds) h = cond-false _ _ _ (digit_no_ows d (and_parts _ _ h).0)

digits_are_values : (ds : List ℕ) → list_all is_ascii_digit ds ≡ true → list_all is_value_byte ds ≡ true
digits_are_values [] h = refl
digits_are_values (d ∷ ds) h =
    let parts = and_parts _ _ h in
    and_from _ _ (digit_value_byte d parts.0) (digits_are_values ds parts.1)

all_digits : (ds : List ℕ) → list_all is_ascii_digit ds ≡ true → all_ascii_digits ds ≡ true
all_digits [] h = refl
all_digits (d ∷ ds) h =
    let parts = and_parts _ _ h in
    and_from _ _ parts.0 (all_digits ds parts.1)

number_trimmed : (n : ℕ) → n < 2 ^ 64 → trim_ows (32 ∷ decimal n) ≡ decimal n
number_trimmed n small =
    let ds = decimal n in
    let digits = decimal_digits n small in
    let back = to_test is_ascii_digit (reverse ds) (AllPass-reverse is_ascii_digit ds (from_test is_ascii_digit ds digits)) in
    trim_ows_space ds (no_ows ds digits) (no_ows (reverse ds) back)

number_length : (n : ℕ) → n ≤ answer_limit → length_value (decimal n) ≡ Some n
number_length n small =
    let ds = decimal n in
    let some = decimal_nonempty n (omega arith) in
    let few = length-decimal-le 10 n (omega arith) (omega arith) (omega arith) in
    let test = and_from _ _ (lt-ltb 0 (length ds) some) (and_from _ _ (le-leb (length ds) 10 few) (all_digits ds (decimal_digits n (omega arith)))) in
    cond-true _ _ _ test ∙ ap Some (decimal_is_IsNumeral n (omega arith)).1

three_long : (k n : ℕ) → n < 10 ^ k → 100 ≤ n → k ≤ 3 → k ≡ 3
three_long zero n small low most = absurd (omega arith)
three_long (suc zero) n small low most = absurd (omega arith)
three_long (suc (suc zero)) n small low most = absurd (omega arith)
three_long (suc (suc (suc zero))) n small low most = refl
three_long (suc (suc (suc (suc k)))) n small low most = absurd (omega arith)

three_digits : (n : ℕ) → 100 ≤ n → n < 1000 → length (decimal n) ≡ 3
three_digits n low high =
    let numeral = decimal_is_IsNumeral n (omega arith) in
    let below = digits_value-lt 10 (decimal n) numeral.0.1 in
    three_long (length (decimal n)) n (subst (λ m. m < 10 ^ length (decimal n)) numeral.1 below) low (length-decimal-le 3 n (omega arith) (omega arith) (omega arith))

-- ---- the head

abbrev type_field : Field
type_field = record { name = codes "Content-Type"; raw = codes " application/json"; end = crlf }

abbrev length_field : ℕ → Field
length_field size = record { name = codes "Content-Length"; raw = 32 ∷ decimal size; end = crlf }

abbrev close_field : Field
close_field = record { name = codes "Connection"; raw = codes " close"; end = crlf }

abbrev sent_fields : ℕ → Bool → List Field
sent_fields size true = type_field ∷ length_field size ∷ close_field ∷ []
sent_fields size false = type_field ∷ length_field size ∷ []

abbrev pub sent_head : ℕ → ℕ → Bool → ResponseHead
sent_head status size close = record {
  blank = [];
  minor = 1;
  digits = decimal status;
  reason = Some (phrase_of status);
  line_end = crlf;
  fields = sent_fields size close;
  last = crlf;
}

-- two pieces behind a number, as one
behind_number : (number tail last : List ℕ) → ((number ++ codes "\r\n") ++ tail) ++ last ≡ number ++ (codes "\r\n" ++ (tail ++ last))
behind_number number tail last = append_assoc (number ++ codes "\r\n") tail last ∙ append_assoc number (codes "\r\n") (tail ++ last)

five_pieces : (a b d e f : List ℕ) → a ++ b ++ d ++ e ++ f ≡ a ++ (b ++ (d ++ (e ++ f)))
five_pieces a b d e f = append_assoc (a ++ b ++ d) e f ∙ append_assoc (a ++ b) d (e ++ f) ∙ append_assoc a b (d ++ (e ++ f))

nine_pieces : (a b d e f g h i j : List ℕ) → a ++ b ++ d ++ e ++ f ++ g ++ h ++ i ++ j ≡ a ++ (b ++ (d ++ (e ++ (f ++ (g ++ (h ++ (i ++ j)))))))
nine_pieces a b d e f g h i j =
    five_pieces (a ++ b ++ d ++ e ++ f) g h i j ∙ append_assoc (a ++ b ++ d ++ e) f (g ++ (h ++ (i ++ j))) ∙ five_pieces a b d e (f ++ (g ++ (h ++ (i ++ j))))

abbrev type_and_length : List ℕ
type_and_length = codes "\r\nContent-Type: application/json\r\nContent-Length: "

abbrev head_before : List ℕ → List ℕ → List ℕ → List ℕ
head_before digits phrase tail = codes "HTTP/1.1 " ++ (digits ++ (codes " " ++ (phrase ++ (type_and_length ++ tail))))

head_is : (digits phrase number tail : List ℕ) → head_before digits phrase (((number ++ codes "\r\n") ++ tail) ++ codes "\r\n")
    ≡ codes "HTTP/1.1 " ++ digits ++ codes " " ++ phrase ++ type_and_length ++ number ++ codes "\r\n" ++ tail ++ codes "\r\n"
head_is digits phrase number tail =
    ap (head_before digits phrase) (behind_number number tail (codes "\r\n"))
    ∙ sym (nine_pieces (codes "HTTP/1.1 ") digits (codes " ") phrase type_and_length number (codes "\r\n") tail (codes "\r\n"))

printed : (digits phrase section : List ℕ) → codes "HTTP/1.1" ++ (32 ∷ digits) ++ (32 ∷ phrase) ++ codes "\r\n" ++ section
    ≡ codes "HTTP/1.1" ++ ((32 ∷ digits) ++ ((32 ∷ phrase) ++ (codes "\r\n" ++ section)))
printed digits phrase section = five_pieces (codes "HTTP/1.1") (32 ∷ digits) (32 ∷ phrase) (codes "\r\n") section

pub sent_is : (status size : ℕ) (close : Bool) → print_response (sent_head status size close) ≡ answer_head status (phrase_of status) size (close_line close)
unfolding print_response
sent_is status size true = printed (decimal status) (phrase_of status) _ ∙ head_is (decimal status) (phrase_of status) (decimal size) (codes "Connection: close\r\n")
sent_is status size false = printed (decimal status) (phrase_of status) _ ∙ head_is (decimal status) (phrase_of status) (decimal size) []

pub sent_length : (status size : ℕ) (close : Bool) → size ≤ answer_limit → answer_length (answer_head_of (sent_head status size close)) ≡ Some size
unfolding answer_length
sent_length status size close small =
    let value : only_length (trim_ows (32 ∷ decimal size) ∷ []) ≡ Some size =
    ap (λ v. only_length (v ∷ [])) (number_trimmed size (omega arith)) ∙ ap within_limit (number_length size small) ∙ cond-true _ _ _ (le-leb size answer_limit small) in
    elim close as (λ b. answer_length (answer_head_of (sent_head status size b)) ≡ Some size) [ true ↦ value | false ↦ value ]

field_of : (name raw : List ℕ) → list_all is_token_byte name ≡ true → 0 < length name → list_all is_value_byte raw ≡ true → IsField (record { name = name; raw = raw; end = crlf })
field_of name raw token some value = record { name = (some, from_test is_token_byte name token); raw = from_test is_value_byte raw value }

sent_fields_are : (size : ℕ) (close : Bool) → size ≤ answer_limit → All IsField (sent_fields size close)
unfolding is_token_byte
sent_fields_are size close small =
    let first : IsField type_field = field_of _ _ refl (lit< tt) refl in
    let second : IsField (length_field size) = field_of _ _ refl (lit< tt) (digits_are_values (decimal size) (decimal_digits size (omega arith))) in
    let third : IsField close_field = field_of _ _ refl (lit< tt) refl in
    elim close as (λ b. All IsField (sent_fields size b)) [
      | true ↦ All-from_recursion IsField (sent_fields size true) (first, (second, (third, tt)))
      | false ↦ All-from_recursion IsField (sent_fields size false) (first, (second, tt))
    ]

pub sent_reads : (status size : ℕ) (close : Bool) → 100 ≤ status → status < 1000 → size ≤ answer_limit → IsResponseHead (sent_head status size close)
sent_reads status size close low high small = record {
  minor = omega arith;
  digits = (three_digits status low high, from_test is_ascii_digit (decimal status) (decimal_digits status (omega arith)));
  reason = from_test is_value_byte (phrase_of status) (and_parts _ _ (fit_phrase status high)).0;
  fields = sent_fields_are size close small;
}

-- a head of such pieces is short
pieces_length : (a b d e f g h i j : List ℕ) → length (a ++ b ++ d ++ e ++ f ++ g ++ h ++ i ++ j)
    ≡ length a + (length b + (length d + (length e + (length f + (length g + (length h + (length i + length j)))))))
pieces_length a b d e f g h i j =
    ap length (nine_pieces a b d e f g h i j) ∙ omega (
      arith,
      length-append a (b ++ (d ++ (e ++ (f ++ (g ++ (h ++ (i ++ j))))))),
      length-append b (d ++ (e ++ (f ++ (g ++ (h ++ (i ++ j)))))),
      length-append d (e ++ (f ++ (g ++ (h ++ (i ++ j))))),
      length-append e (f ++ (g ++ (h ++ (i ++ j)))),
      length-append f (g ++ (h ++ (i ++ j))),
      length-append g (h ++ (i ++ j)),
      length-append h (i ++ j),
      length-append i j,
    )

pub sent_fits : (status size : ℕ) (close : Bool) → 100 ≤ status → status < 1000 → size ≤ answer_limit → length (print_response (sent_head status size close)) ≤ head_limit
sent_fits status size close low high small =
    let is : length (print_response (sent_head status size close))
    ≡ 9 + (length (decimal status) + (1 + (length (phrase_of status) + (50 + (length (decimal size) + (2 + (length (close_line close) + 2)))))))
    = ap length (sent_is status size close) ∙ pieces_length (codes "HTTP/1.1 ") (decimal status) (codes " ") (phrase_of status)
    type_and_length (decimal size) (codes "\r\n") (close_line close) (codes "\r\n") in
    let digits = three_digits status low high in
    let phrase : length (phrase_of status) ≤ 64 = leb-true (length (phrase_of status)) 64
    (and_parts (list_all is_value_byte (phrase_of status)) (leb (length (phrase_of status)) 64) (fit_phrase status high)).1 in
    let number = length-decimal-le 10 size (omega arith) (omega arith) (omega arith) in
    let last : length (close_line close) ≤ 19 = elim close as (λ b. length (close_line b) ≤ 19) [ true ↦ lit≤ tt | false ↦ lit≤ tt ] in
    omega arith
