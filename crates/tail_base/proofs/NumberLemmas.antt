-- A label with a number behind it is a label, and tells the number.
use Rattle.std.proofs.Common.{◌≡◌, ◌<◌, ◌≤◌, ◌+◌, ◌-◌, ◌^◌, ◌%◌, ℕ, true, false, not, ◌&&◌, List, [], ◌∷◌, ◌++◌, length, take, get_or, reverse, arith, leb, refl, sym, ap, ◌∙◌, inl, inr}
use Rattle.std.specs.Prelude.{nat_eq, codes}
use Rattle.std.specs.Char.{is_ascii_digit}
use Rattle.std.specs.Fmt.{decimal}
use Rattle.std.specs.List.{list_all, suffix_len, starts_with, ends_with}
use Rattle.std.specs.Str.{IsAscii}
use Rattle.std.proofs.lemmas.Bool.{and_parts, and_from, cases_lt, le-leb, leb-true, both_ways, not-true, not_from_false}
use Rattle.std.proofs.lemmas.Bool.Decides.{nat_tests}
use Rattle.std.proofs.lemmas.Fmt.{decimal_by_steps, decimal_injective, decimal_nonempty, length-decimal-le}
use Rattle.std.proofs.lemmas.Grind.{get_or_tail, reverse_onto}
use Rattle.std.proofs.lemmas.List.{length-take, length-append, get_or-reverse, get_or-take, get_or-append_right, reverse-append, reverse-reverse, append_assoc}
use Rattle.std.proofs.lemmas.List.Sums.{prefix_len_passes}
use Rattle.tail_base.specs.Labels.{is_hyphen, is_label, is_label_byte, has_label_length, has_good_ends, trimmed_end, numbered_label}
use Rattle.tail_base.proofs.AllBytes.{all_take, all_append, all_ascii, all_at, all_weaker}
use Rattle.tail_base.proofs.LabelLemmas.{byte_small, label_bytes}
use Rattle.tail_base.proofs.HostLemmas.{cut_begins, last_byte}

pub decimal_digits : (n : ℕ) → n < 2 ^ 64 → list_all is_ascii_digit (decimal n) ≡ true
decimal_digits = decimal_by_steps (λ n ds. list_all is_ascii_digit ds ≡ true) one more
  where
    one : (n : ℕ) → n < 10 → list_all is_ascii_digit ((48 + n) ∷ []) ≡ true
    one n small = grind (arith, nat_tests)

    more : (n : ℕ) (ds : List ℕ) → 10 ≤ n → list_all is_ascii_digit ds ≡ true → list_all is_ascii_digit (ds ++ ((48 + n % 10) ∷ [])) ≡ true
    more n ds big h =
        let d = n % 10 in
        let small : d < 10 = omega arith in
        all_append is_ascii_digit ds ((48 + d) ∷ []) h (one d small)

digit_in_label : (b : ℕ) → is_ascii_digit b ≡ true → is_label_byte b ≡ true
digit_in_label b h = grind (arith, nat_tests)

digit_no_hyphen : (b : ℕ) → is_ascii_digit b ≡ true → is_hyphen b ≡ false
digit_no_hyphen b h = grind (arith, nat_tests)

-- a text that doesn't begin with a hyphen isn't all hyphens
not_all_hyphens : (bs : List ℕ) → 0 < length bs → is_hyphen (get_or bs 0 0) ≡ false → suffix_len is_hyphen bs < length bs
not_all_hyphens bs some other =
    elim (cases_lt (suffix_len is_hyphen bs) (length bs)) [
      | inl inside ↦ inside
      | inr past ↦
          let last : length bs - 1 < length bs = omega arith in
          let hit = prefix_len_passes is_hyphen (reverse bs) (length bs - 1) 0 (omega arith) in
          let first : length bs - 1 - (length bs - 1) ≡ 0 = omega arith in
          let same : get_or (reverse bs) (length bs - 1) 0 ≡ get_or bs 0 0 = get_or-reverse bs (length bs - 1) 0 last ∙ ap (λ i. get_or bs i 0) first in
          absurd (both_ways _ (ap is_hyphen same ∙ other) hit)
    ]

first_of_label : (bs : List ℕ) → 0 < length bs → starts_with nat_eq bs (codes "-") ≡ false → is_hyphen (get_or bs 0 0) ≡ false
first_of_label [] some h = absurd (omega arith)
first_of_label (b ∷ bs) some h = grind (arith, nat_tests)

append_begins : (xs ys : List ℕ) → 0 < length xs → starts_with nat_eq xs (codes "-") ≡ false → starts_with nat_eq (xs ++ ys) (codes "-") ≡ false
append_begins [] ys some h = absurd (omega arith)
append_begins (x ∷ xs) ys some h = h

-- the front of a numbered label, where k bytes are left to it
front_begins : (k : ℕ) (base : List ℕ) → starts_with nat_eq base (codes "-") ≡ false → starts_with nat_eq (trimmed_end (take k base)) (codes "-") ≡ false
front_begins k base h = cut_begins _ (take k base) (cut_begins k base h)

front_some : (k : ℕ) (base : List ℕ) → 0 < k → 0 < length base → starts_with nat_eq base (codes "-") ≡ false → 0 < length (trimmed_end (take k base))
front_some k base room some h =
    let cut = take k base in
    let long = length-take k base in
    let first : is_hyphen (get_or cut 0 0) ≡ false = ap is_hyphen (get_or-take k base 0 0 room) ∙ first_of_label base some h in
    let inside = not_all_hyphens cut (omega arith) first in
    omega (arith, length-take (length cut - suffix_len is_hyphen cut) cut)

ending_ends : (front ds : List ℕ) → 0 < length ds → list_all is_ascii_digit ds ≡ true → ends_with nat_eq (front ++ 45 ∷ ds) (codes "-") ≡ false
ending_ends front ds some digits =
    let whole = front ++ 45 ∷ ds in
    let long = length-append front (45 ∷ ds) in
    let n = length whole - 1 in
    let right = get_or-append_right front (45 ∷ ds) (length front) n 0 refl (omega arith) in
    let place : n - length front ≡ length ds = omega arith in
    let last = get_or_tail 45 ds (length ds) 0 some in
    let digit = all_at is_ascii_digit ds (length ds - 1) digits (omega arith) in
    let same : get_or whole n 0 ≡ get_or ds (length ds - 1) 0 = right ∙ ap (λ i. get_or (45 ∷ ds) i 0) place ∙ last in
    last_byte whole (omega arith) (ap is_hyphen same ∙ digit_no_hyphen _ digit)

joined_is_label : (k : ℕ) (base ds : List ℕ) → is_label base ≡ true → 0 < k → k + length (45 ∷ ds) ≤ 63 → 0 < length ds → list_all is_ascii_digit ds ≡ true
    → is_label (trimmed_end (take k base) ++ 45 ∷ ds) ≡ true
joined_is_label k base ds label room fits some digits =
    let front = trimmed_end (take k base) in
    let parts = and_parts (has_label_length base && list_all is_label_byte base) (has_good_ends base) label in
    let sized = and_parts (has_label_length base) (list_all is_label_byte base) parts.0 in
    let ends = and_parts _ (not (ends_with nat_eq base (codes "-"))) parts.1 in
    let begins = not-true _ ends.0 in
    let base_some = leb-true 1 (length base) (and_parts _ (leb (length base) 63) sized.0).0 in
    let cut_bytes = all_take is_label_byte k base sized.1 in
    let front_bytes = all_take is_label_byte (length (take k base) - suffix_len is_hyphen (take k base)) (take k base) cut_bytes in
    let end_bytes = all_weaker is_ascii_digit is_label_byte digit_in_label ds digits in
    let bytes = all_append is_label_byte front (45 ∷ ds) front_bytes end_bytes in
    let some_front = front_some k base room base_some begins in
    let short : length front ≤ k = omega (arith, length-take k base, length-take (length (take k base) - suffix_len is_hyphen (take k base)) (take k base)) in
    let long = length-append front (45 ∷ ds) in
    and_from _ _
    (and_from _ _ (and_from _ _ (le-leb 1 (length (front ++ 45 ∷ ds)) (omega arith)) (le-leb (length (front ++ 45 ∷ ds)) 63 (omega arith))) bytes)
    (and_from _ _ (not_from_false _ (append_begins front (45 ∷ ds) some_front (front_begins k base begins))) (not_from_false _ (ending_ends front ds some digits)))

pub ending_short : (n : ℕ) → n < 2 ^ 32 → length (45 ∷ decimal n) ≤ 11
ending_short n small =
    let short = length-decimal-le 10 n (omega arith) (omega arith) (omega arith) in
    omega arith

pub numbered_is_label : (base : List ℕ) (n : ℕ) → n < 2 ^ 32 → is_label base ≡ true → is_label (numbered_label base n) ≡ true
numbered_is_label base n small label =
    let ds = decimal n in
    let short = ending_short n small in
    joined_is_label (63 - length (45 ∷ ds)) base ds label (omega arith) (omega arith) (decimal_nonempty n (omega arith)) (decimal_digits n (omega arith))

-- digits behind a hyphen, backwards
same_digits : (ds es xs ys : List ℕ) → list_all is_ascii_digit ds ≡ true → list_all is_ascii_digit es ≡ true → ds ++ 45 ∷ xs ≡ es ++ 45 ∷ ys → ds ≡ es
same_digits [] [] xs ys h k e = refl
same_digits [] (b ∷ es) xs ys h k e =
    let here : 45 ≡ b = cc in
    absurd (both_ways _ (digit_no_hyphen b (and_parts _ _ k).0) (ap is_hyphen (sym here)))
same_digits (a ∷ ds) [] xs ys h k e =
    let here : a ≡ 45 = cc in
    absurd (both_ways _ (digit_no_hyphen a (and_parts _ _ h).0) (ap is_hyphen here))
same_digits (a ∷ ds) (b ∷ es) xs ys h k e =
    let here : a ≡ b = cc in
    let rest : ds ++ 45 ∷ xs ≡ es ++ 45 ∷ ys = cc in
    let left = and_parts (is_ascii_digit a) (list_all is_ascii_digit ds) h in
    let right = and_parts (is_ascii_digit b) (list_all is_ascii_digit es) k in
    let more = same_digits ds es xs ys left.1 right.1 rest in
    cc

reverse_digits : (ds : List ℕ) → list_all is_ascii_digit ds ≡ true → list_all is_ascii_digit (reverse ds) ≡ true
reverse_digits [] h = refl
reverse_digits (d ∷ ds) h =
    let parts = and_parts _ _ h in
    ap (list_all is_ascii_digit) (reverse_onto ds d [])
    ∙ all_append is_ascii_digit (reverse ds) (d ∷ []) (reverse_digits ds parts.1) (and_from _ _ parts.0 refl)

reverse_joined : (xs ds : List ℕ) → reverse (xs ++ 45 ∷ ds) ≡ reverse ds ++ 45 ∷ reverse xs
reverse_joined xs ds = reverse-append xs (45 ∷ ds) ∙ ap (λ rs. rs ++ reverse xs) (reverse_onto ds 45 []) ∙ append_assoc (reverse ds) (45 ∷ []) (reverse xs)

-- the digits behind the last hyphen
last_digits : (xs ys ds es : List ℕ) → list_all is_ascii_digit ds ≡ true → list_all is_ascii_digit es ≡ true → xs ++ 45 ∷ ds ≡ ys ++ 45 ∷ es → ds ≡ es
last_digits xs ys ds es h k e =
    let back = sym (reverse_joined xs ds) ∙ ap reverse e ∙ reverse_joined ys es in
    let same = same_digits (reverse ds) (reverse es) (reverse xs) (reverse ys) (reverse_digits ds h) (reverse_digits es k) back in
    sym (reverse-reverse ds) ∙ ap reverse same ∙ reverse-reverse es

pub numbered_label-injective : (base : List ℕ) (n m : ℕ) → n < 2 ^ 32 → m < 2 ^ 32 → numbered_label base n ≡ numbered_label base m → n ≡ m
numbered_label-injective base n m small less e =
    decimal_injective n m (omega arith) (omega arith)
    (last_digits (trimmed_end (take (63 - length (45 ∷ decimal n)) base)) (trimmed_end (take (63 - length (45 ∷ decimal m)) base))
    (decimal n) (decimal m) (decimal_digits n (omega arith)) (decimal_digits m (omega arith)) e)

-- what is left of a label by a cut is ASCII
pub front_ascii : (k : ℕ) (base : List ℕ) → is_label base ≡ true → IsAscii (trimmed_end (take k base))
front_ascii k base label =
    let all = label_bytes base label in
    all_ascii is_label_byte byte_small (trimmed_end (take k base)) (all_take is_label_byte _ (take k base) (all_take is_label_byte k base all))
