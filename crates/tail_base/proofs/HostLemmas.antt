-- What a host name gives is a label.
use Rattle.std.proofs.Common.{◌≡◌, ◌<◌, ◌≤◌, ◌+◌, ◌-◌, ℕ, Bool, true, false, List, [], ◌∷◌, zero, suc, length, take, drop, map, get_or, reverse, arith, eqb, refl, sym, ap, ◌∙◌, inl, inr, if◌then◌else◌}
use Rattle.std.specs.Prelude.{nat_eq, codes}
use Rattle.std.specs.Char.{to_ascii_lowercase}
use Rattle.std.specs.List.{list_all, prefix_len, suffix_len, starts_with, ends_with}
use Rattle.std.proofs.lemmas.Bool.{and_from, or_left, cases_Bool, cases_lt, le-leb, and_left, not_from_false}
use Rattle.std.proofs.lemmas.Bool.Decides.{nat_tests}
use Rattle.std.proofs.lemmas.List.{length-take, length-take-le, nil_from_length, length-drop, length-reverse, get_or-reverse, get_or-take, drop_more, drop_all}
use Rattle.std.proofs.lemmas.List.Sums.{prefix_len_stops}
use lib.Pointwise.{pointwise}
use Rattle.tail_base.specs.Labels.{is_alnum, is_hyphen, is_label, is_label_byte, has_good_ends, squeezed, trimmed, trimmed_start, trimmed_end, or_node, label_of_host}
use Rattle.tail_base.proofs.AllBytes.{all_take, all_drop}

next_bytes : (in_run : Bool) (rest : List ℕ) → list_all is_label_byte rest ≡ true → list_all is_label_byte (if in_run then rest else 45 ∷ rest) ≡ true
next_bytes true rest h = h
next_bytes false rest h = h

squeezed_bytes : (in_run : Bool) (bs : List ℕ) → list_all is_label_byte (squeezed in_run bs) ≡ true
squeezed_bytes in_run [] = refl
squeezed_bytes in_run (b ∷ bs) =
    elim (cases_Bool (is_alnum b)) [
      | inl hit ↦ rw hit (and_from _ _ (or_left (is_alnum b) _ hit) (squeezed_bytes false bs))
      | inr miss ↦ rw miss (next_bytes in_run (squeezed true bs) (squeezed_bytes true bs))
    ]

trimmed_bytes : (bs : List ℕ) → list_all is_label_byte bs ≡ true → list_all is_label_byte (trimmed bs) ≡ true
trimmed_bytes bs h = all_take is_label_byte _ (trimmed_start bs) (all_drop is_label_byte _ bs h)

-- the cut keeps the first byte, or nothing
pub cut_begins : (n : ℕ) (bs : List ℕ) → starts_with nat_eq bs (codes "-") ≡ false → starts_with nat_eq (take n bs) (codes "-") ≡ false
cut_begins zero bs h = refl
cut_begins (suc n) [] h = refl
cut_begins (suc n) (b ∷ bs) h = h

pub first_byte : (b : ℕ) (bs : List ℕ) → is_hyphen b ≡ false → starts_with nat_eq (b ∷ bs) (codes "-") ≡ false
first_byte b bs h = grind (arith, nat_tests)

pub last_byte : (bs : List ℕ) → 0 < length bs → is_hyphen (get_or bs (length bs - 1) 0) ≡ false → ends_with nat_eq bs (codes "-") ≡ false
last_byte bs some h =
    let split = drop_more bs (length bs - 1) 0 (omega arith) in
    let other : eqb 45 (get_or bs (length bs - 1) 0) ≡ false = grind (arith, nat_tests) in
    ap (pointwise eqb (45 ∷ [])) split ∙ and_left _ _ other

trimmed_start_begins : (bs : List ℕ) → starts_with nat_eq (trimmed_start bs) (codes "-") ≡ false
trimmed_start_begins bs =
    elim (cases_lt (prefix_len is_hyphen bs) (length bs)) [
      | inl inside ↦
          rw (drop_more bs (prefix_len is_hyphen bs) 0 inside)
          (first_byte (get_or bs (prefix_len is_hyphen bs) 0) (drop (prefix_len is_hyphen bs + 1) bs) (prefix_len_stops is_hyphen bs 0 inside))
      | inr past ↦ rw (drop_all (prefix_len is_hyphen bs) bs past) refl
    ]

last_kept : (bs : List ℕ) → suffix_len is_hyphen bs < length bs → is_hyphen (get_or bs (length bs - suffix_len is_hyphen bs - 1) 0) ≡ false
last_kept bs inside =
    let s = suffix_len is_hyphen bs in
    let stops = prefix_len_stops is_hyphen (reverse bs) 0 (omega (arith, length-reverse bs)) in
    let place : length bs - s - 1 ≡ length bs - 1 - s = omega arith in
    ap (λ i. is_hyphen (get_or bs i 0)) place ∙ sym (ap is_hyphen (get_or-reverse bs s 0 inside)) ∙ stops

pub trimmed_end_ends : (bs : List ℕ) → ends_with nat_eq (trimmed_end bs) (codes "-") ≡ false
trimmed_end_ends bs =
    let s = suffix_len is_hyphen bs in
    let kept = length bs - s in
    let long : length (take kept bs) ≡ kept = length-take-le kept bs (omega arith) in
    elim (cases_lt s (length bs)) [
      | inl inside ↦
          let same : get_or (take kept bs) (length (take kept bs) - 1) 0 ≡ get_or bs (kept - 1) 0 =
          ap (λ n. get_or (take kept bs) (n - 1) 0) long ∙ get_or-take kept bs (kept - 1) 0 (omega arith) in
          last_byte (take kept bs) (omega arith) (ap is_hyphen same ∙ last_kept bs inside)
      | inr past ↦
          let none : take kept bs ≡ [] = nil_from_length (take kept bs) (omega arith) in
          rw none refl
    ]

trimmed_ends : (bs : List ℕ) → has_good_ends (trimmed bs) ≡ true
trimmed_ends bs =
    and_from _ _ (not_from_false _ (cut_begins _ (trimmed_start bs) (trimmed_start_begins bs))) (not_from_false _ (trimmed_end_ends (trimmed_start bs)))

trimmed_short : (bs : List ℕ) → length (trimmed bs) ≤ length bs
trimmed_short bs = omega (arith, length-take (length (trimmed_start bs) - suffix_len is_hyphen (trimmed_start bs)) (trimmed_start bs), length-drop (prefix_len is_hyphen bs) bs)

or_node_label : (bs : List ℕ) → list_all is_label_byte bs ≡ true → has_good_ends bs ≡ true → length bs ≤ 63 → is_label (or_node bs) ≡ true
or_node_label [] all ends short = refl
or_node_label (b ∷ bs) all ends short =
    and_from _ _ (and_from _ _ (and_from _ _ (le-leb 1 (suc (length bs)) (omega arith)) (le-leb _ 63 short)) all) ends

pub label_of_host_is_label : (host : List ℕ) → is_label (label_of_host host) ≡ true
label_of_host_is_label host =
    let text = squeezed false (map to_ascii_lowercase host) in
    let name = take 63 text in
    or_node_label (trimmed name)
    (trimmed_bytes name (all_take is_label_byte 63 text (squeezed_bytes false (map to_ascii_lowercase host))))
    (trimmed_ends name)
    (omega (arith, trimmed_short name, length-take 63 text))
