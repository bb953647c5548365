-- A label with a number behind it, of which nothing is cut.
use Rattle.std.proofs.Common.{◌≡◌, ◌<◌, ◌≤◌, ◌+◌, ◌-◌, ◌&&◌, ℕ, true, false, not, List, [], ◌∷◌, ◌++◌, length, take, drop, get_or, arith, eqb, leb, sym, ap, ◌∙◌, inl, inr}
use Rattle.std.specs.Prelude.{nat_eq, codes}
use Rattle.std.specs.Fmt.{decimal}
use Rattle.std.specs.List.{list_all, suffix_len, ends_with}
use Rattle.std.specs.Str.{bytes_eq}
use Rattle.std.proofs.lemmas.Bool.{and_from, and_parts, both_ways, cases_Bool, leb-true, not-true}
use Rattle.std.proofs.lemmas.Bool.Decides.{nat_tests}
use Rattle.std.proofs.lemmas.List.{drop_all, drop_more, take_all}
use Rattle.std.proofs.lemmas.List.Sums.{suffix_len-take_no}
use Rattle.std.proofs.Math.Seq.{take-length}
use lib.Pointwise.{pointwise}
use Rattle.tail_base.specs.Labels.{is_hyphen, is_label, is_label_byte, has_label_length, has_good_ends, trimmed_end, numbered_label}
use Rattle.tail_base.proofs.Bools.{bytes_eq-from}

-- what doesn't end with a hyphen has another last byte
last_other : (bs : List ℕ) → 0 < length bs → ends_with nat_eq bs (codes "-") ≡ false → is_hyphen (get_or bs (length bs - 1) 0) ≡ false
last_other bs some h =
    let last = get_or bs (length bs - 1) 0 in
    let split = drop_more bs (length bs - 1) 0 (omega arith) in
    let none : drop (length bs - 1 + 1) bs ≡ [] = drop_all (length bs - 1 + 1) bs (omega arith) in
    elim (cases_Bool (is_hyphen last)) [
      | inl hyphen ↦
          let is : eqb 45 last ≡ true = grind (arith, nat_tests) in
          let ends : ends_with nat_eq bs (codes "-") ≡ true = ap (pointwise eqb (45 ∷ [])) split ∙ and_from _ _ is (ap (pointwise eqb []) none) in
          absurd (both_ways _ h ends)
      | inr other ↦ other
    ]

-- of a label that fits nothing is cut
whole_front : (base : List ℕ) (k : ℕ) → is_label base ≡ true → length base ≤ k → trimmed_end (take k base) ≡ base
whole_front base k label short =
    let parts = and_parts (has_label_length base && list_all is_label_byte base) (has_good_ends base) label in
    let sized = and_parts (has_label_length base) (list_all is_label_byte base) parts.0 in
    let some = leb-true 1 (length base) (and_parts _ (leb (length base) 63) sized.0).0 in
    let ends = not-true _ (and_parts _ (not (ends_with nat_eq base (codes "-"))) parts.1).1 in
    let none = suffix_len-take_no is_hyphen base (length base) 0 some (omega arith) (last_other base some ends) in
    let zero : suffix_len is_hyphen base ≡ 0 = ap (suffix_len is_hyphen) (sym (take-length base)) ∙ none in
    ap trimmed_end (take_all k base short) ∙ ap (λ n. take (length base - n) base) zero ∙ take_all (length base - 0) base (omega arith)

numbered_whole : (base : List ℕ) (n : ℕ) → is_label base ≡ true → length base + length (decimal n) ≤ 62 → numbered_label base n ≡ base ++ 45 ∷ decimal n
numbered_whole base n label short = ap (λ front. front ++ 45 ∷ decimal n) (whole_front base (63 - length (45 ∷ decimal n)) label (omega arith))

-- a name that is the label, a hyphen and the number
pub bears_number : (name base rest : List ℕ) (n : ℕ) → is_label base ≡ true → length base + length (decimal n) ≤ 62 → name ≡ base ++ rest → rest ≡ 45 ∷ decimal n
    → bytes_eq name (numbered_label base n) ≡ true
bears_number name base rest n label short is ends =
    bytes_eq-from name (numbered_label base n) (is ∙ ap (λ r. base ++ r) ends ∙ sym (numbered_whole base n label short))
