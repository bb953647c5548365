-- Which texts are read as IPv6 addresses.
use Rattle.std.proofs.Common.{◌≡◌, ◌<◌, ◌≤◌, ◌+◌, ◌-◌, ◌⊎◌, ℕ, true, ◌&&◌, List, [], ◌∷◌, ◌++◌, length, take, drop, replicate, eqb, leb, Option, Some, None, arith, refl, sym, ap, ◌∙◌, inl, inr}
use Rattle.std.specs.Char.{digit_value}
use Rattle.std.specs.List.{slice_split, join_with_byte, list_all}
use Rattle.std.specs.Option.{option_and_then}
use Rattle.std.specs.Str.Parse.{AllDigits}
use Rattle.std.proofs.lemmas.Bool.{and_parts, and_from, cases_eq, ne_eqb, not_from_false, le-leb, leb-true, cond-true}
use Rattle.std.proofs.Math.Seq.{drop-append-add}
use Rattle.std.proofs.lemmas.List.{take_at}
use Rattle.std.proofs.lemmas.List.Splits.{join_with_byte-slice_split}
use Rattle.net_addr.specs.declared.parts.Notation.TheVariants.{Hexadecimal}
use Rattle.tail_base.specs.Numerals.{numeral, short_numeral}
use Rattle.net_addr.specs.Parts.{parts_of, parts_from}
use Rattle.net_addr.specs.GroupReads.{gap, side, filled, groups_around, groups_number, v6_of_text}
use Rattle.net_addr.specs.V6Texts.{SpellsGroup, SpellsGroups, IsWhole, IsShortened, SpellsV6}
use Rattle.net_addr.proofs.DecimalLemmas.{numeral_some, numeral_of_digits}
use Rattle.tail_base.proofs.NumeralLemmas.{pick_some}
use Rattle.net_addr.proofs.PartLemmas.{and_then_some}
use Rattle.net_addr.proofs.ReadLemmas.{ReadAs, parts_read, read_parts}
use Rattle.net_addr.proofs.SplitLemmas.{is_other, AllFree, split_joined}
use Rattle.net_addr.proofs.TidyLemmas.{AllParts, begins_other, begins_joined, gap_after, gap_none, gap_splits, tidy_joined}

group_spelled : (text : List ℕ) (group : ℕ) → short_numeral 16 4 text ≡ Some group → SpellsGroup text group
group_spelled text group h =
    let picked = pick_some (leb 1 (length text) && leb (length text) 4) (numeral 16 text) group h in
    let sized = and_parts (leb 1 (length text)) (leb (length text) 4) picked.0 in
    let read = numeral_some 16 0 group text picked.1 in
    record { some = leb-true 1 (length text) sized.0; short = leb-true (length text) 4 sized.1; digits = read.0; value = read.1 }

group_read : (text : List ℕ) (group : ℕ) → SpellsGroup text group → short_numeral 16 4 text ≡ Some group
group_read text group h =
    cond-true (leb 1 (length text) && leb (length text) 4) (numeral 16 text) None (and_from _ _ (le-leb 1 (length text) h.some) (le-leb (length text) 4 h.short))
    ∙ numeral_of_digits 16 0 text h.digits ∙ ap Some h.value

groups_spelled : (texts : List (List ℕ)) (groups : List ℕ) → ReadAs Hexadecimal texts groups → SpellsGroups texts groups
groups_spelled [] [] h = tt
groups_spelled [] (group ∷ groups) h = absurd h
groups_spelled (text ∷ texts) [] h = absurd h
groups_spelled (text ∷ texts) (group ∷ groups) h = (group_spelled text group h.0, groups_spelled texts groups h.1)

groups_read : (texts : List (List ℕ)) (groups : List ℕ) → SpellsGroups texts groups → ReadAs Hexadecimal texts groups
groups_read [] [] h = tt
groups_read [] (group ∷ groups) h = absurd h
groups_read (text ∷ texts) [] h = absurd h
groups_read (text ∷ texts) (group ∷ groups) h = (group_read text group h.0, groups_read texts groups h.1)

-- no hexadecimal digit is a colon
digit_other : (b : ℕ) → digit_value b < 16 → is_other 58 b ≡ true
digit_other b h = elim (cases_eq b 58) [
  | inl colon ↦ let bad : 36 < 16 = rw colon at h in absurd (omega arith)
  | inr other ↦ not_from_false (eqb b 58) (ne_eqb b 58 other)
]

digits_other : (bs : List ℕ) → AllDigits 16 bs → list_all (is_other 58) bs ≡ true
digits_other [] h = refl
digits_other (b ∷ bs) h = and_from _ _ (digit_other b h.0) (digits_other bs h.1)

parts_free : (texts : List (List ℕ)) (groups : List ℕ) → SpellsGroups texts groups → AllParts texts
parts_free [] [] h = tt
parts_free [] (group ∷ groups) h = absurd h
parts_free (text ∷ texts) [] h = absurd h
parts_free (text ∷ texts) (group ∷ groups) h = (h.0.some, digits_other text h.0.digits, parts_free texts groups h.1)

all_free : (texts : List (List ℕ)) → AllParts texts → AllFree 58 texts
all_free [] h = tt
all_free (text ∷ texts) h = (h.1, all_free texts h.2)

eight_groups : (groups : List ℕ) (n : ℕ) → groups_number groups ≡ Some n → length groups ≡ 8
eight_groups [] n h = absurd (cc (h))
eight_groups (a ∷ []) n h = absurd (cc (h))
eight_groups (a ∷ b ∷ []) n h = absurd (cc (h))
eight_groups (a ∷ b ∷ c ∷ []) n h = absurd (cc (h))
eight_groups (a ∷ b ∷ c ∷ d ∷ []) n h = absurd (cc (h))
eight_groups (a ∷ b ∷ c ∷ d ∷ e ∷ []) n h = absurd (cc (h))
eight_groups (a ∷ b ∷ c ∷ d ∷ e ∷ f ∷ []) n h = absurd (cc (h))
eight_groups (a ∷ b ∷ c ∷ d ∷ e ∷ f ∷ g ∷ []) n h = absurd (cc (h))
eight_groups (a ∷ b ∷ c ∷ d ∷ e ∷ f ∷ g ∷ i ∷ []) n h = refl
eight_groups (a ∷ b ∷ c ∷ d ∷ e ∷ f ∷ g ∷ i ∷ j ∷ more) n h = absurd (cc (h))

-- the groups of a text that is read, with the texts that spell them
parts_spelled : (text groups : List ℕ) → parts_of Hexadecimal text ≡ Some groups → SpellsGroups (slice_split (λ b. eqb b 58) text) groups
parts_spelled text groups h =
    let read = parts_read Hexadecimal [] (slice_split (λ b. eqb b 58) text) groups h in
    rw read.1 (groups_spelled (slice_split (λ b. eqb b 58) text) read.0 read.2)

pub record IsSide (text groups : List ℕ) : Type 0 where
  pub texts : List (List ℕ)
  pub spelled : SpellsGroups texts groups
  pub is : text ≡ join_with_byte 58 texts

side_spelled : (text groups : List ℕ) → side text ≡ Some groups → IsSide text groups
side_spelled [] groups h =
    let none : groups ≡ [] = sym (cc (h)) in
    record { texts = []; spelled = rw none tt; is = refl }
side_spelled (b ∷ bs) groups h =
    record { texts = slice_split (λ c. eqb c 58) (b ∷ bs); spelled = parts_spelled (b ∷ bs) groups h; is = sym (join_with_byte-slice_split 58 (b ∷ bs)) }

around_spelled : (text : List ℕ) (place : Option ℕ) (groups : List ℕ) (n : ℕ) → gap text ≡ place → groups_around text place ≡ Some groups → groups_number groups ≡ Some n → IsWhole text groups ⊎ IsShortened text groups
around_spelled text None groups n at h number =
    inl (record { texts = slice_split (λ b. eqb b 58) text; spelled = parts_spelled text groups h; eight = eight_groups groups n number; is = sym (join_with_byte-slice_split 58 text) })
around_spelled text (Some i) groups n at h number =
    let first = and_then_some (side (take i text)) (λ before. option_and_then (filled before) (side (drop (i + 2) text))) groups h in
    let second = and_then_some (side (drop (i + 2) text)) (filled first.0) groups first.2 in
    let before = first.0 in
    let after = second.0 in
    let picked = pick_some (leb (length before + length after) 7) (Some (before ++ replicate (8 - (length before + length after)) 0 ++ after)) groups second.2 in
    let left = side_spelled (take i text) before first.1 in
    let right = side_spelled (drop (i + 2) text) after second.1 in
    inr (record {
      before_texts = left.texts;
      after_texts = right.texts;
      before = before;
      after = after;
      spelled_before = left.spelled;
      spelled_after = right.spelled;
      fewer = leb-true (length before + length after) 7 picked.0;
      is = gap_splits text i at ∙ ap (λ xs. xs ++ 58 ∷ 58 ∷ drop (i + 2) text) left.is ∙ ap (λ xs. join_with_byte 58 left.texts ++ 58 ∷ 58 ∷ xs) right.is;
      filled = sym (cc (picked.1));
    })

pub v6_spelled : (text : List ℕ) (n : ℕ) → v6_of_text text ≡ Some n → SpellsV6 text n
v6_spelled text n h =
    let read = and_then_some (groups_around text (gap text)) groups_number n h in
    record { groups = read.0; form = around_spelled text (gap text) read.0 n refl read.1 read.2; number = read.2 }

-- texts that spell groups are read where they stand joined
joined_read : (text : List ℕ) (texts : List (List ℕ)) (groups : List ℕ) → SpellsGroups (text ∷ texts) groups → length groups ≤ 8
    → parts_of Hexadecimal (join_with_byte 58 (text ∷ texts)) ≡ Some groups
joined_read text texts groups h few =
    let free = parts_free (text ∷ texts) groups h in
    ap (parts_from Hexadecimal []) (split_joined 58 text texts free.1 (all_free texts free.2)) ∙ read_parts Hexadecimal [] (text ∷ texts) groups (groups_read (text ∷ texts) groups h) (omega arith)

side_parts : (bs : List ℕ) → begins_other bs ≡ true → side bs ≡ parts_of Hexadecimal bs
side_parts [] h = absurd (cc (h))
side_parts (b ∷ bs) h = refl

side_read : (texts : List (List ℕ)) (groups : List ℕ) → SpellsGroups texts groups → length groups ≤ 8 → side (join_with_byte 58 texts) ≡ Some groups
side_read [] [] h few = refl
side_read [] (group ∷ groups) h few = absurd h
side_read (text ∷ texts) [] h few = absurd h
side_read (text ∷ texts) (group ∷ groups) h few =
    let free = parts_free (text ∷ texts) (group ∷ groups) h in
    side_parts (join_with_byte 58 (text ∷ texts)) (begins_joined text texts free.0 free.1) ∙ joined_read text texts (group ∷ groups) h few

whole_read : (texts : List (List ℕ)) (groups : List ℕ) → SpellsGroups texts groups → length groups ≡ 8 → groups_around (join_with_byte 58 texts) (gap (join_with_byte 58 texts)) ≡ Some groups
whole_read [] [] h eight = absurd (omega arith)
whole_read [] (group ∷ groups) h eight = absurd h
whole_read (text ∷ texts) groups h eight =
    let free = parts_free (text ∷ texts) groups h in
    ap (groups_around (join_with_byte 58 (text ∷ texts))) (gap_none (join_with_byte 58 (text ∷ texts)) (tidy_joined (text ∷ texts) free)) ∙ joined_read text texts groups h (omega arith)

shortened_read : (text groups : List ℕ) → IsShortened text groups → groups_around text (gap text) ≡ Some groups
shortened_read text groups h =
    let left = join_with_byte 58 h.before_texts in
    let right = join_with_byte 58 h.after_texts in
    let whole = left ++ 58 ∷ 58 ∷ right in
    let at : gap whole ≡ Some (length left) = gap_after left right (tidy_joined h.before_texts (parts_free h.before_texts h.before h.spelled_before)) in
    let front : take (length left) whole ≡ left = take_at left (58 ∷ 58 ∷ right) (length left) refl in
    let back : drop (length left + 2) whole ≡ right = drop-append-add left (58 ∷ 58 ∷ right) 2 in
    let one : side (take (length left) whole) ≡ Some h.before = ap side front ∙ side_read h.before_texts h.before h.spelled_before (omega (arith, h.fewer)) in
    let two : side (drop (length left + 2) whole) ≡ Some h.after = ap side back ∙ side_read h.after_texts h.after h.spelled_after (omega (arith, h.fewer)) in
    let joined : filled h.before h.after ≡ Some groups =
    cond-true (leb (length h.before + length h.after) 7) (Some (h.before ++ replicate (8 - (length h.before + length h.after)) 0 ++ h.after)) None (le-leb (length h.before + length h.after) 7 h.fewer) ∙ ap Some (sym h.filled) in
    let around : groups_around whole (Some (length left)) ≡ Some groups =
    ap (option_and_then (λ before. option_and_then (filled before) (side (drop (length left + 2) whole)))) one ∙ ap (option_and_then (filled h.before)) two ∙ joined in
    ap (λ xs. groups_around xs (gap xs)) h.is ∙ ap (groups_around whole) at ∙ around

pub v6_read : (text : List ℕ) (n : ℕ) → SpellsV6 text n → v6_of_text text ≡ Some n
v6_read text n h =
    let read : groups_around text (gap text) ≡ Some h.groups = elim h.form [
      | inl form ↦ ap (λ xs. groups_around xs (gap xs)) form.is ∙ whole_read form.texts h.groups form.spelled form.eight
      | inr form ↦ shortened_read text h.groups form
    ] in
    ap (option_and_then groups_number) read ∙ h.number
