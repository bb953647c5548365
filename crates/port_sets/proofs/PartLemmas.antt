-- One part of a text of pieces.
use Rattle.std.proofs.Common.{◌≡◌, ◌+◌, ◌<◌, ◌≤◌, ℕ, Bool, true, false, List, [], ◌∷◌, length, leb, arith, refl, sym, ap, ◌∙◌}
use Rattle.std.specs.Prelude.{Result, Ok, Err}
use Rattle.std.specs.List.{slice_split, onto_first, position_or_len, before_first, after_first}
use Rattle.std.proofs.lemmas.Bool.{le-leb}
use Rattle.std.proofs.lemmas.Bool.Decides.{nat_tests}
use Rattle.std.proofs.lemmas.List.Splits.{length-slice_split, slice_split_first, slice_split-cons_no}
use Rattle.tail_base.specs.declared.failure.Failure.{Failure}
use Rattle.tail_base.specs.declared.failure.Failure.TheVariants.{Fault}
use Rattle.tail_base.specs.Steps.{◌>>=◌, Gives}
use Rattle.port_sets.specs.declared.fault.PortFault.{PortFault}
use Rattle.port_sets.specs.declared.fault.PortFault.TheVariants.{TooMany}
use Rattle.port_sets.specs.declared.range.PortRange.{PortRange}
use Rattle.port_sets.specs.PortTexts.{is_comma, merged_from, piece_of}
use Rattle.port_sets.specs.Ranges.{inserted}

-- a text without a comma is one part
last_part : (text : List ℕ) → position_or_len is_comma text ≡ length text → slice_split is_comma text ≡ text ∷ []
last_part [] h = refl
last_part (b ∷ bs) h = by_test (last_part bs) (is_comma b) refl
  where
    by_test : (position_or_len is_comma bs ≡ length bs → slice_split is_comma bs ≡ bs ∷ []) → (t : Bool) → is_comma b ≡ t → slice_split is_comma (b ∷ bs) ≡ (b ∷ bs) ∷ []
    by_test more true p = let here : position_or_len is_comma (b ∷ bs) ≡ 0 = rw p refl in absurd (omega arith)
    by_test more false p =
        let here : position_or_len is_comma (b ∷ bs) ≡ 1 + position_or_len is_comma bs = rw p refl in
        slice_split-cons_no is_comma b bs p ∙ ap (onto_first b) (more (omega arith))

below_full : (count : ℕ) → count < 64 → leb 64 count ≡ false
below_full count h = grind (arith, nat_tests)

pub step_last : (count : ℕ) (ranges : List PortRange) (text : List ℕ) → count < 64 → position_or_len is_comma text ≡ length text
    → merged_from count ranges (slice_split is_comma text) ≡ (piece_of text >>= (λ piece. Ok (inserted piece ranges)))
step_last count ranges text low none = rw (last_part text none, below_full count low) refl

pub step_more : (count : ℕ) (ranges : List PortRange) (text : List ℕ) → count < 64 → position_or_len is_comma text < length text
    → merged_from count ranges (slice_split is_comma text)
    ≡ (piece_of (before_first is_comma text) >>= (λ piece. merged_from (count + 1) (inserted piece ranges) (slice_split is_comma (after_first is_comma text))))
step_more count ranges text low some = rw (slice_split_first is_comma text 0 some, below_full count low) refl

full_from : (parts : List (List ℕ)) (count : ℕ) (ranges : List PortRange) → 64 ≤ count → 0 < length parts → merged_from count ranges parts ≡ Err TooMany
full_from [] count ranges h some = absurd (omega arith)
full_from (part ∷ parts) count ranges h some = rw (le-leb 64 count h) refl

-- a text has a part
pub some_part : (text : List ℕ) → 0 < length (slice_split is_comma text)
some_part text = rw (length-slice_split is_comma text) (omega arith)

pub step_full : (count : ℕ) (ranges : List PortRange) (text : List ℕ) → 64 ≤ count → merged_from count ranges (slice_split is_comma text) ≡ Err TooMany
step_full count ranges text h = full_from (slice_split is_comma text) count ranges h (some_part text)

pub ok_last : (count : ℕ) (ranges : List PortRange) (text : List ℕ) (piece : PortRange) → count < 64 → position_or_len is_comma text ≡ length text
    → Ok piece ≡ piece_of text → merged_from count ranges (slice_split is_comma text) ≡ Ok (inserted piece ranges)
ok_last count ranges text piece low none read = step_last count ranges text low none ∙ ap (λ r. r >>= (λ p. Ok (inserted p ranges))) (sym read)

pub err_last : (count : ℕ) (ranges : List PortRange) (text : List ℕ) (e : PortFault) → count < 64 → position_or_len is_comma text ≡ length text
    → Err e ≡ piece_of text → merged_from count ranges (slice_split is_comma text) ≡ Err e
err_last count ranges text e low none read = step_last count ranges text low none ∙ ap (λ r. r >>= (λ p. Ok (inserted p ranges))) (sym read)

pub ok_more : (count : ℕ) (ranges : List PortRange) (text : List ℕ) (piece : PortRange) → count < 64 → position_or_len is_comma text < length text
    → Ok piece ≡ piece_of (before_first is_comma text) → merged_from count ranges (slice_split is_comma text) ≡ merged_from (count + 1) (inserted piece ranges) (slice_split is_comma (after_first is_comma text))
ok_more count ranges text piece low some read =
    step_more count ranges text low some ∙ ap (λ r. r >>= (λ p. merged_from (count + 1) (inserted p ranges) (slice_split is_comma (after_first is_comma text)))) (sym read)

pub err_more : (count : ℕ) (ranges : List PortRange) (text : List ℕ) (e : PortFault) → count < 64 → position_or_len is_comma text < length text
    → Err e ≡ piece_of (before_first is_comma text) → merged_from count ranges (slice_split is_comma text) ≡ Err e
err_more count ranges text e low some read =
    step_more count ranges text low some ∙ ap (λ r. r >>= (λ p. merged_from (count + 1) (inserted p ranges) (slice_split is_comma (after_first is_comma text)))) (sym read)

pub gives_from : {A : Type 0} (view : A → List PortRange) (result : Result A (Failure PortFault)) (e : PortFault) (read : Result (List PortRange) PortFault)
    → result ≡ Err (Fault e) → read ≡ Err e → Gives view result read
gives_from view result e read same there = rw same there
