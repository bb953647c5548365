-- The rules of shelves, when a response is kept.
use Rattle.std.proofs.Common.{◌≡◌, ◌+◌, ◌-◌, ◌≤◌, ℕ, Bool, true, false, List, [], Option, Some, None, length, inl, inr, refl, sym, subst, arith}
use Rattle.std.proofs.lemmas.Bool.{cases_Bool}
use Rattle.std.proofs.lemmas.Bool.Decides.{nat_tests}
use Rattle.std.specs.Str.{bytes_eq}
use Rattle.std.specs.Prelude.{◌&&◌, ◌==◌}
use Rattle.tail_base.specs.declared.key.MachineKey.{MachineKey}
use Rattle.tailcfg.specs.declared.response.Response.{Response}
use Rattle.frame_shelf.specs.Shelves.{AreInTurn, AreLast, IsShelf, ShelfLine, goes_on, held_before, is_line_of, keep, line_with, lines_without, reach, response_number, responses_behind, shelf_line}
use Rattle.frame_shelf.proofs.LineLemmas.{find_others, held_found, shelf_with, shelf_without}
use Rattle.frame_shelf.proofs.NumberLemmas.{last_with, none_last, reached_follow}

all2 : (a b : Bool) → (a && b) ≡ true → (a ≡ true) × (b ≡ true)
all2 true true h = (refl, refl)
all2 true false h = absurd (cc)
all2 false b h = absurd (cc)

-- nothing is kept
pub empty_shelf : IsShelf []
empty_shelf = record { once = tt; few = omega arith; held = tt }

-- the responses before the one of a number are those up to the one before it
pub before_last : (handle : List ℕ) (number : ℕ) (line : Option ShelfLine) → ((l : ShelfLine) → line ≡ Some l → AreLast l.last l.responses)
    → AreLast (number - 1) (held_before line handle number)
before_last handle number None held = none_last (number - 1)
before_last handle number (Some line) held =
    elim (cases_Bool (goes_on handle number line)) [
      | inl passes ↦
          let parts = all2 (bytes_eq line.handle handle) (line.last == number - 1) passes in
          let same : line.last ≡ number - 1 = grind (arith, nat_tests, parts.1) in
          rw passes (subst (λ (n : ℕ). AreLast n line.responses) same (held line refl))
      | inr fails ↦ rw fails (none_last (number - 1))
    ]

pub shelf_kept : (lines : List ShelfLine) (machine : MachineKey) (handle : List ℕ) (response : Response) → 1 ≤ response_number response → IsShelf lines
    → IsShelf (keep lines machine handle response)
shelf_kept lines machine handle response least shelf =
    let number = response_number response in
    let was = shelf_line lines machine in
    let before : AreLast (number - 1) (held_before was handle number) =
    before_last handle number was (λ l is. held_found (is_line_of machine) lines l shelf.held is) in
    shelf_with (lines_without lines machine) (line_with was machine handle response) (shelf_without machine lines shelf)
    (find_others (is_line_of machine) lines) (last_with number (held_before was handle number) response refl least before)

pub reached_on_shelf : (lines : List ShelfLine) (machine : MachineKey) (handle : List ℕ) (number last : ℕ) → IsShelf lines → reach lines machine handle number ≡ Some last
    → AreInTurn number (responses_behind lines machine number) × (number + length (responses_behind lines machine number) ≡ last)
reached_on_shelf lines machine handle number last shelf reached =
    reached_follow handle number last (shelf_line lines machine) (λ l is. held_found (is_line_of machine) lines l shelf.held is) reached
