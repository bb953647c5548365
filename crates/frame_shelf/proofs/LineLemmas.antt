-- Lines that are taken out and added.
use Rattle.std.proofs.Common.{◌≡◌, ◌<◌, ◌+◌, ◌-◌, ◌≤◌, ℕ, zero, suc, Bool, true, false, List, [], ◌∷◌, ◌++◌, Some, None, length, drop, inl, inr, refl, sym, ap, subst, ◌∙◌, not, arith, get_or, add-one, drop-cons, append_assoc}
use Rattle.std.specs.Prelude.{filter, if◌then◌else◌, nat_lt, remove}
use Rattle.std.specs.List.{find, position_from}
use Rattle.std.specs.Str.{bytes_eq}
use Rattle.std.proofs.lemmas.Bool.{cases_Bool, cases_lt}
use Rattle.std.proofs.lemmas.Bool.Decides.{nat_tests}
use Rattle.std.proofs.lemmas.List.{length-append, length-drop}
use Rattle.std.proofs.lemmas.List.Elements.{filter-append}
use Rattle.std.proofs.lemmas.Slice.Eq.{bytes_eq-Decides}
use Rattle.tail_base.specs.declared.key.MachineKey.{MachineKey}
use Rattle.tailcfg.specs.declared.response.Response.{Response}
use Rattle.frame_shelf.specs.Shelves.{AreLines, AreLast, AreOnce, IsShelf, ShelfLine, is_line_of, shelf_line, lines_without, with_last, response_number, numbered_behind}
use Rattle.frame_shelf.specs.declared.limits.TheConstants.{SHELF_LINES}

-- where nothing is found, the first element doesn't pass, and nothing is found behind it
pub find_rest : {X : Type 0} (p : X → Bool) (x : X) (xs : List X) → find p (x ∷ xs) ≡ None → (p x ≡ false) × (find p xs ≡ None)
find_rest p x xs h =
    elim (cases_Bool (p x)) [
      | inl passes ↦ let bad : Some x ≡ None = rw passes at h in absurd (cc)
      | inr fails ↦ (fails, rw fails at h)
    ]

-- where no element passes, those that don't are all
pub filter_none : {X : Type 0} (p : X → Bool) (xs : List X) → find p xs ≡ None → filter (λ x. not (p x)) xs ≡ xs
filter_none p [] h = refl
filter_none p (x ∷ xs) h =
    let parts = find_rest p x xs h in
    rw (parts.0) (ap (λ ys. x ∷ ys) (filter_none p xs parts.1))

-- in a part of a list nothing is found that isn't found in it
pub find_filtered : {X : Type 0} (p q : X → Bool) (xs : List X) → find p xs ≡ None → find p (filter q xs) ≡ None
find_filtered p q [] h = refl
find_filtered p q (x ∷ xs) h =
    let parts = find_rest p x xs h in
    let rest = find_filtered p q xs parts.1 in
    elim (cases_Bool (q x)) [
      | inl kept ↦ rw (kept, parts.0) rest
      | inr gone ↦ rw gone rest
    ]

-- of those that don't pass none is found
pub find_others : {X : Type 0} (p : X → Bool) (xs : List X) → find p (filter (λ x. not (p x)) xs) ≡ None
find_others p [] = refl
find_others p (x ∷ xs) =
    elim (cases_Bool (p x)) [
      | inl passes ↦ rw passes (find_others p xs)
      | inr fails ↦ rw (fails, fails) (find_others p xs)
    ]

pub find_added : {X : Type 0} (p : X → Bool) (xs : List X) (y : X) → find p xs ≡ None → p y ≡ false → find p (xs ++ y ∷ []) ≡ None
find_added p [] y h fails = rw fails refl
find_added p (x ∷ xs) y h fails =
    let parts = find_rest p x xs h in
    rw (parts.0) (find_added p xs y parts.1 fails)

pub length_filtered : {X : Type 0} (p : X → Bool) (xs : List X) → length (filter p xs) ≤ length xs
length_filtered p [] = omega arith
length_filtered p (x ∷ xs) =
    let rest : length (filter p xs) ≤ length xs = length_filtered p xs in
    elim (cases_Bool (p x)) [
      | inl passes ↦ rw passes (omega arith)
      | inr fails ↦ rw fails (omega arith)
    ]

-- lines are one for each machine, also in a part of them
pub once_filtered : (p : ShelfLine → Bool) (lines : List ShelfLine) → AreOnce lines → AreOnce (filter p lines)
once_filtered p [] once = tt
once_filtered p (line ∷ lines) once =
    let rest = once_filtered p lines once.1 in
    elim (cases_Bool (p line)) [
      | inl kept ↦ rw kept (find_filtered (is_line_of line.machine) p lines once.0, rest)
      | inr gone ↦ rw gone rest
    ]

pub once_dropped : (n : ℕ) (lines : List ShelfLine) → AreOnce lines → AreOnce (drop n lines)
once_dropped zero lines once = once
once_dropped (suc n) [] once = tt
once_dropped (suc n) (line ∷ lines) once = once_dropped n lines once.1

-- so lines keep the rules of their responses
pub held_filtered : (p : ShelfLine → Bool) (lines : List ShelfLine) → AreLines lines → AreLines (filter p lines)
held_filtered p [] held = tt
held_filtered p (line ∷ lines) held =
    let rest = held_filtered p lines held.1 in
    elim (cases_Bool (p line)) [
      | inl kept ↦ rw kept (held.0, rest)
      | inr gone ↦ rw gone rest
    ]

pub held_dropped : (n : ℕ) (lines : List ShelfLine) → AreLines lines → AreLines (drop n lines)
held_dropped zero lines held = held
held_dropped (suc n) [] held = tt
held_dropped (suc n) (line ∷ lines) held = held_dropped n lines held.1

pub held_added : (lines : List ShelfLine) (line : ShelfLine) → AreLines lines → AreLast line.last line.responses → AreLines (lines ++ line ∷ [])
held_added [] line held last = (last, tt)
held_added (x ∷ lines) line held last = (held.0, held_added lines line held.1 last)

-- and one that is found does
pub held_found : (p : ShelfLine → Bool) (lines : List ShelfLine) (line : ShelfLine) → AreLines lines → find p lines ≡ Some line → AreLast line.last line.responses
held_found p [] line held found = let bad : None ≡ Some line = found in absurd (cc)
held_found p (x ∷ lines) line held found =
    elim (cases_Bool (p x)) [
      | inl passes ↦
          let here : Some x ≡ Some line = rw passes at found in
          let same : x ≡ line = cc in
          subst (λ (l : ShelfLine). AreLast l.last l.responses) same held.0
      | inr fails ↦ held_found p lines line held.1 (rw fails at found)
    ]

-- a test of two texts is one of the other with the one
pub bytes_eq_turned : (xs ys : List ℕ) → bytes_eq xs ys ≡ false → bytes_eq ys xs ≡ false
bytes_eq_turned xs ys fails =
    elim (cases_Bool (bytes_eq ys xs)) [
      | inl passes ↦
          let same : bytes_eq xs ys ≡ true = (bytes_eq-Decides xs ys).1 (sym ((bytes_eq-Decides ys xs).0 passes)) in
          let bad : true ≡ false = sym same ∙ fails in
          absurd (cc)
      | inr other ↦ other
    ]

-- with one of a machine that has none
pub once_added : (lines : List ShelfLine) (line : ShelfLine) → AreOnce lines → shelf_line lines line.machine ≡ None → AreOnce (lines ++ line ∷ [])
once_added [] line once none = (refl, tt)
once_added (x ∷ lines) line once none =
    let parts = find_rest (is_line_of line.machine) x lines none in
    (find_added (is_line_of x.machine) lines line once.0 (bytes_eq_turned x.machine.0 line.machine.0 parts.0), once_added lines line once.1 parts.1)

-- Behind each element that passes no other one does.
abbrev pub IsLone : {X : Type 0} → (X → Bool) → List X → Type 0
IsLone p [] = Unit {0}
IsLone p (x ∷ xs) = (p x ≡ true → find p xs ≡ None) × IsLone p xs

-- The first element that passes stands at this place, and the others are those that don't pass.
pub record StandsAt {X : Type 0} (p : X → Bool) (xs : List X) (at : ℕ) : Type 0 where
  pub inside : at < length xs
  pub is : (d : X) → find p xs ≡ Some (get_or xs at d)
  pub others : remove xs at ≡ filter (λ x. not (p x)) xs

-- counted from another number
pub record IsPlace {X : Type 0} (p : X → Bool) (xs : List X) (from place : ℕ) : Type 0 where
  pub at : ℕ
  pub shifted : place ≡ from + at
  pub stands : StandsAt p xs at

pub place_found : {X : Type 0} (p : X → Bool) (xs : List X) (from place : ℕ) → IsLone p xs → position_from p from xs ≡ Some place → IsPlace p xs from place
place_found p [] from place lone found = let bad : None ≡ Some place = found in absurd (cc)
place_found p (x ∷ xs) from place lone found =
    elim (cases_Bool (p x)) [
      | inl passes ↦
          let here : Some from ≡ Some place = rw passes at found in
          let same : from ≡ place = cc in
          record {
            at = 0;
            shifted = omega arith;
            stands = record {
              inside = omega arith;
              is = λ d. rw passes refl;
              others = rw passes (sym (filter_none p xs (lone.0 passes)));
            };
          }
      | inr fails ↦
          let rest = place_found p xs (from + 1) place lone.1 (rw fails at found) in
          let e : place ≡ (from + 1) + rest.at = rest.shifted in
          let i : rest.at < length xs = rest.stands.inside in
          record {
            at = suc rest.at;
            shifted = omega arith;
            stands = record {
              inside = omega arith;
              is = λ d. rw fails (rest.stands.is d);
              others = rw fails (ap (λ ys. x ∷ ys) rest.stands.others);
            };
          }
    ]

pub nothing_found : {X : Type 0} (p : X → Bool) (xs : List X) (from : ℕ) → position_from p from xs ≡ None → find p xs ≡ None
nothing_found p [] from h = refl
nothing_found p (x ∷ xs) from h =
    elim (cases_Bool (p x)) [
      | inl passes ↦ let bad : Some from ≡ None = rw passes at h in absurd (cc)
      | inr fails ↦ rw fails (nothing_found p xs (from + 1) (rw fails at h))
    ]

-- nothing passes, so all stay
pub nothing_gone : {X : Type 0} (p : X → Bool) (xs : List X) → position_from p 0 xs ≡ None → xs ≡ filter (λ x. not (p x)) xs
nothing_gone p xs h = sym (filter_none p xs (nothing_found p xs 0 h))

-- a place that is counted from the first one
pub stands_there : {X : Type 0} (p : X → Bool) (xs : List X) (place : ℕ) → IsLone p xs → position_from p 0 xs ≡ Some place → StandsAt p xs place
stands_there p xs place lone found =
    let there = place_found p xs 0 place lone found in
    let shifted : place ≡ 0 + there.at = there.shifted in
    let same : there.at ≡ place = omega arith in
    subst (StandsAt p xs) same there.stands

-- lines that are one for each machine have one of this machine
pub lone_line : (machine : MachineKey) (lines : List ShelfLine) → AreOnce lines → IsLone (is_line_of machine) lines
lone_line machine [] once = tt
lone_line machine (line ∷ lines) once = (
  λ passes. subst (λ key. find (λ (x : ShelfLine). bytes_eq x.machine.0 key) lines ≡ None) ((bytes_eq-Decides line.machine.0 machine.0).0 passes) once.0,
  lone_line machine lines once.1,
)

-- where the first goes if there is one too many, there aren't too many
pub few_left : {X : Type 0} (n : ℕ) (xs : List X) → length xs ≤ n + 1 → length (if nat_lt n (length xs) then drop 1 xs else xs) ≤ n
few_left n xs most =
    elim (cases_lt n (length xs)) [
      | inl more ↦
          let t : nat_lt n (length xs) ≡ true = grind (arith, nat_tests) in
          let d : length (drop 1 xs) ≡ length xs - 1 = length-drop 1 xs in
          rw t (omega arith)
      | inr few ↦
          let t : nat_lt n (length xs) ≡ false = grind (arith, nat_tests) in
          rw t few
    ]

pub once_left : (n : ℕ) (lines : List ShelfLine) → AreOnce lines → AreOnce (if nat_lt n (length lines) then drop 1 lines else lines)
once_left n lines once =
    elim (cases_Bool (nat_lt n (length lines))) [
      | inl passes ↦ rw passes (once_dropped 1 lines once)
      | inr fails ↦ rw fails once
    ]

pub held_left : (n : ℕ) (lines : List ShelfLine) → AreLines lines → AreLines (if nat_lt n (length lines) then drop 1 lines else lines)
held_left n lines held =
    elim (cases_Bool (nat_lt n (length lines))) [
      | inl passes ↦ rw passes (held_dropped 1 lines held)
      | inr fails ↦ rw fails held
    ]

-- without a machine's line a shelf is one
pub shelf_without : (machine : MachineKey) (lines : List ShelfLine) → IsShelf lines → IsShelf (lines_without lines machine)
shelf_without machine lines shelf =
    let fewer : length (lines_without lines machine) ≤ length lines = length_filtered (λ (line : ShelfLine). not (is_line_of machine line)) lines in
    let few : length lines ≤ SHELF_LINES = shelf.few in
    record {
      once = once_filtered (λ (line : ShelfLine). not (is_line_of machine line)) lines shelf.once;
      few = omega arith;
      held = held_filtered (λ (line : ShelfLine). not (is_line_of machine line)) lines shelf.held;
    }

-- with a line of a machine that has none it is one
pub shelf_with : (lines : List ShelfLine) (line : ShelfLine) → IsShelf lines → shelf_line lines line.machine ≡ None → AreLast line.last line.responses
    → IsShelf (with_last lines line)
shelf_with lines line shelf none last =
    let few : length lines ≤ SHELF_LINES = shelf.few in
    let more : length (lines ++ line ∷ []) ≡ length lines + 1 = length-append lines (line ∷ []) in
    record {
      once = once_left SHELF_LINES (lines ++ line ∷ []) (once_added lines line shelf.once none);
      few = few_left SHELF_LINES (lines ++ line ∷ []) (omega arith);
      held = held_left SHELF_LINES (lines ++ line ∷ []) (held_added lines line shelf.held last);
    }

-- what is taken out at the place of a machine's line
pub line_inside : (machine : MachineKey) (lines : List ShelfLine) (place : ℕ) → IsShelf lines → position_from (is_line_of machine) 0 lines ≡ Some place → place < length lines
line_inside machine lines place shelf found = (stands_there (is_line_of machine) lines place (lone_line machine lines shelf.once) found).inside

pub line_there : (machine : MachineKey) (lines : List ShelfLine) (place : ℕ) (d : ShelfLine) → IsShelf lines → position_from (is_line_of machine) 0 lines ≡ Some place
    → shelf_line lines machine ≡ Some (get_or lines place d)
line_there machine lines place d shelf found = (stands_there (is_line_of machine) lines place (lone_line machine lines shelf.once) found).is d

pub line_gone : (machine : MachineKey) (lines : List ShelfLine) (place : ℕ) → IsShelf lines → position_from (is_line_of machine) 0 lines ≡ Some place
    → remove lines place ≡ lines_without lines machine
line_gone machine lines place shelf found = (stands_there (is_line_of machine) lines place (lone_line machine lines shelf.once) found).others

-- and where it has none
pub no_line : (machine : MachineKey) (lines : List ShelfLine) → position_from (is_line_of machine) 0 lines ≡ None → shelf_line lines machine ≡ None
no_line machine lines none = nothing_found (is_line_of machine) lines 0 none

pub no_line_gone : (machine : MachineKey) (lines : List ShelfLine) → position_from (is_line_of machine) 0 lines ≡ None → lines ≡ lines_without lines machine
no_line_gone machine lines none = nothing_gone (is_line_of machine) lines none

-- what is numbered behind, of two lists
pub behind_joined : (number : ℕ) (xs ys : List Response) → numbered_behind number (xs ++ ys) ≡ numbered_behind number xs ++ numbered_behind number ys
behind_joined number xs ys = filter-append (λ (r : Response). nat_lt number (response_number r)) xs ys

-- one more response, of which there may be a copy
pub behind_more : (number : ℕ) (rs : List Response) (i : ℕ) (r : Response) (out new all : List Response) → i < length rs → r ≡ get_or rs i r
    → out ++ numbered_behind number (drop i rs) ≡ all → new ≡ out ++ numbered_behind number (r ∷ []) → new ++ numbered_behind number (drop (i + 1) rs) ≡ all
behind_more number rs i r out new all lt is told put =
    let front : drop i rs ≡ get_or rs i r ∷ drop (i + 1) rs = rw (add-one, drop-cons rs i r) refl in
    let cut : drop i rs ≡ r ∷ drop (i + 1) rs = front ∙ ap (λ (z : Response). z ∷ drop (i + 1) rs) (sym is) in
    let split : numbered_behind number (drop i rs) ≡ numbered_behind number (r ∷ []) ++ numbered_behind number (drop (i + 1) rs) =
    ap (λ (zs : List Response). numbered_behind number zs) cut ∙ behind_joined number (r ∷ []) (drop (i + 1) rs) in
    ap (λ (zs : List Response). zs ++ numbered_behind number (drop (i + 1) rs)) put
    ∙ append_assoc out (numbered_behind number (r ∷ [])) (numbered_behind number (drop (i + 1) rs))
    ∙ ap (λ (zs : List Response). out ++ zs) (sym split) ∙ told
