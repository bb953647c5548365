-- Responses of a line, which are numbered one by one up to its last number.
use Rattle.std.proofs.Common.{◌≡◌, ◌<◌, ◌+◌, ◌-◌, ◌≤◌, ℕ, zero, suc, Bool, true, false, List, [], ◌∷◌, ◌++◌, Option, Some, None, length, drop, inl, inr, refl, sym, ap, subst, ◌∙◌, arith}
use Rattle.std.specs.Prelude.{◌==◌, if◌then◌else◌, nat_le, nat_lt}
use Rattle.std.specs.List.{list_all, list_any, range_with_len}
use Rattle.std.proofs.lemmas.Bool.{cases_Bool, cases_lt}
use Rattle.std.proofs.lemmas.Bool.Decides.{nat_tests}
use Rattle.std.proofs.lemmas.List.{length-append, length-drop}
use Rattle.std.specs.Str.{bytes_eq}
use Rattle.circular_buffer.specs.Buffer.{keep_last}
use Rattle.tail_base.proofs.Bools.{all3}
use Rattle.tailcfg.specs.declared.response.Response.{Response}
use Rattle.frame_shelf.specs.Shelves.{AreInTurn, AreLast, ShelfLine, behind_in, has_behind, held_with, holds_number, is_short, numbered_behind, numbers_behind, reach_in, reaches_back, response_number}
use Rattle.frame_shelf.specs.declared.limits.TheConstants.{LINE_FRAMES}

-- one more behind the others
pub in_turn_added : (before : ℕ) (rs : List Response) (r : Response) → AreInTurn before rs → response_number r ≡ before + length rs + 1 → AreInTurn before (rs ++ r ∷ [])
in_turn_added before [] r turn is = let here : response_number r ≡ before + 1 = omega arith in (here, tt)
in_turn_added before (x ∷ rs) r turn is =
    let next : response_number r ≡ (before + 1) + length rs + 1 = omega arith in
    (turn.0, in_turn_added (before + 1) rs r turn.1 next)

-- without the first ones
pub in_turn_dropped : (n before : ℕ) (rs : List Response) → AreInTurn before rs → AreInTurn (before + n) (drop n rs)
in_turn_dropped zero before rs turn =
    let same : before ≡ before + 0 = omega arith in
    subst (λ (b : ℕ). AreInTurn b rs) same turn
in_turn_dropped (suc n) before [] turn = tt
in_turn_dropped (suc n) before (x ∷ rs) turn =
    let same : (before + 1) + n ≡ before + suc n = omega arith in
    subst (λ (b : ℕ). AreInTurn b (drop n rs)) same (in_turn_dropped n (before + 1) rs turn.1)

-- nothing is numbered so
pub none_last : (last : ℕ) → AreLast last []
none_last last = record { within = omega arith; in_turn = tt; few = omega arith }

-- with one more behind, of which the last ones stay
pub last_kept : (number most : ℕ) (held : List Response) (r : Response) → response_number r ≡ number → 1 ≤ number → length held ≤ number - 1
    → AreInTurn (number - 1 - length held) held
    → (length (keep_last most (held ++ r ∷ [])) ≤ number) × AreInTurn (number - length (keep_last most (held ++ r ∷ []))) (keep_last most (held ++ r ∷ [])) × (length (keep_last most (held ++ r ∷ [])) ≤ most)
last_kept number most held r is least within turn =
    let all : List Response = held ++ r ∷ [] in
    let long : length all ≡ length held + 1 = length-append held (r ∷ []) in
    let gone : ℕ = length all - most in
    let left : length (drop gone all) ≡ length all - gone = length-drop gone all in
    let next : response_number r ≡ (number - 1 - length held) + length held + 1 = omega arith in
    let added : AreInTurn (number - 1 - length held) all = in_turn_added (number - 1 - length held) held r turn next in
    let cut : AreInTurn ((number - 1 - length held) + gone) (drop gone all) = in_turn_dropped gone (number - 1 - length held) all added in
    let same : (number - 1 - length held) + gone ≡ number - length (drop gone all) = omega arith in
    (omega arith, subst (λ (b : ℕ). AreInTurn b (drop gone all)) same cut, omega arith)

pub last_with : (number : ℕ) (held : List Response) (r : Response) → response_number r ≡ number → 1 ≤ number → AreLast (number - 1) held → AreLast number (held_with held r)
last_with number held r is least last =
    elim (cases_Bool (is_short r)) [
      | inl short ↦
          let parts = last_kept number LINE_FRAMES held r is least last.within last.in_turn in
          rw short (record { within = parts.0; in_turn = parts.1; few = parts.2 })
      | inr long ↦ rw long (none_last number)
    ]

-- so it is of what a response was put behind
pub last_put : (held after : List Response) (r : Response) → 1 ≤ response_number r → AreLast (response_number r - 1) held → after ≡ held_with held r
    → AreLast (response_number r) after
last_put held after r least last is =
    subst (λ (xs : List Response). AreLast (response_number r) xs) (sym is) (last_with (response_number r) held r refl least last)

-- a number that isn't above the one before the first isn't among them
pub not_among : (before number : ℕ) (rs : List Response) → AreInTurn before rs → number ≤ before → holds_number rs number ≡ false
not_among before number [] turn below = refl
not_among before number (r ∷ rs) turn below =
    let is : response_number r ≡ before + 1 = turn.0 in
    let other : (response_number r == number) ≡ false = grind (arith, nat_tests) in
    rw other (not_among (before + 1) number rs turn.1 (omega arith))

-- one above it, and not above the last, is
pub among : (before number : ℕ) (rs : List Response) → AreInTurn before rs → before < number → number ≤ before + length rs → holds_number rs number ≡ true
among before number [] turn above within = absurd (omega arith)
among before number (r ∷ rs) turn above within =
    let is : response_number r ≡ before + 1 = turn.0 in
    elim (cases_lt (before + 1) number) [
      | inl more ↦
          let other : (response_number r == number) ≡ false = grind (arith, nat_tests) in
          rw other (among (before + 1) number rs turn.1 more (omega arith))
      | inr here ↦
          let same : (response_number r == number) ≡ true = grind (arith, nat_tests) in
          rw same refl
    ]

-- so many from one on
pub all_among : (before start count : ℕ) (rs : List Response) → AreInTurn before rs → before < start → start + count ≤ before + length rs + 1
    → list_all (holds_number rs) (range_with_len start count) ≡ true
all_among before start zero rs turn above within = refl
all_among before start (suc count) rs turn above within =
    let here : holds_number rs start ≡ true = among before start rs turn above (omega arith) in
    rw here (all_among before (start + 1) count rs turn (omega arith) (omega arith))

pub first_not_among : (before start count : ℕ) (rs : List Response) → AreInTurn before rs → start ≤ before → 1 ≤ count
    → list_all (holds_number rs) (range_with_len start count) ≡ false
first_not_among before start zero rs turn below some = absurd (omega arith)
first_not_among before start (suc count) rs turn below some =
    let here : holds_number rs start ≡ false = not_among before start rs turn below in
    rw here refl

-- All that are numbered behind one are among the last ones exactly if these are so many.
pub reached_by_count : (number last : ℕ) (rs : List Response) → AreLast last rs → number ≤ last
    → nat_le (last - number) (length rs) ≡ list_all (holds_number rs) (numbers_behind number last)
reached_by_count number last rs are upto =
    let within : length rs ≤ last = are.within in
    elim (cases_lt (length rs) (last - number)) [
      | inl far ↦
          let test : nat_le (last - number) (length rs) ≡ false = grind (arith, nat_tests) in
          test ∙ sym (first_not_among (last - length rs) (number + 1) (last - number) rs are.in_turn (omega arith) (omega arith))
      | inr near ↦
          let test : nat_le (last - number) (length rs) ≡ true = grind (arith, nat_tests) in
          test ∙ sym (all_among (last - length rs) (number + 1) (last - number) rs are.in_turn (omega arith) (omega arith))
    ]

-- where all are numbered behind one, those numbered behind it are all
pub behind_all : (before number : ℕ) (rs : List Response) → AreInTurn before rs → number ≤ before → numbered_behind number rs ≡ rs
behind_all before number [] turn below = refl
behind_all before number (r ∷ rs) turn below =
    let is : response_number r ≡ before + 1 = turn.0 in
    let test : nat_lt number (response_number r) ≡ true = grind (arith, nat_tests) in
    rw test (ap (λ (zs : List Response). r ∷ zs) (behind_all (before + 1) number rs turn.1 (omega arith)))

-- those numbered behind one are numbered one by one from there up to the last
pub behind_in_turn : (before number : ℕ) (rs : List Response) → AreInTurn before rs → before ≤ number → number ≤ before + length rs
    → AreInTurn number (numbered_behind number rs) × (number + length (numbered_behind number rs) ≡ before + length rs)
behind_in_turn before number [] turn low high = (tt, omega arith)
behind_in_turn before number (r ∷ rs) turn low high =
    elim (cases_lt before number) [
      | inl gone ↦
          let is : response_number r ≡ before + 1 = turn.0 in
          let test : nat_lt number (response_number r) ≡ false = grind (arith, nat_tests) in
          let rest = behind_in_turn (before + 1) number rs turn.1 (omega arith) (omega arith) in
          let long : number + length (numbered_behind number rs) ≡ (before + 1) + length rs = rest.1 in
          rw test (rest.0, omega arith)
      | inr here ↦
          let same : before ≡ number = omega arith in
          let all : numbered_behind number (r ∷ rs) ≡ r ∷ rs = behind_all before number (r ∷ rs) turn here in
          subst (λ (zs : List Response). AreInTurn number zs × (number + length zs ≡ before + length (r ∷ rs))) (sym all)
          (subst (λ (b : ℕ). AreInTurn b (r ∷ rs)) same turn, omega arith)
    ]

-- of a line that may be none
pub reached_follow : (handle : List ℕ) (number last : ℕ) (line : Option ShelfLine) → ((l : ShelfLine) → line ≡ Some l → AreLast l.last l.responses)
    → reach_in handle number line ≡ Some last → AreInTurn number (behind_in number line) × (number + length (behind_in number line) ≡ last)
reached_follow handle number last None held reached = let bad : None ≡ Some last = reached in absurd (cc)
reached_follow handle number last (Some line) held reached =
    let are : AreLast line.last line.responses = held line refl in
    let within : length line.responses ≤ line.last = are.within in
    elim (cases_Bool (reaches_back handle number line)) [
      | inl passes ↦
          let is : Some line.last ≡ Some last = rw passes at reached in
          let same : line.last ≡ last = cc in
          let parts = all3 (bytes_eq line.handle handle) (nat_le number line.last) (has_behind number line) passes in
          let upto : number ≤ line.last = grind (arith, nat_tests, parts.1) in
          let count : nat_le (line.last - number) (length line.responses) ≡ true = reached_by_count number line.last line.responses are upto ∙ parts.2 in
          let near : line.last - number ≤ length line.responses = grind (arith, nat_tests, count) in
          let follow = behind_in_turn (line.last - length line.responses) number line.responses are.in_turn (omega arith) (omega arith) in
          let long : number + length (numbered_behind number line.responses) ≡ (line.last - length line.responses) + length line.responses = follow.1 in
          (follow.0, omega arith)
      | inr fails ↦ let bad : None ≡ Some last = rw fails at reached in absurd (cc)
    ]
