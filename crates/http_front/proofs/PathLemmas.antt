-- Where the first byte is that passes a test.
use Rattle.std.proofs.Common.{◌≡◌, ℕ, ◌≤◌, List, length, Bool, true, false, cond, ltb, Some, None}
use Rattle.std.specs.List.{position_or_len}
use Rattle.std.proofs.lemmas.Bool.{ltb-false}

chosen : (b : Bool) (m n : ℕ) → cond b (Some m) None ≡ Some n → m ≡ n
chosen true m n h = cc
chosen false m n h = cc

pub position_found : (test : ℕ → Bool) (xs : List ℕ) (n : ℕ) → cond (ltb (position_or_len test xs) (length xs)) (Some (position_or_len test xs)) None ≡ Some n → position_or_len test xs ≡ n
position_found test xs n h = chosen (ltb (position_or_len test xs) (length xs)) (position_or_len test xs) n h

rejected : (b : Bool) (m : ℕ) → cond b (Some m) None ≡ None → b ≡ false
rejected true m h = cc
rejected false m h = cc

pub position_not_found : (test : ℕ → Bool) (xs : List ℕ) → cond (ltb (position_or_len test xs) (length xs)) (Some (position_or_len test xs)) None ≡ None → length xs ≤ position_or_len test xs
position_not_found test xs h = ltb-false (position_or_len test xs) (length xs) (rejected _ _ h)
