-- What statements within a transaction leave as it was, and what its end makes of it.
use Rattle.std.specs.Prelude.{◌≡◌, Bool, IsTrue}
use Rattle.sqlite.specs.Tree.{Trees}
use Rattle.sqlite.specs.Store.{Ghosts}
use Rattle.sqlite.specs.State.{State, HasCleanDisk, KeepsCommit, Survives}
use Rattle.sqlite.specs.Held.{Held, state}

-- Nothing is committed, and a crash leaves what it would have left before. Where all was done, the transaction goes on.
pub record IsPending {S : Type 0} (g : Ghosts S) (old new : Held S) (done : Bool) : Type 0 where
  pub kept : HasCleanDisk (state g new) → KeepsCommit (state g old) (state g new)
  pub inside : HasCleanDisk (state g new) → IsTrue done → IsTrue old.in_transaction → IsTrue new.in_transaction
  pub survives : Survives (state g old) (state g new) (λ _. ⊥)

-- What is shown is committed, and it is what an open after a crash finds.
pub record IsSettled (s : State) : Type 0 where
  pub opened : IsTrue s.is_open
  pub committed : s.now ≡ s.committed
  pub durable : (db : Trees) → s.may_leave db → db ≡ s.now.trees

-- What is shown is what was shown before, as long as the store is open.
abbrev pub Leaves : State → State → Type 0
Leaves old new = IsTrue new.is_open → new.now ≡ old.now
