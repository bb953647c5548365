-- What a reading leaves of a database.
use Rattle.std.specs.Prelude.{◌≡◌, ◌⊎◌, Bool, IsTrue}
use Rattle.sqlite.specs.State.{State, HasCleanDisk, Survives}
use Rattle.sqlite_schema.specs.declared.schema.Schema.{Schema}

-- What is open was open, with the same commit, and shows what it showed or what was committed.
pub record StaysOpen (old new : State) : Type 0 where
  pub was_open : IsTrue old.is_open
  pub committed : new.committed ≡ old.committed
  pub shows : (new.now ≡ old.now) ⊎ (new.now ≡ old.committed)

-- Under this schema nothing is committed, and where the reading went well the database shows what it showed.
pub record IsSeen (schema : Schema) (old new : State) (done : Bool) : Type 0 where
  pub clean : HasCleanDisk new → HasCleanDisk old
  pub same : HasCleanDisk new → old.now.schema ≡ schema → IsTrue done → new.now ≡ old.now
  pub stays : HasCleanDisk new → old.now.schema ≡ schema → IsTrue new.is_open → StaysOpen old new
  pub survives : HasCleanDisk new → old.now.schema ≡ schema → Survives old new (λ _. ⊥)
