-- What a first load begins with.
use Rattle.std.proofs.Common.{◌≡◌, inl, false, refl, arith}
use Rattle.net_rows.specs.Rows.{empty_rows}
use Rattle.sqlite.specs.State.{State, Survives}
use Rattle.sqlite.specs.Tree.{Trees}
use Rattle.store_commits.specs.Kept.{AreStored}
use Rattle.store_reads.specs.Readable.{AreReadable}
use Rattle.store_reads.specs.Seen.{IsSeen}
use Rattle.store_reads.proofs.Seen.{seen_none}
use Rattle.store_sql.specs.Schema.{schema_1}

-- where nothing was done, a crash leaves what it left before
pub untouched : (a : State) → Survives a a (λ (trees : Trees). AreStored trees empty_rows)
untouched a = record { clean = omega arith; shield = λ h. h; counts = omega arith; limit = refl; closes = λ _ o. inl o; crash = λ _ db left. inl left }

-- where nothing was asked
pub unseen : (a : State) → a.now.schema ≡ schema_1 → IsSeen schema_1 a a false
unseen a has = seen_none schema_1 a false

-- the empty rows are values of their types
pub empty_readable : AreReadable empty_rows
empty_readable = record {
  next = record { user = omega arith; key = omega arith; pending = omega arith; machine = omega arith };
  users = tt;
  keys = tt;
  pending = tt;
  machines = tt;
  extras = tt;
  policy = tt;
}
