use Rattle.std.proofs.Common.{refl}
use Rattle.store_rows.proofs.laws.stored_rows_are_read_again.Goals as goal

pub returns : goal.returns
returns c = record {
  meta = λ x found fit read. read.only x fit refl;
  users = λ x found fit read. read.only x fit refl;
  auth_keys = λ x found fit read. read.only x fit refl;
  pending = λ x found fit read. read.only x fit refl;
  machines = λ x found fit read. read.only x fit refl;
  extras = λ place x found fit read. read.only x fit refl;
  policy = λ x found read. read.only x tt refl;
}
