-- Spare places.
use Rattle.std.proofs.Common.{◌≤◌, List, length, arith}
use Rattle.std.proofs.lemmas.List.Sums.{count_by-le-length}
use Rattle.net_rows.specs.declared.change.Row.{Row}
use Rattle.net_rows.specs.Held.{Spare, Suffices, is_user, is_key, is_pending, is_machine}

-- a place of each kind for each put suffices
pub suffices : (spare : Spare) (puts : List Row) → length puts ≤ spare.users → length puts ≤ spare.keys
    → length puts ≤ spare.pending → length puts ≤ spare.machines → Suffices spare puts
suffices spare puts u k p m = record {
  users = omega (arith, count_by-le-length is_user puts);
  keys = omega (arith, count_by-le-length is_key puts);
  pending = omega (arith, count_by-le-length is_pending puts);
  machines = omega (arith, count_by-le-length is_machine puts);
}
