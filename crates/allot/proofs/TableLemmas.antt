-- How many machines tables hold.
use Rattle.std.proofs.Common.{◌≡◌, ◌≤◌, None, length}
use Rattle.net_rows.specs.Damage.{damage}
use Rattle.net_rows.specs.declared.limits.TheConstants.{MACHINE_LIMIT}
use Rattle.net_rows.specs.declared.rows.Rows.{Rows}
use Rattle.net_rows.proofs.Sounds.{sound_of}

pub few_machines : (t : Rows) → damage t ≡ None → length t.machines ≤ MACHINE_LIMIT
few_machines t sound = (sound_of t sound).machines.count
