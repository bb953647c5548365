-- The machine that asks.
use Rattle.std.specs.Prelude.{Result, Ok, not}
use Rattle.std.specs.Str.{bytes_eq}
use Rattle.tail_base.specs.declared.key.MachineKey.{MachineKey}
use Rattle.tail_base.specs.declared.key.NodeKey.{NodeKey}
use Rattle.tail_base.specs.Steps.{◌>>=◌, refuse_if, or_fault}
use Rattle.net_rows.specs.Rows.{machine_of}
use Rattle.net_rows.specs.declared.machine.Machine.{Machine}
use Rattle.desk_state.specs.State.{State, is_live}
use Rattle.desk_state.specs.declared.refusal.Refusal.{Refusal}
use Rattle.desk_state.specs.declared.refusal.Refusal.TheVariants.{UnknownMachine, NotLive}

-- the live machine of these keys
abbrev pub asking : State → MachineKey → NodeKey → Result Machine Refusal
asking s mk node = do
  row ← or_fault UnknownMachine (machine_of s.rows.machines mk.0)
  same ← refuse_if (not (bytes_eq row.node.0 node.0)) UnknownMachine
  live ← refuse_if (not (is_live s row)) NotLive
  Ok row
