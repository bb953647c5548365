-- The presence of machines.
use Rattle.std.specs.Prelude.{◌≡◌, Contains}
use Rattle.net_rows.specs.Shelf.{HasRow, IsAscending}
use Rattle.net_rows.specs.declared.machine.Machine.{Machine}
use Rattle.desk_state.specs.State.{State}
use Rattle.desk_state.specs.declared.presence.MachinePresence.{MachinePresence}

-- The machine has exactly one presence.
pub record HasOnePresence (s : State) (m : Machine) : Type 0 where
  pub presence : MachinePresence
  pub inside : Contains s.presence presence
  pub own : presence.id ≡ m.id
  pub alone : (other : MachinePresence) → Contains s.presence other → other.id ≡ m.id → other ≡ presence

-- Presences rise by the ids of their machines, and each machine's row has one.
pub record ArePresent (s : State) : Type 0 where
  pub rise : IsAscending (λ (p : MachinePresence). p.id) s.presence
  pub each : (m : Machine) → Contains s.rows.machines m → HasRow (λ (p : MachinePresence). p.id) s.presence m.id
