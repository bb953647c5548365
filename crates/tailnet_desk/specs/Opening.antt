-- Which tables a desk opens, and the state in which it does.
use Rattle.std.specs.Prelude.{◌≡◌, ℤ, [], map, Option, None, Some, if◌then◌else◌}
use Rattle.net_rows.specs.declared.rows.Rows.{Rows}
use Rattle.net_rows.specs.declared.machine.Machine.{Machine}
use Rattle.net_rows.specs.declared.change.Damage.{Damage}
use Rattle.net_rows.specs.declared.change.Kind.TheVariants as kind
use Rattle.settings.specs.declared.fields.SettingsFields.{SettingsFields}
use Rattle.desk_state.specs.State.{State, offline_at}
use Rattle.policy_asks.specs.Kept.{is_unread, policy_in}
use Rattle.tailnet_desk.specs.declared.desk.OpenFault.{OpenFault}
use Rattle.tailnet_desk.specs.declared.desk.OpenFault.TheVariants as fault

-- the damage of tables that keep a policy whose text has a fault; all others are opened
abbrev pub unread_policy : Rows → Option Damage
unread_policy rows = if is_unread rows.policy then Some (record { kind = kind.Policy; id = 0 }) else None

-- Why tables aren't opened: the text of the policy has a fault, or memory ran out.
abbrev pub IsOpenFault : Rows → OpenFault → Type 0
IsOpenFault rows fault.KeeperFault = ⊥
IsOpenFault rows (fault.Damaged kind id) = unread_policy rows ≡ Some (record { kind = kind; id = id })
IsOpenFault rows fault.NoMemory = Unit {0}

-- the state of tables when they are opened: the policy that they keep is in force, no machine is online, and none has a
-- session
abbrev pub opening : SettingsFields → Rows → ℤ → State
opening settings rows moment = record {
  settings = settings;
  rows = rows;
  policy = policy_in rows;
  presence = map (λ (m : Machine). offline_at moment m.id) rows.machines;
  sessions = [];
  attached = [];
  next_session = 1;
  now = moment;
}
