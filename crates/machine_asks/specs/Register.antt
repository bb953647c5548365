-- The outcome of the registration of a machine: its steps in their order.
use Rattle.std.specs.Prelude.{ℕ, List, Bool, false, Option, Some, None, Result, Ok, Err, length, nat_lt, ◌&&◌, if◌then◌else◌}
use Rattle.std.specs.Str.{bytes_eq}
use Rattle.tail_base.specs.declared.key.MachineKey.{MachineKey}
use Rattle.tail_base.specs.declared.key.NodeKey.{NodeKey}
use Rattle.net_rows.specs.Rows.{machine_of}
use Rattle.net_rows.specs.declared.machine.Machine.{Machine}
use Rattle.tailcfg.specs.declared.register.Register.{Register}
use Rattle.fresh_maps.specs.Profiles.{profile_of}
use Rattle.desk_state.specs.Decisions.{only}
use Rattle.desk_state.specs.State.{State, is_live}
use Rattle.desk_state.specs.declared.decision.Decision.{Decision}
use Rattle.desk_state.specs.declared.refusal.Refusal.{Refusal}
use Rattle.desk_state.specs.declared.refusal.Refusal.TheVariants.{NodeKeyTaken}
use Rattle.desk_state.specs.Rows.{is_taken}
use Rattle.machine_asks.specs.ByKey.{by_key}
use Rattle.machine_asks.specs.Logout.{is_logout, logout, node_key_replaced, rotates}
use Rattle.machine_asks.specs.Waiting.{wait}
use Rattle.machine_asks.specs.declared.answer.MachineAnswer.{MachineAnswer}
use Rattle.machine_asks.specs.declared.answer.MachineAnswer.TheVariants.{Registered}

-- the machine's row is live and has this node key: it registers again
abbrev pub repeats : State → NodeKey → Machine → Bool
repeats s node m = is_live s m && bytes_eq m.node.0 node.0

-- it registers as it stands
abbrev pub registered_again : State → Machine → Decision MachineAnswer
registered_again s m = only (Registered (profile_of s.rows.users m.user) false)

-- a rule for a machine that has a row, before the later rules
abbrev pub of_row : Option Machine → (Machine → Bool) → (Machine → Decision MachineAnswer) → Result (Decision MachineAnswer) Refusal → Result (Decision MachineAnswer) Refusal
of_row None fits decides later = later
of_row (Some m) fits decides later = if fits m then Ok (decides m) else later

-- The first rule that fits decides: logout, repeat, taken node key, key, rotation, waiting.
abbrev pub register_as : State → MachineKey → Register → Option (List ℕ) → Option Machine → Result (Decision MachineAnswer) Refusal
register_as s mk form words held =
    if is_logout s form.expiry then logout s form.node held
    else of_row held (repeats s form.node) (registered_again s)
    (if is_taken s.rows.machines mk form.node then Err NodeKeyTaken
    else if nat_lt 0 (length form.auth) then by_key s mk form held
    else of_row held (rotates s form.old) (node_key_replaced s form.node)
    (wait s mk form words))

-- the machine of this key registers
abbrev pub register : State → MachineKey → Register → Option (List ℕ) → Result (Decision MachineAnswer) Refusal
register s mk form words = register_as s mk form words (machine_of s.rows.machines mk.0)
