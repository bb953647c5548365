-- A machine logs out, or takes another node key.
use Rattle.std.specs.Prelude.{ℤ, Bool, true, false, [], ◌∷◌, Option, Some, None, Result, Ok, Err, not, ◌&&◌, if◌then◌else◌}
use Rattle.std.specs.Str.{bytes_eq}
use Rattle.tail_base.specs.declared.key.NodeKey.{NodeKey}
use Rattle.net_rows.specs.declared.change.Change.{Change}
use Rattle.net_rows.specs.declared.machine.Machine.{Machine}
use Rattle.fresh_maps.specs.Profiles.{profile_of}
use Rattle.desk_state.specs.Changes.{machine_gone}
use Rattle.desk_state.specs.Decisions.{changing}
use Rattle.desk_state.specs.State.{State, is_ahead, is_live}
use Rattle.desk_state.specs.declared.decision.Decision.{Decision}
use Rattle.desk_state.specs.declared.refusal.Refusal.{Refusal}
use Rattle.desk_state.specs.declared.refusal.Refusal.TheVariants.{UnknownMachine}
use Rattle.desk_state.specs.Rows.{row_replaced}
use Rattle.machine_asks.specs.declared.answer.MachineAnswer.{MachineAnswer}
use Rattle.machine_asks.specs.declared.answer.MachineAnswer.TheVariants.{Registered}

-- an expiry that has passed is asked for
abbrev pub is_logout : State → Option ℤ → Bool
is_logout s expiry = not (is_ahead s.now expiry)

-- the machine is offline from now on if it was online, and this changes of its row
abbrev pub session_ended : Machine → Option Change → MachineAnswer → Decision MachineAnswer
session_ended m change answer = record { change = change; policy = None; offline = []; ended = m.id ∷ []; answer = answer }

-- the row expires now
abbrev pub expired_row : State → Machine → Machine
expired_row s m = record m { expiry = Some s.now }

-- the answer: the machine's user, and that its node key has expired
abbrev pub logged_out : State → Machine → MachineAnswer
logged_out s m = Registered (profile_of s.rows.users m.user) true

-- an ephemeral machine's row goes
abbrev pub machine_removed : State → Machine → Decision MachineAnswer
machine_removed s m = changing (machine_gone s.rows m.id) (logged_out s m)

-- another one has expired already: no row changes
abbrev pub logout_again : State → Machine → Decision MachineAnswer
logout_again s m = session_ended m None (logged_out s m)

-- or it expires now
abbrev pub logout_now : State → Machine → Decision MachineAnswer
logout_now s m = session_ended m (Some (row_replaced s.rows (expired_row s m))) (logged_out s m)

-- the machine of these keys logs out
abbrev pub logout : State → NodeKey → Option Machine → Result (Decision MachineAnswer) Refusal
logout s node None = Err UnknownMachine
logout s node (Some m) =
    if not (bytes_eq m.node.0 node.0) then Err UnknownMachine
    else if m.ephemeral then Ok (machine_removed s m)
    else if not (is_ahead s.now m.expiry) then Ok (logout_again s m)
    else Ok (logout_now s m)

-- the node key is the one that is to be replaced
abbrev pub is_old : Option NodeKey → NodeKey → Bool
is_old None node = false
is_old (Some old) node = bytes_eq node.0 old.0

-- the live machine takes another node key in place of the one that it has
abbrev pub rotates : State → Option NodeKey → Machine → Bool
rotates s old m = is_live s m && is_old old m.node

-- the row takes the new node key and keeps all else
abbrev pub node_key_replaced : State → NodeKey → Machine → Decision MachineAnswer
node_key_replaced s node m =
    session_ended m (Some (row_replaced s.rows (record m { node = node }))) (Registered (profile_of s.rows.users m.user) false)
