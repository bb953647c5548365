-- A machine asks for its map, and may tell of itself.
use Rattle.std.specs.Prelude.{◌≡◌, ℕ, true, List, Option, Some, None, Result, Ok, Contains, map, filter, if◌then◌else◌}
use Rattle.tail_base.specs.declared.key.MachineKey.{MachineKey}
use Rattle.tail_base.specs.declared.key.NodeKey.{NodeKey}
use Rattle.tail_base.specs.Steps.{◌>>=◌}
use Rattle.net_rows.specs.Rows.{after}
use Rattle.net_rows.specs.declared.change.Change.{Change}
use Rattle.net_rows.specs.declared.machine.Machine.{Machine}
use Rattle.tailcfg.specs.declared.update.Update.{Update}
use Rattle.fresh_maps.specs.Fresh.{fresh}
use Rattle.desk_state.specs.Decisions.{changing, only}
use Rattle.desk_state.specs.State.{State, is_live, is_online, live_ids}
use Rattle.desk_state.specs.declared.decision.Decision.{Decision}
use Rattle.desk_state.specs.declared.presence.MachinePresence.{MachinePresence}
use Rattle.desk_state.specs.declared.refusal.Refusal.{Refusal}
use Rattle.peer_view.specs.Seen.{Node, Seen, live_node, seen_of}
use Rattle.fresh_maps.specs.declared.view.View.{View}
use Rattle.desk_state.specs.Rows.{row_replaced}
use Rattle.desk_state.specs.Same.{same_told}
use Rattle.machine_asks.specs.Asking.{asking}
use Rattle.machine_asks.specs.Update.{told_row}
use Rattle.machine_asks.specs.declared.answer.MachineAnswer.{MachineAnswer}
use Rattle.machine_asks.specs.declared.answer.MachineAnswer.TheVariants.{Map}

-- the ids of the machines that are online
abbrev pub online_ids : List MachinePresence → List ℕ
online_ids presence = map (λ (p : MachinePresence). p.id) (filter (λ (p : MachinePresence). is_online (Some p.presence)) presence)

-- what is seen of the state
abbrev pub world_of : State → Seen
world_of s = seen_of s.settings s.policy s.rows (live_ids s) (online_ids s.presence)

-- a machine of the state, as it is seen
abbrev pub node_in : State → Machine → Node
node_in s m = live_node s.policy s.rows.users (online_ids s.presence) m

-- the map of a machine, computed afresh
abbrev pub fresh_for : State → Machine → View
fresh_for s m = fresh (world_of s) (node_in s m)

-- the answer that is the whole map of a machine
abbrev pub map_for : State → Machine → MachineAnswer
map_for s m = Map (fresh_for s m)

-- The machine has a row, and is live.
pub record IsLiveRow (s : State) (m : Machine) : Type 0 where
  pub inside : Contains s.rows.machines m
  pub live : is_live s m ≡ true

-- the state after a change of rows
abbrev pub after_change : State → Change → State
after_change s c = record s { rows = after s.rows c }

-- the map with what the machine told of itself; if that stays as it was, no row changes
abbrev pub map_after_update : State → Machine → Machine → Decision MachineAnswer
map_after_update s m r =
    if same_told m r then only (map_for s m)
    else changing (row_replaced s.rows r) (map_for (after_change s (row_replaced s.rows r)) r)

-- the map, after what the machine tells of itself, if anything
abbrev pub map_decision : State → Machine → Option Update → Decision MachineAnswer
map_decision s m None = only (map_for s m)
map_decision s m (Some u) = map_after_update s m (told_row m u)

-- the live machine of these keys gets its map
abbrev pub one_map : State → MachineKey → NodeKey → Option Update → Result (Decision MachineAnswer) Refusal
one_map s mk node told = asking s mk node >>= (λ m. Ok (map_decision s m told))
