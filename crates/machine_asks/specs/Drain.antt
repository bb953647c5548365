-- A poll drains its session: the client is brought to the map that its machine has now.
use Rattle.std.specs.Prelude.{ℕ, ◌+◌, ◌^◌, ◌&&◌, Bool, List, length, nat_lt, Option, Some, None, if◌then◌else◌}
use Rattle.tail_base.specs.declared.key.MachineKey.{MachineKey}
use Rattle.net_rows.specs.Rows.{machine_of}
use Rattle.net_rows.specs.Shelf.{put_row}
use Rattle.net_rows.specs.declared.machine.Machine.{Machine}
use Rattle.tailcfg.specs.declared.response.Response.{Response}
use Rattle.fresh_maps.specs.declared.view.View.{View}
use Rattle.map_delta.specs.Delta.{responses_for}
use Rattle.desk_state.specs.Sessions.{session_of}
use Rattle.desk_state.specs.State.{State, is_live}
use Rattle.desk_state.specs.declared.session.Session.{Session}
use Rattle.machine_asks.specs.Detach.{is_held_under}
use Rattle.machine_asks.specs.OneMap.{fresh_for}
use Rattle.machine_asks.specs.declared.draining.DrainDecision.{DrainDecision}

-- the session is attached, under this handle, and numbers are left for its responses
abbrev pub is_drained : State → List ℕ → Session → Bool
is_drained s handle x = is_held_under s handle x && nat_lt x.seq (2 ^ 63)

-- the responses, and the session with this map sent
abbrev pub session_at : Session → View → List Response → DrainDecision
session_at x view responses = record {
  session = record x { seq = x.seq + length responses; sent = Some view };
  responses = responses;
}

-- a session is brought to the map of its machine, computed afresh
abbrev pub session_drained : State → Machine → Session → DrainDecision
session_drained s m x = session_at x (fresh_for s m) (responses_for x.handle x.seq x.sent (fresh_for s m))

abbrev pub drain_session : State → List ℕ → Machine → Option Session → Option DrainDecision
drain_session s handle m None = None
drain_session s handle m (Some x) = if is_drained s handle x then Some (session_drained s m x) else None

-- the machine of this key, if it is live
abbrev pub if_live : State → Option Machine → Option Machine
if_live s None = None
if_live s (Some m) = if is_live s m then Some m else None

abbrev pub drain_machine : State → List ℕ → Option Machine → Option DrainDecision
drain_machine s handle None = None
drain_machine s handle (Some m) = drain_session s handle m (session_of s.sessions m.id)

-- The session of the live machine of this key is drained; none is where it has ended.
abbrev pub drain : State → MachineKey → List ℕ → Option DrainDecision
drain s mk handle = drain_machine s handle (if_live s (machine_of s.rows.machines mk.0))

-- the state after a drain
abbrev pub drained_state : State → DrainDecision → State
drained_state s d = record s { sessions = put_row (λ (r : Session). r.id) s.sessions d.session }
