-- What the clients of polls fold, and that it is the map computed afresh.
use Rattle.std.specs.Prelude.{◌≡◌, ℕ, List, [], ◌∷◌, Option, Some, if◌then◌else◌, true}
use Rattle.std.specs.Str.{bytes_eq}
use Rattle.tail_base.specs.declared.key.MachineKey.{MachineKey}
use Rattle.tailcfg.specs.declared.response.Response.{Response}
use Rattle.net_rows.specs.Rows.{machine_of}
use Rattle.net_rows.specs.declared.machine.Machine.{Machine}
use Rattle.fresh_maps.specs.Granted.{MeetsPolicy}
use Rattle.fresh_maps.specs.declared.view.View.{View}
use Rattle.map_delta.specs.Fold.{fold_all}
use Rattle.desk_state.specs.State.{State, is_live}
use Rattle.machine_asks.specs.OneMap.{fresh_for, node_in, world_of}
use Rattle.tailnet_desk.specs.History.{state_after}
use Rattle.tailnet_desk.specs.declared.entry.Entry.{Entry}
use Rattle.tailnet_desk.specs.declared.entry.Event.{Event}
use Rattle.tailnet_desk.specs.declared.entry.Event.TheVariants as event
use Rattle.tailnet_desk.specs.declared.reply.Reply.{Reply}
use Rattle.tailnet_desk.specs.declared.reply.Reply.TheVariants.{Attached, Detached, Done, Ended, Frames, Lost, Refused}

-- the responses of a reply
abbrev pub frames_in : Reply → List Response
frames_in (Done answer) = []
frames_in (Attached handle seq resumed may_wait) = []
frames_in (Frames responses) = responses
frames_in Ended = []
frames_in Detached = []
frames_in (Refused refusal) = []
frames_in (Lost loss) = []

-- those that are sent under a handle: an event that drains the session of that handle sends its reply's
abbrev pub sent_under : List ℕ → Event → List Response → List Response
sent_under handle (event.Ask x moment words) responses = []
sent_under handle (event.Attach mk node other seq moment words) responses = []
sent_under handle (event.Drain mk other moment) responses = if bytes_eq other handle then responses else []
sent_under handle (event.Detach mk other moment) responses = []

abbrev pub frames_to : List ℕ → Entry → List Response
frames_to handle e = sent_under handle e.event (frames_in e.reply)

-- what the client of each handle has folded after an entry
abbrev pub views_after : (List ℕ → Option View) → Entry → List ℕ → Option View
views_after views e handle = fold_all (views handle) (frames_to handle e)

-- after some entries
abbrev pub views_at : (List ℕ → Option View) → List Entry → List ℕ → Option View
views_at views [] = views
views_at views (e ∷ es) = views_at (views_after views e) es

-- It is the map of the machine of this key, which is live, computed afresh, and its filter admits exactly the flows to
-- what the machine serves that the policy in force grants.
pub record IsFreshMap (t : State) (mk : MachineKey) (view : Option View) : Type 0 where
  pub machine : Machine
  pub row : machine_of t.rows.machines mk.0 ≡ Some machine
  pub live : is_live t machine ≡ true
  pub map : view ≡ Some (fresh_for t machine)
  pub filter : MeetsPolicy (world_of t) (node_in t machine) (fresh_for t machine).filter

abbrev pub IsFreshIf : Reply → State → MachineKey → Option View → Type 0
IsFreshIf (Done answer) t mk view = Unit {0}
IsFreshIf (Attached handle seq resumed may_wait) t mk view = Unit {0}
IsFreshIf (Frames responses) t mk view = IsFreshMap t mk view
IsFreshIf Ended t mk view = Unit {0}
IsFreshIf Detached t mk view = Unit {0}
IsFreshIf (Refused refusal) t mk view = Unit {0}
IsFreshIf (Lost loss) t mk view = Unit {0}

abbrev pub IsFreshAt : State → Event → Reply → (List ℕ → Option View) → Type 0
IsFreshAt t (event.Ask x moment words) reply views = Unit {0}
IsFreshAt t (event.Attach mk node handle seq moment words) reply views = Unit {0}
IsFreshAt t (event.Drain mk handle moment) reply views = IsFreshIf reply t mk (views handle)
IsFreshAt t (event.Detach mk handle moment) reply views = Unit {0}

-- After a drain that is answered with responses its client has the map computed afresh.
abbrev pub IsFresh : State → Entry → (List ℕ → Option View) → Type 0
IsFresh t e views = IsFreshAt t e.event e.reply views

-- So it is after each entry, by what the client of each handle had before them.
abbrev pub AreFollowed : State → (List ℕ → Option View) → List Entry → Type 0
AreFollowed s views [] = Unit {0}
AreFollowed s views (e ∷ es) =
    let t = state_after s e.event e.reply in
    IsFresh t e (views_after views e) × AreFollowed t (views_after views e) es
