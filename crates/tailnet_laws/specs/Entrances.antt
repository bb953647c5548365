-- By which entries of a history a machine gets a row.
use Rattle.std.specs.Prelude.{◌≡◌, ◌++◌, ◌∷◌, List, Contains}
use Rattle.tail_base.specs.declared.key.MachineKey.{MachineKey}
use Rattle.net_rows.specs.declared.machine.Machine.{Machine}
use Rattle.net_rows.specs.declared.rows.Rows.{Rows}
use Rattle.desk_state.specs.State.{State}
use Rattle.tailnet_desk.specs.History.{replay}
use Rattle.tailnet_desk.specs.declared.ask.Ask.{Ask}
use Rattle.tailnet_desk.specs.declared.ask.Ask.TheVariants as ask
use Rattle.tailnet_desk.specs.declared.entry.Entry.{Entry}
use Rattle.tailnet_desk.specs.declared.entry.Event.{Event}
use Rattle.tailnet_desk.specs.declared.entry.Event.TheVariants as event
use Rattle.tailnet_desk.specs.declared.reply.Reply.{Reply}
use Rattle.tailnet_desk.specs.declared.reply.Reply.TheVariants.{Attached, Detached, Done, Ended, Frames, Lost, Refused}
use Rattle.tailnet_laws.specs.Entering.{IsAdmission, IsKeyed}

-- a row has this machine key
abbrev pub HasMachine : Rows → MachineKey → Type 0
HasMachine t mk = (m : Machine) × Contains t.machines m × (m.machine ≡ mk)

-- the machine of this key registers with a pre-auth key, or an operator admits it
abbrev pub LetsIn : State → Ask → MachineKey → Type 0
LetsIn s (ask.Seed text) mk = ⊥
LetsIn s (ask.Machine x) mk = IsKeyed x mk
LetsIn s (ask.Operator x) mk = IsAdmission s x mk
LetsIn s (ask.Policy x) mk = ⊥

abbrev pub IsEntrance : State → Event → MachineKey → Type 0
IsEntrance s (event.Ask x moment words) mk = LetsIn s x mk
IsEntrance s (event.Attach key node handle seq moment words) mk = ⊥
IsEntrance s (event.Drain key handle moment) mk = ⊥
IsEntrance s (event.Detach key handle moment) mk = ⊥

-- it was carried out
abbrev pub IsDone : Reply → Type 0
IsDone (Done answer) = Unit {0}
IsDone (Attached handle seq resumed may_wait) = Unit {0}
IsDone (Frames responses) = Unit {0}
IsDone Ended = Unit {0}
IsDone Detached = Unit {0}
IsDone (Refused refusal) = ⊥
IsDone (Lost loss) = ⊥

-- One of the entries lets the machine of this key in, in the state where the ones before it end, and is carried out.
pub record IsEntered (s : State) (entries : List Entry) (mk : MachineKey) : Type 0 where
  pub before : List Entry
  pub entry : Entry
  pub later : List Entry
  pub parts : entries ≡ before ++ entry ∷ later
  pub entrance : IsEntrance (replay s before) entry.event mk
  pub done : IsDone entry.reply
