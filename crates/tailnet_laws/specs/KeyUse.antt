-- Registrations by a single-use key.
use Rattle.std.specs.Prelude.{◌≡◌, ℕ, List, false, Option, Some, Ok}
use Rattle.tail_base.specs.declared.key.MachineKey.{MachineKey}
use Rattle.net_rows.specs.declared.key.AuthKey.{AuthKey}
use Rattle.net_rows.specs.declared.machine.Machine.{Machine}
use Rattle.net_rows.specs.declared.pending.Pending.{Pending}
use Rattle.tailcfg.specs.declared.register.Register.{Register}
use Rattle.desk_state.specs.State.{State, at_moment}
use Rattle.desk_state.specs.declared.decision.Decision.{Decision}
use Rattle.desk_state.specs.Rows.{row_change}
use Rattle.machine_asks.specs.ByKey.{all_tags, usable_key}
use Rattle.machine_asks.specs.Decision.{decision}
use Rattle.machine_asks.specs.declared.answer.MachineAnswer.{MachineAnswer}
use Rattle.machine_asks.specs.declared.ask.MachineAsk.{MachineAsk}
use Rattle.tailnet_desk.specs.declared.ask.Ask.{Ask}
use Rattle.tailnet_desk.specs.declared.ask.Ask.TheVariants as ask
use Rattle.tailnet_desk.specs.declared.entry.Entry.{Entry}
use Rattle.tailnet_desk.specs.declared.entry.Event.{Event}
use Rattle.tailnet_desk.specs.declared.entry.Event.TheVariants as event
use Rattle.tailnet_laws.specs.Entrances.{IsDone}

-- The decision puts a machine's row by this key.
pub record PutsByKey (s : State) (d : Decision MachineAnswer) (key : AuthKey) : Type 0 where
  pub machine : Machine
  pub next : ℕ
  pub pending : Option Pending
  pub change : d.change ≡ Some (row_change s.rows machine next (Some key) pending)

-- The decision puts the row of the machine of this key by the pre-auth key that the registration hands in, which may be
-- used. The row is that key's user's, with the key's tags and those that were asked for.
pub record PutsByText (s : State) (d : Decision MachineAnswer) (mk : MachineKey) (form : Register) : Type 0 where
  pub key : AuthKey
  pub usable : usable_key s form.auth ≡ Ok key
  pub puts : PutsByKey s d key
  pub whose : puts.machine.machine ≡ mk
  pub user : puts.machine.user ≡ key.user
  pub tags : puts.machine.tags ≡ all_tags key form

-- What is decided puts a machine's row by the key of this id, which isn't reusable.
pub record TakesKey (s : State) (x : MachineAsk) (words : Option (List ℕ)) (id : ℕ) : Type 0 where
  pub result : Decision MachineAnswer
  pub key : AuthKey
  pub decided : decision s x words ≡ Ok result
  pub puts : PutsByKey s result key
  pub id_is : key.id ≡ id
  pub single : key.reusable ≡ false

abbrev pub AskTakesKey : State → Ask → Option (List ℕ) → ℕ → Type 0
AskTakesKey s (ask.Seed text) words id = ⊥
AskTakesKey s (ask.Machine x) words id = TakesKey s x words id
AskTakesKey s (ask.Operator x) words id = ⊥
AskTakesKey s (ask.Policy x) words id = ⊥

abbrev pub EventTakesKey : State → Event → ℕ → Type 0
EventTakesKey s (event.Ask x moment words) id = AskTakesKey (at_moment s moment) x words id
EventTakesKey s (event.Attach mk node handle seq moment words) id = ⊥
EventTakesKey s (event.Drain mk handle moment) id = ⊥
EventTakesKey s (event.Detach mk handle moment) id = ⊥

-- The entry admits a machine by the single-use key of this id, and is carried out.
abbrev pub IsByKey : State → Entry → ℕ → Type 0
IsByKey s e id = EventTakesKey s e.event id × IsDone e.reply
