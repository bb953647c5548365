-- Which rows machines enter with.
use Rattle.std.specs.Prelude.{◌≡◌, ◌++◌, ◌∷◌, ℕ, List, Ok, Contains}
use Rattle.std.specs.Cmp.Lexicographic.{slice_cmp}
use Rattle.std.specs.Ordering.{nat_cmp}
use Rattle.tail_base.specs.Sorted.{sorted_once}
use Rattle.tail_base.specs.declared.key.MachineKey.{MachineKey}
use Rattle.net_rows.specs.declared.key.AuthKey.{AuthKey}
use Rattle.net_rows.specs.declared.machine.Machine.{Machine}
use Rattle.net_rows.specs.declared.pending.Pending.{Pending}
use Rattle.net_rows.specs.declared.user.User.{User}
use Rattle.tailcfg.specs.declared.register.Register.{Register}
use Rattle.desk_state.specs.State.{State, at_moment}
use Rattle.desk_state.specs.Users.{user_named}
use Rattle.admin_asks.specs.Admit.{timely_entry}
use Rattle.admin_asks.specs.declared.operator_ask.OperatorAsk.{OperatorAsk}
use Rattle.admin_asks.specs.declared.operator_ask.OperatorAsk.TheVariants as operator
use Rattle.machine_asks.specs.ByKey.{all_tags, usable_key}
use Rattle.machine_asks.specs.declared.ask.MachineAsk.{MachineAsk}
use Rattle.machine_asks.specs.declared.ask.MachineAsk.TheVariants as machine
use Rattle.tailnet_desk.specs.History.{replay, state_after}
use Rattle.tailnet_desk.specs.declared.ask.Ask.{Ask}
use Rattle.tailnet_desk.specs.declared.ask.Ask.TheVariants as ask
use Rattle.tailnet_desk.specs.declared.entry.Entry.{Entry}
use Rattle.tailnet_desk.specs.declared.entry.Event.{Event}
use Rattle.tailnet_desk.specs.declared.entry.Event.TheVariants as event
use Rattle.tailnet_laws.specs.Entrances.{IsDone}

-- The registration hands in a pre-auth key that may be used, and the row is that key's user's, with the key's tags and
-- those that were asked for.
pub record IsOfUsableKey (s : State) (form : Register) (m : Machine) : Type 0 where
  pub key : AuthKey
  pub usable : usable_key s form.auth ≡ Ok key
  pub user : m.user ≡ key.user
  pub tags : m.tags ≡ all_tags key form

-- The machine waits under an entry of that text, and the row is the user's of that login, with the tags that the machine
-- asked for.
pub record IsOfEntry (s : State) (text login : List ℕ) (m : Machine) : Type 0 where
  pub entry : Pending
  pub user : User
  pub timely : timely_entry s text ≡ Ok entry
  pub named : user_named s.rows login ≡ Ok user
  pub whose : entry.machine ≡ m.machine
  pub owner : m.user ≡ user.id
  pub tags : m.tags ≡ sorted_once (slice_cmp nat_cmp) entry.tags

-- the machine registers, and its row is by a key
abbrev pub RegistersWith : State → MachineAsk → Machine → Type 0
RegistersWith s (machine.Register key form) m = (key ≡ m.machine) × IsOfUsableKey s form m
RegistersWith s (machine.Update key node told) m = ⊥
RegistersWith s (machine.OneMap key node told) m = ⊥

-- an operator admits the machine, and its row is by its entry
abbrev pub AdmitsWith : State → OperatorAsk → Machine → Type 0
AdmitsWith s (operator.Admit text login) m = IsOfEntry s text login m
AdmitsWith s (operator.AddUser name) m = ⊥
AdmitsWith s operator.Users m = ⊥
AdmitsWith s (operator.DropUser login) m = ⊥
AdmitsWith s (operator.AddKey form) m = ⊥
AdmitsWith s operator.Keys m = ⊥
AdmitsWith s (operator.ExpireKey id) m = ⊥
AdmitsWith s operator.Nodes m = ⊥
AdmitsWith s operator.Waiting m = ⊥
AdmitsWith s (operator.ExpireNode id expiry) m = ⊥
AdmitsWith s (operator.Rename id name) m = ⊥
AdmitsWith s (operator.SetTags id tags) m = ⊥
AdmitsWith s (operator.SetRoutes id routes) m = ⊥
AdmitsWith s (operator.DropNode id) m = ⊥
AdmitsWith s operator.Extras m = ⊥
AdmitsWith s (operator.SetExtras given) m = ⊥
AdmitsWith s operator.Sweep m = ⊥

-- one or the other
abbrev pub LetsInWith : State → Ask → Machine → Type 0
LetsInWith s (ask.Seed text) m = ⊥
LetsInWith s (ask.Machine x) m = RegistersWith s x m
LetsInWith s (ask.Operator x) m = AdmitsWith s x m
LetsInWith s (ask.Policy x) m = ⊥

abbrev pub EntersWith : State → Event → Machine → Type 0
EntersWith s (event.Ask x moment words) m = LetsInWith (at_moment s moment) x m
EntersWith s (event.Attach key node handle seq moment words) m = ⊥
EntersWith s (event.Drain key handle moment) m = ⊥
EntersWith s (event.Detach key handle moment) m = ⊥

-- One of the entries lets the machine of this key in with a row, in the state where the ones before it end, and is
-- carried out.
pub record HasEntered (s : State) (entries : List Entry) (mk : MachineKey) : Type 0 where
  pub before : List Entry
  pub entry : Entry
  pub later : List Entry
  pub parts : entries ≡ before ++ entry ∷ later
  pub machine : Machine
  pub whose : machine.machine ≡ mk
  pub row : Contains (state_after (replay s before) entry.event entry.reply).rows.machines machine
  pub entrance : EntersWith (replay s before) entry.event machine
  pub done : IsDone entry.reply
