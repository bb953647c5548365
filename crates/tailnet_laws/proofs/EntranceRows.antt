-- A machine that enters by a key has a row of that key's user.
use Rattle.std.proofs.Common.{◌≡◌, ◌∙◌, ℕ, List, [], ◌∷◌, Option, Some, None, Result, Ok, Err, inl, inr, refl, sym, ap, subst}
use Rattle.std.specs.Prelude.{Contains}
use Rattle.tail_base.specs.declared.key.MachineKey.{MachineKey}
use Rattle.tail_base.specs.Steps.{◌>>=◌, refuse_if}
use Rattle.tail_base.proofs.StepLemmas.{bind_parts}
use Rattle.net_rows.specs.Rows.{after, machine_of, take_all_out}
use Rattle.net_rows.specs.Shelf.{put_row}
use Rattle.net_rows.specs.declared.change.Change.{Change}
use Rattle.net_rows.specs.declared.key.AuthKey.{AuthKey}
use Rattle.net_rows.specs.declared.machine.Machine.{Machine}
use Rattle.net_rows.specs.declared.pending.Pending.{Pending}
use Rattle.net_rows.specs.declared.rows.Rows.{Rows}
use Rattle.net_rows.proofs.PutLemmas.{put_member}
use Rattle.net_rows.proofs.SoundGone.{machine_left}
use Rattle.tailcfg.specs.declared.register.Register.{Register}
use Rattle.desk_state.specs.Decisions.{answered, rows_after}
use Rattle.desk_state.specs.Rows.{is_taken, machine_row, pending_gone, place_for, row_change}
use Rattle.desk_state.specs.State.{State, at_moment}
use Rattle.desk_state.specs.Tags.{tags_granted}
use Rattle.desk_state.specs.Users.{user_named}
use Rattle.desk_state.specs.declared.decision.Decision.{Decision}
use Rattle.desk_state.specs.declared.refusal.Refusal.{Refusal}
use Rattle.desk_state.specs.declared.refusal.Refusal.TheVariants.{NodeKeyTaken}
use Rattle.admin_asks.specs.Admit.{admission, admit, entrant_of_entry, timely_entry}
use Rattle.admin_asks.specs.declared.operator_answer.OperatorAnswer.{OperatorAnswer}
use Rattle.admin_asks.specs.declared.operator_ask.OperatorAsk.{OperatorAsk}
use Rattle.admin_asks.specs.declared.operator_ask.OperatorAsk.TheVariants as operator
use Rattle.machine_asks.specs.Decision as machine
use Rattle.machine_asks.specs.declared.answer.MachineAnswer.{MachineAnswer}
use Rattle.machine_asks.specs.declared.ask.MachineAsk.{MachineAsk}
use Rattle.machine_asks.specs.declared.ask.MachineAsk.TheVariants as asks
use Rattle.tailnet_desk.specs.History.{IsReply, Legal, replay, state_after}
use Rattle.tailnet_desk.specs.Step.{decision, outcome, step}
use Rattle.tailnet_desk.specs.declared.ask.Ask.{Ask}
use Rattle.tailnet_desk.specs.declared.ask.Ask.TheVariants as ask
use Rattle.tailnet_desk.specs.declared.entry.Entry.{Entry}
use Rattle.tailnet_desk.specs.declared.entry.Event.{Event}
use Rattle.tailnet_desk.specs.declared.entry.Event.TheVariants as event
use Rattle.tailnet_desk.specs.declared.reply.Answer.TheVariants as answer
use Rattle.tailnet_desk.specs.declared.reply.Reply.{Reply}
use Rattle.tailnet_desk.specs.declared.reply.Reply.TheVariants.{Attached, Detached, Done, Ended, Frames, Lost, Refused}
use Rattle.tailnet_laws.specs.Entering.{IsAdmission, IsKeyed}
use Rattle.tailnet_laws.specs.EntranceRows.{AdmitsWith, EntersWith, HasEntered, IsOfEntry, IsOfUsableKey, LetsInWith, RegistersWith}
use Rattle.tailnet_laws.specs.Entrances.{HasMachine, IsDone, LetsIn}
use Rattle.tailnet_laws.proofs.Entered.{found_machine, grown_enters, no_machine, reply_enters, step_enters}
use Rattle.tailnet_laws.proofs.Puts.{IsKeyPut}
use Rattle.tailnet_laws.proofs.Steps.{ask_grown}
use Rattle.tailnet_laws.proofs.Taken.{registration_takes}

-- a new row is the one that is put
put_is : (t : Rows) (r m : Machine) (next : ℕ) (key : Option AuthKey) (pending : Option Pending) → (HasMachine t m.machine → ⊥)
    → Contains (after t (row_change t r next key pending)).machines m → r ≡ m
put_is t r m next key pending none inside = go key inside
  where
    u : Rows
    u = take_all_out t (pending_gone pending)

    new_or_old : Contains (put_row (λ (y : Machine). y.id) u.machines r) m → r ≡ m
    new_or_old there = elim (put_member (λ (y : Machine). y.id) u.machines r m there) [
      | inl is ↦ sym is
      | inr was ↦ absurd (none (m, machine_left t (pending_gone pending) m was, refl))
    ]

    go : (k : Option AuthKey) → Contains (after t (row_change t r next k pending)).machines m → r ≡ m
    go None there = new_or_old there
    go (Some k) there = new_or_old there

key_row : (t : State) (mk : MachineKey) (form : Register) (words : Option (List ℕ)) (d : Decision MachineAnswer) (m : Machine) → (HasMachine t.rows m.machine → ⊥) → mk ≡ m.machine
    → machine.decision t (asks.Register mk form) words ≡ Ok d → Contains (rows_after t.rows d.change).machines m → IsOfUsableKey t form m
key_row t mk form words d m none same is inside =
    let before : HasMachine t.rows mk → ⊥ = subst (λ (k : MachineKey). HasMachine t.rows k → ⊥) (sym same) none in
    let takes = registration_takes t mk form words d before is (m, inside, sym same) in
    let put = subst (λ (c : Option Change). Contains (rows_after t.rows c).machines m) takes.puts.change inside in
    let row : takes.puts.machine ≡ m = put_is t.rows takes.puts.machine m takes.puts.next (Some takes.key) takes.puts.pending none put in
    record {
      key = takes.key;
      usable = takes.usable;
      user = subst (λ (r : Machine). r.user ≡ takes.key.user) row takes.user;
      tags = ap (λ (r : Machine). r.tags) (sym row) ∙ takes.tags;
    }

outcome_row : (t : State) (mk : MachineKey) (form : Register) (words : Option (List ℕ)) (r : Result (Decision MachineAnswer) Refusal) (m : Machine) → (HasMachine t.rows m.machine → ⊥) → mk ≡ m.machine
    → machine.decision t (asks.Register mk form) words ≡ r → Contains (outcome t (r >>= λ d. Ok (answered answer.Machine d))).state.rows.machines m → IsOfUsableKey t form m
outcome_row t mk form words (Err e) m none same is inside = absurd (none (m, inside, refl))
outcome_row t mk form words (Ok d) m none same is inside = key_row t mk form words d m none same is inside

machine_row_with : (t : State) (x : MachineAsk) (words : Option (List ℕ)) (m : Machine) → (HasMachine t.rows m.machine → ⊥) → Contains (outcome t (decision t (ask.Machine x) words)).state.rows.machines m
    → IsKeyed x m.machine → RegistersWith t x m
machine_row_with t (asks.Register mk form) words m none inside keyed =
    (keyed.0, outcome_row t mk form words (machine.decision t (asks.Register mk form) words) m none keyed.0 refl inside)
machine_row_with t (asks.Update mk node told) words m none inside keyed = keyed
machine_row_with t (asks.OneMap mk node told) words m none inside keyed = keyed

entry_row : (t : State) (text login : List ℕ) (r : Result (Decision OperatorAnswer) Refusal) (m : Machine) → (HasMachine t.rows m.machine → ⊥) → admit t text login ≡ r
    → Contains (outcome t (r >>= λ d. Ok (answered answer.Operator d))).state.rows.machines m → IsOfEntry t text login m
entry_row t text login (Err e) m none is inside = absurd (none (m, inside, refl))
entry_row t text login (Ok d) m none is inside =
    let entry = bind_parts (timely_entry t text) _ d is in
    let user = bind_parts (user_named t.rows login) _ d entry.2 in
    let other = bind_parts (refuse_if (is_taken t.rows.machines entry.0.machine entry.0.node) NodeKeyTaken) _ d user.2 in
    let granted = bind_parts (tags_granted t user.0.id entry.0.tags) _ d other.2 in
    let place = bind_parts (place_for t entry.0.host (machine_of t.rows.machines entry.0.machine.0)) _ d granted.2 in
    let r = machine_row entry.0.machine (entrant_of_entry t entry.0 user.0.id) place.0 in
    let made = admission t entry.0 r place.0.next in
    let same : made ≡ d = cc (place.2) in
    let put = subst (λ (x : Decision OperatorAnswer). Contains (rows_after t.rows x.change).machines m) {y = made} (sym same) inside in
    let row : r ≡ m = put_is t.rows r m place.0.next None (Some entry.0) none put in
    record {
      entry = entry.0;
      user = user.0;
      timely = entry.1;
      named = user.1;
      whose = ap (λ (x : Machine). x.machine) row;
      owner = ap (λ (x : Machine). x.user) (sym row);
      tags = ap (λ (x : Machine). x.tags) (sym row);
    }

operator_row : (t : State) (x : OperatorAsk) (words : Option (List ℕ)) (m : Machine) → (HasMachine t.rows m.machine → ⊥) → Contains (outcome t (decision t (ask.Operator x) words)).state.rows.machines m
    → IsAdmission t x m.machine → AdmitsWith t x m
operator_row t (operator.Admit text login) words m none inside may = entry_row t text login (admit t text login) m none refl inside
operator_row t (operator.AddUser name) words m none inside may = may
operator_row t operator.Users words m none inside may = may
operator_row t (operator.DropUser login) words m none inside may = may
operator_row t (operator.AddKey form) words m none inside may = may
operator_row t operator.Keys words m none inside may = may
operator_row t (operator.ExpireKey id) words m none inside may = may
operator_row t operator.Nodes words m none inside may = may
operator_row t operator.Waiting words m none inside may = may
operator_row t (operator.ExpireNode id expiry) words m none inside may = may
operator_row t (operator.Rename id name) words m none inside may = may
operator_row t (operator.SetTags id tags) words m none inside may = may
operator_row t (operator.SetRoutes id routes) words m none inside may = may
operator_row t (operator.DropNode id) words m none inside may = may
operator_row t operator.Extras words m none inside may = may
operator_row t (operator.SetExtras given) words m none inside may = may
operator_row t operator.Sweep words m none inside may = may

ask_row : (t : State) (x : Ask) (words : Option (List ℕ)) (m : Machine) → (HasMachine t.rows m.machine → ⊥)
    → Contains (outcome t (decision t x words)).state.rows.machines m → LetsIn t x m.machine → LetsInWith t x m
ask_row t (ask.Seed text) words m none inside may = may
ask_row t (ask.Machine x) words m none inside may = machine_row_with t x words m none inside may
ask_row t (ask.Operator x) words m none inside may = operator_row t x words m none inside may
ask_row t (ask.Policy x) words m none inside may = may

pub step_row : (s : State) (e : Event) (m : Machine) → (HasMachine s.rows m.machine → ⊥) → Contains (step s e).state.rows.machines m → EntersWith s e m
step_row s (event.Ask x moment words) m none inside =
    let t = at_moment s moment in
    ask_row t x words m none inside (grown_enters t.rows (IsKeyPut t.rows) (LetsIn t x) (outcome t (decision t x words)).state.rows m.machine (ask_grown t x words) none (m, inside, refl))
step_row s (event.Attach key node handle seq moment words) m none inside = step_enters s (event.Attach key node handle seq moment words) m.machine none (m, inside, refl)
step_row s (event.Drain key handle moment) m none inside = step_enters s (event.Drain key handle moment) m.machine none (m, inside, refl)
step_row s (event.Detach key handle moment) m none inside = step_enters s (event.Detach key handle moment) m.machine none (m, inside, refl)

-- what is carried out has the state of its step
done_state : (s : State) (e : Event) (reply : Reply) → IsDone reply → state_after s e reply ≡ (step s e).state
done_state s e (Done a) done = refl
done_state s e (Attached handle seq resumed may_wait) done = refl
done_state s e (Frames responses) done = refl
done_state s e Ended done = refl
done_state s e Detached done = refl
done_state s e (Refused r) done = absurd done
done_state s e (Lost loss) done = absurd done

replied_row : (s : State) (e : Event) (before after : ℕ) (reply : Reply) (m : Machine) → IsReply s e before after reply → (HasMachine s.rows m.machine → ⊥)
    → Contains (state_after s e reply).rows.machines m → EntersWith s e m × IsDone reply
replied_row s e before after reply m is none inside =
    let enters = reply_enters s e before after reply m.machine is none (m, inside, refl) in
    let stepped = subst (λ (t : State). Contains t.rows.machines m) (done_state s e reply enters.1) inside in
    (step_row s e m none stepped, enters.1)

first_or_later : (s : State) (e : Entry) (es : List Entry) (mk : MachineKey) (held : Option Machine) → machine_of (state_after s e.event e.reply).rows.machines mk.0 ≡ held
    → ((m : Machine) → Contains (state_after s e.event e.reply).rows.machines m → m.machine ≡ mk → EntersWith s e.event m × IsDone e.reply)
    → ((HasMachine (state_after s e.event e.reply).rows mk → ⊥) → HasEntered (state_after s e.event e.reply) es mk) → HasEntered s (e ∷ es) mk
first_or_later s e es mk (Some m) found first later =
    let there = found_machine (state_after s e.event e.reply).rows mk m found in
    let enters = first there.0 there.1 there.2 in
    record {
      before = [];
      entry = e;
      later = es;
      parts = refl;
      machine = there.0;
      whose = there.2;
      row = there.1;
      entrance = enters.0;
      done = enters.1;
    }
first_or_later s e es mk None found first later =
    let rest = later (no_machine (state_after s e.event e.reply).rows mk found) in
    record {
      before = e ∷ rest.before;
      entry = rest.entry;
      later = rest.later;
      parts = ap (λ xs. e ∷ xs) rest.parts;
      machine = rest.machine;
      whose = rest.whose;
      row = rest.row;
      entrance = rest.entrance;
      done = rest.done;
    }

pub history_row : (s : State) (count : ℕ) (es : List Entry) (mk : MachineKey) → Legal s count es → (HasMachine s.rows mk → ⊥) → HasMachine (replay s es).rows mk → HasEntered s es mk
history_row s count [] mk legal none row = absurd (none row)
history_row s count (e ∷ es) mk legal none row =
    let t = state_after s e.event e.reply in
    first_or_later s e es mk (machine_of t.rows.machines mk.0) refl
    (λ m inside is. replied_row s e.event count e.after e.reply m legal.2 (subst (λ (k : MachineKey). HasMachine s.rows k → ⊥) (sym is) none) inside)
    (λ still. history_row t e.after es mk legal.4 still row)
