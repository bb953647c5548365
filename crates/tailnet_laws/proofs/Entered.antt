-- A machine without a row gets one only by a key or an admission.
use Rattle.std.proofs.Common.{◌≡◌, ℕ, List, [], ◌∷◌, Option, Some, None, Result, Ok, Err, inl, inr, refl, sym, ap, ◌∙◌, subst, false, true}
use Rattle.std.specs.Str.{bytes_eq}
use Rattle.tail_base.specs.declared.key.MachineKey.{MachineKey}
use Rattle.tail_base.proofs.Bools.{bytes_eq-from}
use Rattle.net_rows.specs.Rows.{machine_of}
use Rattle.net_rows.specs.declared.key.AuthKey.{AuthKey}
use Rattle.net_rows.specs.declared.machine.Machine.{Machine}
use Rattle.net_rows.specs.declared.rows.Rows.{Rows}
use Rattle.net_rows.proofs.Members.{find_none}
use Rattle.desk_state.specs.State.{State, at_moment}
use Rattle.desk_state.specs.declared.decision.Decision.{Decision}
use Rattle.desk_state.specs.declared.refusal.Refusal.{Refusal}
use Rattle.desk_state.proofs.RowLemmas.{machine_found}
use Rattle.tailnet_desk.specs.History.{IsReply, Legal, replay, state_after}
use Rattle.tailnet_desk.specs.Asks.{IsPollEvent}
use Rattle.tailnet_desk.specs.Step.{decision, outcome, step}
use Rattle.tailnet_desk.specs.declared.entry.Entry.{Entry}
use Rattle.tailnet_desk.specs.declared.entry.Event.{Event}
use Rattle.tailnet_desk.specs.declared.entry.Event.TheVariants as event
use Rattle.tailnet_desk.specs.declared.reply.Answer.{Answer}
use Rattle.tailnet_desk.specs.declared.reply.Reply.{Reply}
use Rattle.tailnet_desk.specs.declared.reply.Reply.TheVariants.{Attached, Detached, Done, Ended, Frames, Lost, Refused}
use Rattle.tailnet_desk.proofs.SoundHistories.{poll_keeps}
use Rattle.tailnet_laws.specs.Entrances.{HasMachine, IsDone, IsEntered, IsEntrance}
use Rattle.tailnet_laws.proofs.Growth.{Grown}
use Rattle.tailnet_laws.proofs.Puts.{IsKeyPut, one_key}
use Rattle.tailnet_laws.proofs.Steps.{step_grown}

-- a row of a key that no row had is one by which its machine entered
pub grown_enters : (t : Rows) (keys : AuthKey → Type 0) (enters : MachineKey → Type 0) (u : Rows) (mk : MachineKey) → Grown t keys enters u → (HasMachine t mk → ⊥) → HasMachine u mk → enters mk
grown_enters t keys enters u mk grown none (m, inside, is) =
    elim (grown.machines m inside) [
      | inl put ↦ elim put [
        | inl new ↦ subst enters is new.1
        | inr kept ↦ absurd (none (kept.0, kept.1, sym kept.3 ∙ is))
      ]
      | inr was ↦ absurd (none (m, was, is))
    ]

pub step_enters : (s : State) (e : Event) (mk : MachineKey) → (HasMachine s.rows mk → ⊥) → HasMachine (step s e).state.rows mk → IsEntrance s e mk
step_enters s e mk none row = grown_enters s.rows (IsKeyPut s.rows) (IsEntrance s e) (step s e).state.rows mk (step_grown s e) none row

-- what is refused changes no row
refused_rows : (s : State) (r : Result (Decision Answer) Refusal) (refusal : Refusal) → Refused refusal ≡ (outcome s r).reply → (outcome s r).state.rows ≡ s.rows
refused_rows s (Err e) refusal is = refl
refused_rows s (Ok d) refusal is = absurd (cc)

-- a poll lets nobody in
poll_enters : (s : State) (e : Event) (mk : MachineKey) → IsPollEvent e → (HasMachine s.rows mk → ⊥) → HasMachine (step s e).state.rows mk → ⊥
poll_enters s e mk poll none row = none (subst (λ (t : Rows). HasMachine t mk) (poll_keeps s e poll).rows row)

pub reply_enters : (s : State) (e : Event) (before after : ℕ) (reply : Reply) (mk : MachineKey) → IsReply s e before after reply
    → (HasMachine s.rows mk → ⊥) → HasMachine (state_after s e reply).rows mk → IsEntrance s e mk × IsDone reply
reply_enters s e before after (Done a) mk is none row = (step_enters s e mk none row, tt)
reply_enters s e before after (Attached handle seq resumed may_wait) mk is none row = (step_enters s e mk none row, tt)
reply_enters s e before after (Frames responses) mk is none row = (step_enters s e mk none row, tt)
reply_enters s e before after Ended mk is none row = (step_enters s e mk none row, tt)
reply_enters s e before after Detached mk is none row = (step_enters s e mk none row, tt)
reply_enters s (event.Ask x moment words) before after (Refused r) mk is none row =
    let same = refused_rows (at_moment s moment) (decision (at_moment s moment) x words) r is in
    absurd (none (subst (λ (t : Rows). HasMachine t mk) same row))
reply_enters s (event.Attach key node handle seq moment words) before after (Refused r) mk is none row =
    absurd (poll_enters s (event.Attach key node handle seq moment words) mk tt none row)
reply_enters s (event.Drain key handle moment) before after (Refused r) mk is none row =
    absurd (poll_enters s (event.Drain key handle moment) mk tt none row)
reply_enters s (event.Detach key handle moment) before after (Refused r) mk is none row =
    absurd (poll_enters s (event.Detach key handle moment) mk tt none row)
reply_enters s e before after (Lost loss) mk is none row = absurd (none row)

-- a search by the key tells whether there is a row
pub no_machine : (t : Rows) (mk : MachineKey) → machine_of t.machines mk.0 ≡ None → HasMachine t mk → ⊥
no_machine t mk found (m, inside, is) =
    let fails : bytes_eq m.machine.0 mk.0 ≡ false = find_none (λ (r : Machine). bytes_eq r.machine.0 mk.0) t.machines found m inside in
    let passes : bytes_eq m.machine.0 mk.0 ≡ true = bytes_eq-from m.machine.0 mk.0 (ap (λ (k : MachineKey). k.0) is) in
    absurd (cc)

pub found_machine : (t : Rows) (mk : MachineKey) (m : Machine) → machine_of t.machines mk.0 ≡ Some m → HasMachine t mk
found_machine t mk m found = let here = machine_found t.machines mk m found in (m, here.0, one_key m.machine mk here.1)

-- the first entry, if there is a row after it, or one of the others
first_or_later : (s : State) (e : Entry) (es : List Entry) (mk : MachineKey) (held : Option Machine) → machine_of (state_after s e.event e.reply).rows.machines mk.0 ≡ held
    → (HasMachine (state_after s e.event e.reply).rows mk → IsEntrance s e.event mk × IsDone e.reply)
    → ((HasMachine (state_after s e.event e.reply).rows mk → ⊥) → IsEntered (state_after s e.event e.reply) es mk) → IsEntered s (e ∷ es) mk
first_or_later s e es mk (Some m) found first later =
    let enters = first (found_machine (state_after s e.event e.reply).rows mk m found) in
    record { before = []; entry = e; later = es; parts = refl; entrance = enters.0; done = enters.1 }
first_or_later s e es mk None found first later =
    let rest = later (no_machine (state_after s e.event e.reply).rows mk found) in
    record {
      before = e ∷ rest.before;
      entry = rest.entry;
      later = rest.later;
      parts = ap (λ xs. e ∷ xs) rest.parts;
      entrance = rest.entrance;
      done = rest.done;
    }

pub history_enters : (s : State) (count : ℕ) (es : List Entry) (mk : MachineKey) → Legal s count es → (HasMachine s.rows mk → ⊥) → HasMachine (replay s es).rows mk → IsEntered s es mk
history_enters s count [] mk legal none row = absurd (none row)
history_enters s count (e ∷ es) mk legal none row =
    let t = state_after s e.event e.reply in
    first_or_later s e es mk (machine_of t.rows.machines mk.0) refl (reply_enters s e.event count e.after e.reply mk legal.2 none)
    (λ still. history_enters t e.after es mk legal.4 still row)
