-- Handles of sessions that begin in one history differ.
use Rattle.std.proofs.Common.{◌≡◌, ◌<◌, ◌≤◌, ◌+◌, ◌^◌, ◌∙◌, ◌++◌, ℕ, Bool, true, false, List, [], ◌∷◌, Option, Some, None, Result, Ok, Err, arith, inl, inr, refl, sym, ap}
use Rattle.std.specs.Prelude.{is_none}
use Rattle.desk_state.specs.State.{State, at_moment}
use Rattle.desk_state.specs.Texts.{session_handle}
use Rattle.desk_state.specs.declared.decision.Decision.{Decision}
use Rattle.desk_state.specs.declared.refusal.Refusal.{Refusal}
use Rattle.machine_asks.specs.Attach.{attach}
use Rattle.machine_asks.specs.Detach.{detach}
use Rattle.machine_asks.specs.Drain.{drain}
use Rattle.machine_asks.specs.declared.attaching.AttachDecision.{AttachDecision}
use Rattle.machine_asks.specs.declared.draining.DrainDecision.{DrainDecision}
use Rattle.tailnet_desk.specs.History.{IsReply, Legal, state_after}
use Rattle.tailnet_desk.specs.Step.{attach_turn, decision, detach_turn, drain_turn, outcome, step}
use Rattle.tailnet_desk.specs.declared.entry.Entry.{Entry}
use Rattle.tailnet_desk.specs.declared.entry.Event.{Event}
use Rattle.tailnet_desk.specs.declared.entry.Event.TheVariants as event
use Rattle.tailnet_desk.specs.declared.reply.Answer.{Answer}
use Rattle.tailnet_desk.specs.declared.reply.Reply.{Reply}
use Rattle.tailnet_desk.specs.declared.reply.Reply.TheVariants.{Attached, Detached, Done, Ended, Frames, Lost, Refused}
use Rattle.tailnet_desk.proofs.SoundHistories.{after_any}
use Rattle.tailnet_desk.specs.Sessions.{IsBegunUnder}
use Rattle.tailnet_desk.proofs.Attaches.{IsEither, attach_either}
use Rattle.tailnet_desk.proofs.SessionRules.{handle_one}

-- ---- the number of the next session never falls

outcome_next : (s : State) (r : Result (Decision Answer) Refusal) → (outcome s r).state.next_session ≡ s.next_session
outcome_next s (Err e) = refl
outcome_next s (Ok d) = refl

either_next : (s : State) (d : AttachDecision) → IsEither s d → s.next_session ≤ d.next
either_next s d (inl on) = let same : s.next_session ≡ d.next = ap (λ (e : AttachDecision). e.next) on.2 in omega arith
either_next s d (inr begins) = let same : s.next_session + 1 ≡ d.next = ap (λ (e : AttachDecision). e.next) begins.3 in omega arith

attach_next : (s : State) (r : Result AttachDecision Refusal) → ((d : AttachDecision) → r ≡ Ok d → IsEither s d) → s.next_session ≤ (attach_turn s r).state.next_session
attach_next s (Err e) either = omega arith
attach_next s (Ok d) either = either_next s d (either d refl)

drain_next : (s : State) (o : Option DrainDecision) → (drain_turn s o).state.next_session ≡ s.next_session
drain_next s None = refl
drain_next s (Some d) = refl

detach_next : (s : State) (o : Option ℕ) → (detach_turn s o).state.next_session ≡ s.next_session
detach_next s None = refl
detach_next s (Some id) = refl

step_next : (s : State) (e : Event) → s.next_session ≤ (step s e).state.next_session
step_next s (event.Ask x m words) = let same = outcome_next (at_moment s m) (decision (at_moment s m) x words) in omega (arith, same)
step_next s (event.Attach mk node handle seq m words) =
    attach_next (at_moment s m) (attach (at_moment s m) mk node handle seq words) (λ d e. attach_either (at_moment s m) mk node handle seq words d e)
step_next s (event.Drain mk handle m) = let same = drain_next (at_moment s m) (drain (at_moment s m) mk handle) in omega (arith, same)
step_next s (event.Detach mk handle m) = let same = detach_next (at_moment s m) (detach (at_moment s m) mk handle) in omega (arith, same)

after_next : (s : State) (e : Event) (reply : Reply) → s.next_session ≤ (state_after s e reply).next_session
after_next s e reply = after_any (λ (t : State). s.next_session ≤ t.next_session) s e reply (step_next s e) (omega arith)

-- ---- a session that begins takes it

pub record Takes (s : State) (handle : List ℕ) (next : ℕ) : Type 0 where
  pub words : List ℕ
  pub is : handle ≡ session_handle s.next_session words
  pub small : s.next_session < 2 ^ 63
  pub risen : next ≡ s.next_session + 1

either_takes : (s : State) (d : AttachDecision) → IsEither s d → is_none d.begun ≡ false → Takes s d.handle d.next
either_takes s d (inl on) new =
    let old : true ≡ is_none d.begun = ap (λ (e : AttachDecision). is_none e.begun) on.2 in
    let clash : true ≡ false = old ∙ new in
    absurd (cc)
either_takes s d (inr begins) new = record {
  words = begins.1;
  is = ap (λ (e : AttachDecision). e.handle) (sym begins.3);
  small = begins.2;
  risen = ap (λ (e : AttachDecision). e.next) (sym begins.3);
}

attach_takes : (s : State) (r : Result AttachDecision Refusal) (handle : List ℕ) (seq : ℕ) (resumed may_wait : Bool) → ((d : AttachDecision) → r ≡ Ok d → IsEither s d)
    → resumed ≡ false → Attached handle seq resumed may_wait ≡ (attach_turn s r).reply → Takes s handle (attach_turn s r).state.next_session
attach_takes s (Err e) handle seq resumed may_wait either new is = absurd (cc)
attach_takes s (Ok d) handle seq resumed may_wait either new is =
    let name : handle ≡ d.handle = cc in
    let goes : resumed ≡ is_none d.begun = cc in
    let takes = either_takes s d (either d refl) (sym goes ∙ new) in
    record { words = takes.words; is = name ∙ takes.is; small = takes.small; risen = takes.risen }

outcome_other : (s : State) (r : Result (Decision Answer) Refusal) (handle : List ℕ) (seq : ℕ) (resumed may_wait : Bool) → Attached handle seq resumed may_wait ≡ (outcome s r).reply → ⊥
outcome_other s (Err e) handle seq resumed may_wait is = absurd (cc)
outcome_other s (Ok d) handle seq resumed may_wait is = absurd (cc)

drain_other : (s : State) (o : Option DrainDecision) (handle : List ℕ) (seq : ℕ) (resumed may_wait : Bool) → Attached handle seq resumed may_wait ≡ (drain_turn s o).reply → ⊥
drain_other s None handle seq resumed may_wait is = absurd (cc)
drain_other s (Some d) handle seq resumed may_wait is = absurd (cc)

detach_other : (handle : List ℕ) (seq : ℕ) (resumed may_wait : Bool) → Attached handle seq resumed may_wait ≡ Detached → ⊥
detach_other handle seq resumed may_wait is = absurd (cc)

step_takes : (s : State) (e : Event) (handle : List ℕ) (seq : ℕ) (resumed may_wait : Bool) → resumed ≡ false → Attached handle seq resumed may_wait ≡ (step s e).reply
    → Takes s handle (step s e).state.next_session
step_takes s (event.Ask x m words) handle seq resumed may_wait new is =
    absurd (outcome_other (at_moment s m) (decision (at_moment s m) x words) handle seq resumed may_wait is)
step_takes s (event.Attach mk node other n m words) handle seq resumed may_wait new is =
    let takes = attach_takes (at_moment s m) (attach (at_moment s m) mk node other n words) handle seq resumed may_wait
    (λ d e. attach_either (at_moment s m) mk node other n words d e) new is in
    record { words = takes.words; is = takes.is; small = takes.small; risen = takes.risen }
step_takes s (event.Drain mk other m) handle seq resumed may_wait new is = absurd (drain_other (at_moment s m) (drain (at_moment s m) mk other) handle seq resumed may_wait is)
step_takes s (event.Detach mk other m) handle seq resumed may_wait new is = absurd (detach_other handle seq resumed may_wait is)

reply_takes : (s : State) (e : Event) (before after : ℕ) (reply : Reply) (handle : List ℕ) → IsReply s e before after reply → IsBegunUnder handle reply → Takes s handle (state_after s e reply).next_session
reply_takes s e before after (Done answer) handle is begun = absurd begun
reply_takes s e before after (Attached other seq resumed may_wait) handle is begun =
    let takes = step_takes s e other seq resumed may_wait begun.1 is in
    record { words = takes.words; is = sym begun.0 ∙ takes.is; small = takes.small; risen = takes.risen }
reply_takes s e before after (Frames responses) handle is begun = absurd begun
reply_takes s e before after Ended handle is begun = absurd begun
reply_takes s e before after Detached handle is begun = absurd begun
reply_takes s e before after (Refused refusal) handle is begun = absurd begun
reply_takes s e before after (Lost loss) handle is begun = absurd begun

-- ---- histories

not_again : (s : State) (count : ℕ) (between : List Entry) (f : Entry) (later : List Entry) (handle words : List ℕ) (n : ℕ) → n < s.next_session → n < 2 ^ 63 → handle ≡ session_handle n words
    → Legal s count (between ++ f ∷ later) → IsBegunUnder handle f.reply → ⊥
not_again s count [] f later handle words n below small is legal begun =
    let takes = reply_takes s f.event count f.after f.reply handle legal.2 begun in
    let same : n ≡ s.next_session = handle_one n s.next_session words takes.words small takes.small (sym is ∙ takes.is) in
    absurd (omega arith)
not_again s count (b ∷ between) f later handle words n below small is legal begun =
    let grown = after_next s b.event b.reply in
    not_again (state_after s b.event b.reply) b.after between f later handle words n (omega (arith, below, grown)) small is legal.4 begun

pub given_once : (s : State) (count : ℕ) (before : List Entry) (e : Entry) (between : List Entry) (f : Entry) (later : List Entry) (handle : List ℕ)
    → Legal s count (before ++ e ∷ between ++ f ∷ later) → IsBegunUnder handle e.reply → IsBegunUnder handle f.reply → ⊥
given_once s count [] e between f later handle legal begun again =
    let takes = reply_takes s e.event count e.after e.reply handle legal.2 begun in
    let risen = takes.risen in
    not_again (state_after s e.event e.reply) e.after between f later handle takes.words s.next_session (omega (arith, risen)) takes.small takes.is legal.4 again
given_once s count (b ∷ before) e between f later handle legal begun again = given_once (state_after s b.event b.reply) b.after before e between f later handle legal.4 begun again
