-- What a crash leaves behind the turns of a desk.
use Rattle.std.proofs.Common.{◌≡◌, ◌⊎◌, inl, inr, ℕ, Bool, List, [], ◌∷◌, Option, Some, Result, Ok, Err, IsSome, IsTrue, refl, sym, ap, subst, ◌∙◌}
use Rattle.std.specs.Prelude.{⊤}
use Rattle.net_rows.specs.declared.rows.Rows.{Rows}
use Rattle.desk_state.specs.State.{State, at_moment}
use Rattle.desk_state.specs.declared.decision.Decision.{Decision}
use Rattle.desk_state.specs.declared.refusal.Refusal.{Refusal}
use Rattle.tailnet_desk.specs.Asks.{IsPollEvent}
use Rattle.tailnet_desk.specs.Chains.{Chain, Turned}
use Rattle.tailnet_desk.specs.Crashes.{IsKeptTurn, IsLost, IsSafeDesk, OrOneMore, left_behind}
use Rattle.tailnet_desk.specs.History.{ChangesRows, IsReply, state_after}
use Rattle.tailnet_desk.specs.Seated.{Seated, point_of}
use Rattle.tailnet_desk.specs.Step.{decision, outcome, step}
use Rattle.tailnet_desk.specs.Turns.{IsTurn}
use Rattle.tailnet_desk.specs.declared.entry.Event.{Event}
use Rattle.tailnet_desk.specs.declared.entry.Event.TheVariants as event
use Rattle.tailnet_desk.specs.declared.reply.Answer.{Answer}
use Rattle.tailnet_desk.specs.declared.reply.Reply.{Reply}
use Rattle.tailnet_desk.specs.declared.reply.Reply.TheVariants.{Done, Attached, Frames, Ended, Detached, Refused, Lost}
use Rattle.tailnet_desk.proofs.SoundHistories.{poll_keeps}
use Rattle.tailnet_desk.proofs.Codes.{same_rows}

-- ---- what changes rows was carried out

abbrev IsDone : Reply → Type 0
IsDone (Done answer) = ⊤
IsDone (Attached handle seq resumed may_wait) = ⊥
IsDone (Frames responses) = ⊥
IsDone Ended = ⊥
IsDone Detached = ⊥
IsDone (Refused refusal) = ⊥
IsDone (Lost loss) = ⊥

ask_keeps : (s : State) (r : Result (Decision Answer) Refusal) → (IsDone (outcome s r).reply → ⊥) → (outcome s r).state.rows ≡ s.rows
ask_keeps s (Ok d) other = absurd (other tt)
ask_keeps s (Err refusal) other = refl

step_keeps : (s : State) (e : Event) → (IsDone (step s e).reply → ⊥) → (step s e).state.rows ≡ s.rows
step_keeps s (event.Ask x m words) other = ask_keeps (at_moment s m) (decision (at_moment s m) x words) other
step_keeps s (event.Attach mk node handle seq m words) other = (poll_keeps s (event.Attach mk node handle seq m words) tt).rows
step_keeps s (event.Drain mk handle m) other = (poll_keeps s (event.Drain mk handle m) tt).rows
step_keeps s (event.Detach mk handle m) other = (poll_keeps s (event.Detach mk handle m) tt).rows

-- the same of a reply that is the step's
reply_keeps : (s : State) (e : Event) (reply : Reply) → reply ≡ (step s e).reply → (IsDone reply → ⊥) → (step s e).state.rows ≡ s.rows
reply_keeps s e reply is other = step_keeps s e (λ done. other (subst IsDone (sym is) done))

-- ---- one turn

-- what may be found behind a turn: what might be before, if the rows are the same; the rows then; or those of a lost ask
abbrev pub After : (Option Rows → Type 0) → State → Event → Reply → Option Rows → Type 0
After before s e reply found =
    (before found × ((state_after s e reply).rows ≡ s.rows)) ⊎ ((found ≡ Some (state_after s e reply).rows) ⊎ (IsLost reply × (found ≡ Some (step s e).state.rows)))

-- of a turn whose state is the step's, and which was carried out
after_done : (before : Option Rows → Type 0) (s t : State) (found : Option Rows) → before found ⊎ (found ≡ Some t.rows) → ((t.rows ≡ s.rows → ⊥) → found ≡ Some t.rows)
    → (before found × (t.rows ≡ s.rows)) ⊎ (found ≡ Some t.rows)
after_done before s t found (inl was) alone = elim (same_rows t.rows s.rows) [ inl same ↦ inl (was, same) | inr differ ↦ inr (alone differ) ]
after_done before s t found (inr is) alone = inr is

kept_or : (P Q R : Type 0) → P ⊎ Q → P ⊎ (Q ⊎ R)
kept_or P Q R (inl p) = inl p
kept_or P Q R (inr q) = inr (inl q)

after_turn : (before : Option Rows → Type 0) (s : State) (e : Event) (a b : ℕ) (reply : Reply) (found : Option Rows) → IsReply s e a b reply → left_behind s e reply before found → After before s e reply found
after_turn before s e a b (Done answer) found is left = kept_or _ _ _ (after_done before s (step s e).state found left.0 left.1)
after_turn before s e a b (Attached handle seq resumed may_wait) found is left = inl (left, reply_keeps s e (Attached handle seq resumed may_wait) is (λ none. none))
after_turn before s e a b (Frames responses) found is left = inl (left, reply_keeps s e (Frames responses) is (λ none. none))
after_turn before s e a b Ended found is left = inl (left, reply_keeps s e Ended is (λ none. none))
after_turn before s e a b Detached found is left = inl (left, reply_keeps s e Detached is (λ none. none))
after_turn before s e a b (Refused refusal) found is left = inl (left, reply_keeps s e (Refused refusal) is (λ none. none))
after_turn before s e a b (Lost loss) found is (inl was) = inl (was, refl)
after_turn before s e a b (Lost loss) found is (inr made) = inr (inr (tt, made))

-- what was there before, or the rows of the step
pub or_step : (before : Option Rows → Type 0) (s : State) (e : Event) (reply : Reply) (found : Option Rows) → left_behind s e reply before found → before found ⊎ (found ≡ Some (step s e).state.rows)
or_step before s e (Done answer) found left = left.0
or_step before s e (Attached handle seq resumed may_wait) found left = inl left
or_step before s e (Frames responses) found left = inl left
or_step before s e Ended found left = inl left
or_step before s e Detached found left = inl left
or_step before s e (Refused refusal) found left = inl left
or_step before s e (Lost loss) found left = left

-- a call that did nothing
pub left_same : (before : Option Rows → Type 0) (s : State) (e : Event) (reply : Reply) (found : Option Rows) → (ChangesRows s e → ⊥) → before found → left_behind s e reply before found
left_same before s e (Done answer) found never was = (inl was, (λ changes. absurd (never changes)))
left_same before s e (Attached handle seq resumed may_wait) found never was = was
left_same before s e (Frames responses) found never was = was
left_same before s e Ended found never was = was
left_same before s e Detached found never was = was
left_same before s e (Refused refusal) found never was = was
left_same before s e (Lost loss) found never was = inl was

-- what was lost leaves rows
lost_keeps : (s : State) (e : Event) (reply : Reply) → IsLost reply → (state_after s e reply).rows ≡ s.rows
lost_keeps s e (Done answer) lost = absurd lost
lost_keeps s e (Attached handle seq resumed may_wait) lost = absurd lost
lost_keeps s e (Frames responses) lost = absurd lost
lost_keeps s e Ended lost = absurd lost
lost_keeps s e Detached lost = absurd lost
lost_keeps s e (Refused refusal) lost = absurd lost
lost_keeps s e (Lost loss) lost = refl

module _ {K : Type 0} (told : K → Option Rows) (faults calls : K → ℕ) (is_clean : K → Bool) (may_leave : K → Option Rows → Type 0) where
  -- a turn of a desk whose keeper tells
  pub turn_after : (d : Seated K) (e : Event) (reply : Reply) (q : Seated K) → IsKeptTurn told faults calls is_clean may_leave d e reply q → IsTrue (is_clean q.keeper) → IsSome (told d.keeper)
      → (found : Option Rows) → may_leave q.keeper found → After (may_leave d.keeper) d.state e reply found
  turn_after d e reply q turn clean tells found may = after_turn (may_leave d.keeper) d.state e _ _ reply found turn.turn.call.reply_is (turn.safe.crash clean tells found may)

  -- a poll's turn leaves its keeper
  pub poll_kept : (d : Seated K) (e : Event) (reply : Reply) (q : Seated K) → IsPollEvent e → IsTurn (point_of told faults calls d) e reply (point_of told faults calls q) → q.keeper ≡ d.keeper
      → IsKeptTurn told faults calls is_clean may_leave d e reply q
  poll_kept d e reply q poll turn same = record {
    turn = turn;
    safe = record {
      clean = subst (λ k. IsTrue (is_clean k)) same;
      crash = λ clean tells found may. left_same (may_leave d.keeper) d.state e reply found (λ changes. changes (poll_keeps d.state e poll).rows) (subst (λ k. may_leave k found) same may);
    };
  }

  -- a desk that is safe stays so
  pub turn_safe : (d : Seated K) (e : Event) (reply : Reply) (q : Seated K) → IsKeptTurn told faults calls is_clean may_leave d e reply q → IsSafeDesk told is_clean may_leave d → IsSafeDesk told is_clean may_leave q
  turn_safe d e reply q turn safe clean tells found may =
      let told_d = turn.turn.before tells in
      let q_is : q.state ≡ state_after d.state e reply = turn.turn.call.state in
      elim (turn_after d e reply q turn clean told_d found may) [
        | inl was ↦ subst (λ rows. OrOneMore rows found) (sym (ap (λ (s : State). s.rows) q_is ∙ was.1)) (safe (turn.safe.clean clean) told_d found was.0)
        | inr (inl now) ↦ inl (now ∙ ap (λ (s : State). Some s.rows) (sym q_is))
        | inr (inr lost) ↦ inr (d.state, e, turn.turn.call.short, sym (ap (λ (s : State). s.rows) q_is ∙ lost_keeps d.state e reply lost.0), lost.1)
      ]

  pub turns_safe : (d : Seated K) (turns : List Turned) (q : Seated K) → Chain (IsKeptTurn told faults calls is_clean may_leave) d turns q → IsSafeDesk told is_clean may_leave d → IsSafeDesk told is_clean may_leave q
  turns_safe d [] q same safe = subst (IsSafeDesk told is_clean may_leave) same safe
  turns_safe d (x ∷ xs) q chain safe = turns_safe chain.0 xs q chain.2 (turn_safe d x.event x.reply chain.0 chain.1 safe)
