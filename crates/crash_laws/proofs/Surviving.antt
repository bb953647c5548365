-- What a crash leaves, turn by turn.
use Rattle.std.proofs.Common.{◌≡◌, ◌⊎◌, inl, inr, ℕ, Bool, List, [], ◌∷◌, Option, Some, IsSome, IsTrue, refl, sym, ap, subst, ◌∙◌}
use Rattle.net_rows.specs.declared.rows.Rows.{Rows}
use Rattle.desk_state.specs.State.{State}
use Rattle.tailnet_desk.specs.Chains.{Chain, Turned}
use Rattle.tailnet_desk.specs.Crashes.{IsKeptTurn, LeavesAlso}
use Rattle.tailnet_desk.specs.History.{ChangesRows, state_after}
use Rattle.tailnet_desk.specs.Seated.{Seated}
use Rattle.tailnet_desk.specs.Step.{step}
use Rattle.tailnet_desk.specs.declared.entry.Event.{Event}
use Rattle.tailnet_desk.specs.declared.reply.Answer.{Answer}
use Rattle.tailnet_desk.specs.declared.reply.Reply.{Reply}
use Rattle.tailnet_desk.specs.declared.reply.Reply.TheVariants.{Done}
use Rattle.tailnet_desk.proofs.KeptTurns.{After, or_step, turn_after}
use Rattle.crash_laws.specs.Histories.{LeaveRows, LeavesAlone, MayBeLeft, NoneIsLost, WouldHaveMade}

-- ---- histories

last_rows : {S : Type 0} (state : S → State) (turn : S → Event → Reply → S → Type 0) → ((p : S) (e : Event) (r : Reply) (q : S) → turn p e r q → state q ≡ state_after (state p) e r)
    → (p : S) (turns : List Turned) (q : S) → Chain turn p turns q → LeaveRows (state p) turns → (state q).rows ≡ (state p).rows
last_rows state turn is p [] q same quiet = ap (λ x. (state x).rows) (sym same)
last_rows state turn is p (x ∷ xs) q chain quiet =
    let m_is = is p x.event x.reply chain.0 chain.1 in
    last_rows state turn is chain.0 xs q chain.2 (subst (λ s. LeaveRows s xs) (sym m_is) quiet.1) ∙ ap (λ (s : State). s.rows) m_is ∙ quiet.0

module _ {K : Type 0} (told : K → Option Rows) (faults calls : K → ℕ) (is_clean : K → Bool) (may_leave : K → Option Rows → Type 0) where
  abbrev Turns : Seated K → List Turned → Seated K → Type 0
  Turns = Chain (IsKeptTurn told faults calls is_clean may_leave)

  -- turns that end at a keeper that tells began at one, and so of the disk
  told_back : (d : Seated K) (turns : List Turned) (q : Seated K) → Turns d turns q → IsSome (told q.keeper) → IsSome (told d.keeper)
  told_back d [] q same tells = subst (λ (x : Seated K). IsSome (told x.keeper)) (sym same) tells
  told_back d (x ∷ xs) q chain tells = chain.1.turn.before (told_back chain.0 xs q chain.2 tells)

  clean_back : (d : Seated K) (turns : List Turned) (q : Seated K) → Turns d turns q → IsTrue (is_clean q.keeper) → IsTrue (is_clean d.keeper)
  clean_back d [] q same clean = subst (λ (x : Seated K). IsTrue (is_clean x.keeper)) (sym same) clean
  clean_back d (x ∷ xs) q chain clean = chain.1.safe.clean (clean_back chain.0 xs q chain.2 clean)

  joined : (before : Option Rows → Type 0) (s : State) (x : Turned) (xs : List Turned) (last : Rows) (found : Option Rows) → After before s x.event x.reply found
      → LeaveRows (state_after s x.event x.reply) xs → last ≡ (state_after s x.event x.reply).rows → MayBeLeft before s (x ∷ xs) last found
  joined before s x xs last found (inl was) quiet is = inl (was.0, (was.1, quiet))
  joined before s x xs last found (inr (inl now)) quiet is = inr (inl (now ∙ ap (λ (r : Rows). Some r) (sym is)))
  joined before s x xs last found (inr (inr lost)) quiet is = inr (inr ((step s x.event).state.rows, inl (lost.0, refl, quiet), lost.1))

  pub survive : (d : Seated K) (turns : List Turned) (q : Seated K) → Turns d turns q → IsTrue (is_clean q.keeper) → IsSome (told q.keeper)
      → (found : Option Rows) → may_leave q.keeper found → MayBeLeft (may_leave d.keeper) d.state turns q.state.rows found
  survive d [] q same clean tells found may = inl (subst (λ (x : Seated K). may_leave x.keeper found) (sym same) may, tt)
  survive d (x ∷ xs) q chain clean tells found may =
      let m = chain.0 in
      let m_is = chain.1.turn.call.state in
      elim (subst (λ s. MayBeLeft (may_leave m.keeper) s xs q.state.rows found) m_is (survive m xs q chain.2 clean tells found may)) [
        | inl was ↦
            joined (may_leave d.keeper) d.state x xs q.state.rows found
            (turn_after told faults calls is_clean may_leave d x.event x.reply m chain.1 (clean_back m xs q chain.2 clean) (told_back d (x ∷ xs) q chain tells) found was.0) was.1
            (last_rows (λ (y : Seated K). y.state) _ (λ p e r y turn. turn.turn.call.state) m xs q chain.2 (subst (λ s. LeaveRows s xs) (sym m_is) was.1) ∙ ap (λ (s : State). s.rows) m_is)
        | inr (inl now) ↦ inr (inl now)
        | inr (inr lost) ↦ inr (inr (lost.0, inr lost.1, lost.2))
      ]

  -- where a crash left the rows of the first state alone, and no ask was lost, it leaves those of the last
  none_lost : (s : State) (turns : List Turned) (rows : Rows) → NoneIsLost turns → WouldHaveMade s turns rows → ⊥
  none_lost s [] rows none made = made
  none_lost s (x ∷ xs) rows none (inl here) = none.0 here.0
  none_lost s (x ∷ xs) rows none (inr later) = none_lost (state_after s x.event x.reply) xs rows none.1 later

  pub survive_alone : (d : Seated K) (turns : List Turned) (q : Seated K) → Turns d turns q → NoneIsLost turns → LeavesAlone (may_leave d.keeper) d.state.rows
      → IsTrue (is_clean q.keeper) → IsSome (told q.keeper) → LeavesAlone (may_leave q.keeper) q.state.rows
  survive_alone d turns q chain none alone clean tells found may =
      elim (survive d turns q chain clean tells found may) [
        | inl was ↦ alone found was.0 ∙ ap (λ (r : Rows). Some r) (sym (last_rows (λ (y : Seated K). y.state) _ (λ p e r y turn. turn.turn.call.state) d turns q chain was.1))
        | inr (inl now) ↦ now
        | inr (inr lost) ↦ absurd (none_lost d.state turns lost.0 none lost.1)
      ]

  -- and at any exit of one more turn those, or the rows of its step
  pub survive_last : (d : Seated K) (turns : List Turned) (m : Seated K) (e : Event) (reply : Reply) (q : Seated K) → Turns d turns m → NoneIsLost turns → LeavesAlone (may_leave d.keeper) d.state.rows
      → IsKeptTurn told faults calls is_clean may_leave m e reply q → IsTrue (is_clean q.keeper) → IsSome (told m.keeper)
      → (found : Option Rows) → may_leave q.keeper found → (found ≡ Some m.state.rows) ⊎ (found ≡ Some (step m.state e).state.rows)
  survive_last d turns m e reply q chain none alone turn clean tells found may =
      elim (or_step (may_leave m.keeper) m.state e reply found (turn.safe.crash clean tells found may)) [
        | inl was ↦ inl (survive_alone d turns m chain none alone (turn.safe.clean clean) tells found was)
        | inr made ↦ inr made
      ]

  pub survive_first : (m : Seated K) (e : Event) (answer : Answer) (q : Seated K) → IsKeptTurn told faults calls is_clean may_leave m e (Done answer) q → ChangesRows m.state e
      → IsTrue (is_clean q.keeper) → IsSome (told m.keeper) → LeavesAlone (may_leave q.keeper) q.state.rows
  survive_first m e answer q turn changes clean tells found may =
      (turn.safe.crash clean tells found may).1 changes ∙ ap (λ (s : State). Some s.rows) (sym turn.turn.call.state)

  -- an open leaves the rows alone that were left alone before it
  pub opened_alone : (k : K) (rows : Rows) (d : Seated K) → LeavesAlso told is_clean may_leave k rows d.keeper → LeavesAlone (may_leave k) rows → IsTrue (is_clean d.keeper) → IsSome (told k)
      → LeavesAlone (may_leave d.keeper) rows
  opened_alone k rows d leaves alone clean tells found may = elim (leaves.crash clean tells found may) [ inl was ↦ alone found was | inr now ↦ now ]
