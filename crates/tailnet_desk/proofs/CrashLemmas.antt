-- What an open after a crash may find.
use Rattle.std.proofs.Common.{◌≡◌, ◌≢◌, ◌⊎◌, ◌∙◌, ℕ, ℤ, Bool, List, Option, Some, None, Result, Ok, Err, inl, refl, sym, ap, subst}
use Rattle.std.specs.Prelude.{IfSome, IsSome, IsTrue, OnOk}
use Rattle.io_edge.specs.Edge.{IsWhereTold}
use Rattle.io_edge.specs.declared.faults.EdgeFault.{EdgeFault}
use Rattle.io_edge.specs.declared.faults.EdgeFault.TheVariants as edge
use Rattle.net_rows.specs.Rows.{after}
use Rattle.net_rows.specs.declared.change.Change.{Change}
use Rattle.net_rows.specs.declared.rows.Rows.{Rows}
use Rattle.desk_state.specs.Decisions.{rows_after}
use Rattle.desk_state.specs.State.{State, at_moment}
use Rattle.desk_state.specs.declared.decision.Decision.{Decision}
use Rattle.tailnet_desk.specs.Carried.{Carried, reply_of}
use Rattle.tailnet_desk.specs.Crashes.{IfDone, IsSafeTurn, LeavesAlso, LeavesOnly, left_behind}
use Rattle.tailnet_desk.specs.Seated.{Keeping, Seated}
use Rattle.tailnet_desk.specs.Step.{decision, outcome, step}
use Rattle.tailnet_desk.specs.declared.ask.Ask.{Ask}
use Rattle.tailnet_desk.specs.declared.entry.Event.{Event}
use Rattle.tailnet_desk.specs.declared.entry.Event.TheVariants as event
use Rattle.tailnet_desk.specs.declared.reply.Answer.{Answer}
use Rattle.tailnet_desk.specs.declared.reply.Reply.{Reply}
use Rattle.tailnet_desk.specs.declared.reply.Reply.TheVariants.{Done, Attached, Frames, Ended, Detached, Refused, Lost}

-- a keeper that stays as it was
pub leaves_same : {K : Type 0} (told : K → Option Rows) (is_clean : K → Bool) (may_leave : K → Option Rows → Type 0)
    (k : K) (rows : Rows) (l : K) → l ≡ k → LeavesAlso told is_clean may_leave k rows l
leaves_same told is_clean may_leave k rows l same = record {
  clean = subst (λ x. IsTrue (is_clean x)) same;
  crash = λ clean tells found may. inl (subst (λ x. may_leave x found) same may);
}

-- what a commit says of the rows that are told, said of the rows that are held
also_held : (may before : Option Rows → Type 0) (rows : Rows) (change : Change) (told : Option Rows) → IsWhereTold rows told
    → IfSome told (λ r. (found : Option Rows) → may found → before found ⊎ (found ≡ Some (after r change)))
    → IsSome told → (found : Option Rows) → may found → before found ⊎ (found ≡ Some (after rows change))
also_held may before rows change None held said tells = absurd cc
also_held may before rows change (Some r) held said tells =
    subst (λ (x : Rows). (found : Option Rows) → may found → before found ⊎ (found ≡ Some (after x change))) (sym held) said

only_held : (may : Option Rows → Type 0) (rows : Rows) (change : Change) (told : Option Rows) → IsWhereTold rows told
    → IfSome told (λ r. (found : Option Rows) → may found → found ≡ Some (after r change))
    → IsSome told → (found : Option Rows) → may found → found ≡ Some (after rows change)
only_held may rows change None held said tells = absurd cc
only_held may rows change (Some r) held said tells =
    subst (λ (x : Rows). (found : Option Rows) → may found → found ≡ Some (after x change)) (sym held) said

-- a commit, by its clauses
pub leaves_committed : {K : Type 0} (told : K → Option Rows) (is_clean : K → Bool) (may_leave : K → Option Rows → Type 0)
    (k : K) (rows : Rows) (change : Change) (l : K) → IsWhereTold rows (told k)
    → (IsTrue (is_clean l) → IsTrue (is_clean k))
    → (IsTrue (is_clean l) → IfSome (told k) (λ r. (found : Option Rows) → may_leave l found → may_leave k found ⊎ (found ≡ Some (after r change))))
    → LeavesAlso told is_clean may_leave k (after rows change) l
leaves_committed told is_clean may_leave k rows change l held clean crash = record {
  clean = clean;
  crash = λ is_clean_now. also_held (may_leave l) (may_leave k) rows change (told k) held (crash is_clean_now);
}

pub lasts_committed : {K : Type 0} (told : K → Option Rows) (is_clean : K → Bool) (may_leave : K → Option Rows → Type 0)
    (k : K) (rows : Rows) (change : Change) (l : K) → IsWhereTold rows (told k)
    → (IsTrue (is_clean l) → IfSome (told k) (λ r. (found : Option Rows) → may_leave l found → found ≡ Some (after r change)))
    → LeavesOnly told is_clean may_leave k (after rows change) l
lasts_committed told is_clean may_leave k rows change l held durable is_clean_now =
    only_held (may_leave l) rows change (told k) held (durable is_clean_now)

-- a load, by its clauses
loaded_also : {K : Type 0} (told : K → Option Rows) (is_clean : K → Bool) (may_leave : K → Option Rows → Type 0) (k l : K) (tells : Option Rows)
    → (IsTrue (is_clean l) → IsTrue (is_clean k))
    → (IsTrue (is_clean l) → IfSome tells (λ r. (found : Option Rows) → may_leave l found → may_leave k found ⊎ (found ≡ Some r)))
    → IfSome tells (λ rows. LeavesAlso told is_clean may_leave k rows l)
loaded_also told is_clean may_leave k l None clean crash = tt
loaded_also told is_clean may_leave k l (Some r) clean crash = record { clean = clean; crash = λ is_clean_now tells. crash is_clean_now }

pub leaves_loaded : {K : Type 0} (told : K → Option Rows) (is_clean : K → Bool) (may_leave : K → Option Rows → Type 0) (k l : K)
    → (IsTrue (is_clean l) → IsTrue (is_clean k))
    → (IsTrue (is_clean l) → IfSome (told k) (λ r. (found : Option Rows) → may_leave l found → may_leave k found ⊎ (found ≡ Some r)))
    → IfSome (told k) (λ rows. LeavesAlso told is_clean may_leave k rows l)
leaves_loaded told is_clean may_leave k l clean crash = loaded_also told is_clean may_leave k l (told k) clean crash

-- the rows of a step that decides so
rows_are : (s : State) (x : Ask) (m : ℤ) (words : Option (List ℕ)) (d : Decision Answer) → decision (at_moment s m) x words ≡ Ok d
    → (step s (event.Ask x m words)).state.rows ≡ rows_after s.rows d.change
rows_are s x m words d is = ap (λ r. (outcome (at_moment s m) r).state.rows) is

-- a change that differs is there
lasts_changed : (change : Option Change) (rows : Rows) (holds : Rows → Type 0) → IfSome change (λ c. holds (rows_after rows change))
    → rows_after rows change ≢ rows → holds (rows_after rows change)
lasts_changed None rows holds h differs = absurd (differs refl)
lasts_changed (Some c) rows holds h differs = h

-- what is carried out or lost behind a decision
decided_safe : {K : Type 0} (told : K → Option Rows) (is_clean : K → Bool) (may_leave : K → Option Rows → Type 0) (was q : Seated K)
    (x : Ask) (m : ℤ) (words : Option (List ℕ)) (d : Decision Answer) (reply : Reply) (k l : Keeping)
    → decision (at_moment was.state m) x words ≡ Ok d → Carried (at_moment was.state m) d reply q.state k l
    → LeavesAlso told is_clean may_leave was.keeper (rows_after was.state.rows d.change) q.keeper
    → IfDone reply (IfSome d.change (λ c. LeavesOnly told is_clean may_leave was.keeper (rows_after was.state.rows d.change) q.keeper))
    → IsSafeTurn told is_clean may_leave was (event.Ask x m words) reply q
decided_safe told is_clean may_leave was q x m words d (Done answer) k l is c also lasts =
    let stepped = sym (rows_are was.state x m words d is) in
    let also' = subst (λ rows. LeavesAlso told is_clean may_leave was.keeper rows q.keeper) stepped also in
    record {
      clean = also'.clean;
      crash = λ clean tells found may. (
        also'.crash clean tells found may,
        (λ changes. subst (λ rows. found ≡ Some rows) stepped
            (lasts_changed d.change was.state.rows (λ rows. LeavesOnly told is_clean may_leave was.keeper rows q.keeper) lasts
            (λ same. changes (rows_are was.state x m words d is ∙ same)) clean tells found may)),
      );
    }
decided_safe told is_clean may_leave was q x m words d (Attached handle seq resumed may_wait) k l is c also lasts = absurd c
decided_safe told is_clean may_leave was q x m words d (Frames responses) k l is c also lasts = absurd c
decided_safe told is_clean may_leave was q x m words d Ended k l is c also lasts = absurd c
decided_safe told is_clean may_leave was q x m words d Detached k l is c also lasts = absurd c
decided_safe told is_clean may_leave was q x m words d (Refused r) k l is c also lasts = absurd c
decided_safe told is_clean may_leave was q x m words d (Lost loss) k l is c also lasts =
    let also' = subst (λ rows. LeavesAlso told is_clean may_leave was.keeper rows q.keeper) (sym (rows_are was.state x m words d is)) also in
    record { clean = also'.clean; crash = also'.crash }

-- the same at a desk whose time was brought forward before
pub carried_safe : {K : Type 0} (told : K → Option Rows) (is_clean : K → Bool) (may_leave : K → Option Rows → Type 0) (was q : Seated K) (mid : State) (keeper : K)
    (x : Ask) (m : ℤ) (words : Option (List ℕ)) (d : Decision Answer) (reply : Reply) (k l : Keeping)
    → mid ≡ at_moment was.state m → keeper ≡ was.keeper → decision mid x words ≡ Ok d → Carried mid d reply q.state k l
    → LeavesAlso told is_clean may_leave keeper (rows_after mid.rows d.change) q.keeper
    → IfDone reply (IfSome d.change (λ c. LeavesOnly told is_clean may_leave keeper (rows_after mid.rows d.change) q.keeper))
    → IsSafeTurn told is_clean may_leave was (event.Ask x m words) reply q
carried_safe told is_clean may_leave was q mid keeper x m words d reply k l mid_is keeper_is is c also lasts =
    let is' : decision (at_moment was.state m) x words ≡ Ok d = subst (λ s. decision s x words ≡ Ok d) mid_is is in
    let c' : Carried (at_moment was.state m) d reply q.state k l = subst (λ s. Carried s d reply q.state k l) mid_is c in
    let also' : LeavesAlso told is_clean may_leave was.keeper (rows_after was.state.rows d.change) q.keeper =
    subst (λ y. LeavesAlso told is_clean may_leave y (rows_after was.state.rows d.change) q.keeper) keeper_is
    (subst (λ (s : State). LeavesAlso told is_clean may_leave keeper (rows_after s.rows d.change) q.keeper) mid_is also) in
    let lasts' : IfDone reply (IfSome d.change (λ c. LeavesOnly told is_clean may_leave was.keeper (rows_after was.state.rows d.change) q.keeper)) =
    subst (λ y. IfDone reply (IfSome d.change (λ c. LeavesOnly told is_clean may_leave y (rows_after was.state.rows d.change) q.keeper))) keeper_is
    (subst (λ (s : State). IfDone reply (IfSome d.change (λ c. LeavesOnly told is_clean may_leave keeper (rows_after s.rows d.change) q.keeper))) mid_is lasts) in
    decided_safe told is_clean may_leave was q x m words d reply k l is' c' also' lasts'

-- a keeper that stays as it was, where nothing was carried out
pub kept_safe : {K : Type 0} (told : K → Option Rows) (is_clean : K → Bool) (may_leave : K → Option Rows → Type 0) (p : Seated K) (e : Event) (reply : Reply) (q : Seated K)
    → IfDone reply ⊥ → q.keeper ≡ p.keeper → IsSafeTurn told is_clean may_leave p e reply q
kept_safe told is_clean may_leave p e reply q undone same = record {
  clean = subst (λ k. IsTrue (is_clean k)) same;
  crash = λ clean tells found may. left reply undone found (subst (λ k. may_leave k found) same may);
}
  where
    left : (r : Reply) → IfDone r ⊥ → (found : Option Rows) → may_leave p.keeper found → left_behind p.state e r (may_leave p.keeper) found
    left (Done answer) undone found may = absurd undone
    left (Attached handle seq resumed may_wait) undone found may = may
    left (Frames responses) undone found may = may
    left Ended undone found may = may
    left Detached undone found may = may
    left (Refused r) undone found may = may
    left (Lost loss) undone found may = inl may

-- what holds where a decision was kept holds where it is replied to
done_by : (kept : Result (Unit {0}) EdgeFault) (answer : Answer) (holds : Type 0) → OnOk kept holds → IfDone (reply_of kept answer) holds
done_by (Ok done) answer holds h = h
done_by (Err edge.NoMemory) answer holds h = tt
done_by (Err edge.Failed) answer holds h = tt

pub replied_lasts : {K : Type 0} (told : K → Option Rows) (is_clean : K → Bool) (may_leave : K → Option Rows → Type 0) (change : Option Change)
    (kept : Result (Unit {0}) EdgeFault) (answer : Answer) (reply : Reply) (k : K) (rows : Rows) (l : K) → reply ≡ reply_of kept answer
    → OnOk kept (IfSome change (λ c. LeavesOnly told is_clean may_leave k rows l)) → IfDone reply (IfSome change (λ c. LeavesOnly told is_clean may_leave k rows l))
replied_lasts told is_clean may_leave change kept answer reply k rows l is h =
    subst (λ r. IfDone r (IfSome change (λ c. LeavesOnly told is_clean may_leave k rows l))) (sym is)
    (done_by kept answer (IfSome change (λ c. LeavesOnly told is_clean may_leave k rows l)) h)
