-- What an open after a crash may find, from a call to the next.
use Rattle.std.specs.Prelude.{◌≡◌, ◌⊎◌, ℕ, Bool, List, [], ◌∷◌, Option, Some, IfSome, IsSome, IsTrue, ⊤}
use Rattle.net_rows.specs.declared.rows.Rows.{Rows}
use Rattle.desk_state.specs.State.{State}
use Rattle.tailnet_desk.specs.Asks.{IsShortEvent}
use Rattle.tailnet_desk.specs.History.{ChangesRows, state_after}
use Rattle.tailnet_desk.specs.Seated.{Seated, point_of}
use Rattle.tailnet_desk.specs.Step.{step}
use Rattle.tailnet_desk.specs.Turns.{IsTurn}
use Rattle.tailnet_desk.specs.declared.entry.Entry.{Entry}
use Rattle.tailnet_desk.specs.declared.entry.Event.{Event}
use Rattle.tailnet_desk.specs.declared.reply.Reply.{Reply}
use Rattle.tailnet_desk.specs.declared.reply.Reply.TheVariants.{Done, Attached, Frames, Ended, Detached, Refused, Lost}

-- what might be found before, or these rows
abbrev pub OrThese : Rows → (Option Rows → Type 0) → Option Rows → Type 0
OrThese rows before found = before found ⊎ (found ≡ Some rows)

-- What may be found behind a call, by what might be found before it. Where an ask was carried out: the rows of the step
-- alone, if it changed rows. Where it was lost: these, or what might be found before it. A refusal and a poll leave that.
abbrev pub left_behind : State → Event → Reply → (Option Rows → Type 0) → Option Rows → Type 0
left_behind s e (Done answer) before found =
    OrThese (step s e).state.rows before found × (ChangesRows s e → found ≡ Some (step s e).state.rows)
left_behind s e (Attached handle seq resumed may_wait) before found = before found
left_behind s e (Frames responses) before found = before found
left_behind s e Ended before found = before found
left_behind s e Detached before found = before found
left_behind s e (Refused refusal) before found = before found
left_behind s e (Lost loss) before found = OrThese (step s e).state.rows before found

-- what may be found behind a history
abbrev pub left_by_history : State → List Entry → (Option Rows → Type 0) → Option Rows → Type 0
left_by_history s [] before found = before found
left_by_history s (e ∷ es) before found = left_by_history (state_after s e.event e.reply) es (left_behind s e.event e.reply before) found

-- an ask that wasn't carried out, for a fault of the keeper or of memory
abbrev pub IsLost : Reply → Type 0
IsLost (Done answer) = ⊥
IsLost (Attached handle seq resumed may_wait) = ⊥
IsLost (Frames responses) = ⊥
IsLost Ended = ⊥
IsLost Detached = ⊥
IsLost (Refused refusal) = ⊥
IsLost (Lost loss) = ⊤

-- A call of a desk whose keeper told rows, and whose disk is clean behind it: it was clean before, and a crash leaves no
-- more than that.
pub record IsSafeTurn {K : Type 0} (told : K → Option Rows) (is_clean : K → Bool) (may_leave : K → Option Rows → Type 0)
    (p : Seated K) (e : Event) (reply : Reply) (q : Seated K) : Type 0 where
  pub clean : IsTrue (is_clean q.keeper) → IsTrue (is_clean p.keeper)
  pub crash : IsTrue (is_clean q.keeper) → IsSome (told p.keeper) → (found : Option Rows)
      → may_leave q.keeper found → left_behind p.state e reply (may_leave p.keeper) found

-- A call of a desk over a keeper: its turn, and what a crash may leave behind it.
pub record IsKeptTurn {K : Type 0} (told : K → Option Rows) (faults calls : K → ℕ) (is_clean : K → Bool) (may_leave : K → Option Rows → Type 0)
    (d : Seated K) (e : Event) (reply : Reply) (q : Seated K) : Type 0 where
  pub turn : IsTurn (point_of told faults calls d) e reply (point_of told faults calls q)
  pub safe : IsSafeTurn told is_clean may_leave d e reply q

-- these rows, or those that one event more would have made of them
abbrev pub OrOneMore : Rows → Option Rows → Type 0
OrOneMore rows found = (found ≡ Some rows) ⊎ ((s : State) × (e : Event) × IsShortEvent e × (s.rows ≡ rows) × (found ≡ Some (step s e).state.rows))

-- If its keeper tells rows and its disk is clean, a crash leaves the desk's rows, or those that one event more would have
-- made of them: nothing that was acknowledged is missing, and a change is there whole or not at all.
abbrev pub IsSafeDesk : {K : Type 0} → (K → Option Rows) → (K → Bool) → (K → Option Rows → Type 0) → Seated K → Type 0
IsSafeDesk told is_clean may_leave d = IsTrue (is_clean d.keeper) → IsSome (told d.keeper) → (found : Option Rows) → may_leave d.keeper found → OrOneMore d.state.rows found

-- the same of what keeps rows while no desk is over it, and of the rows that it tells
abbrev pub IsSafeStore : {O : Type 0} → (O → Option Rows) → (O → Bool) → (O → Option Rows → Type 0) → O → Type 0
IsSafeStore told is_clean may_leave o = IsTrue (is_clean o) → IfSome (told o) (λ rows. (found : Option Rows) → may_leave o found → OrOneMore rows found)

-- what kept rows that were told was safe, and is so still
abbrev pub StaysSafe : {O : Type 0} → (O → Option Rows) → (O → Bool) → (O → Option Rows → Type 0) → O → O → Type 0
StaysSafe told is_clean may_leave old new = IsSome (told old) → IsSafeStore told is_clean may_leave old → IsSafeStore told is_clean may_leave new

-- A keeper that tells its rows becomes another: a crash then leaves what it might have left before, or these rows.
pub record LeavesAlso {K : Type 0} (told : K → Option Rows) (is_clean : K → Bool) (may_leave : K → Option Rows → Type 0)
    (k : K) (rows : Rows) (l : K) : Type 0 where
  pub clean : IsTrue (is_clean l) → IsTrue (is_clean k)
  pub crash : IsTrue (is_clean l) → IsSome (told k) → (found : Option Rows) → may_leave l found → OrThese rows (may_leave k) found

-- the same, and then a crash leaves these rows alone
abbrev pub LeavesOnly : {K : Type 0} → (K → Option Rows) → (K → Bool) → (K → Option Rows → Type 0) → K → Rows → K → Type 0
LeavesOnly told is_clean may_leave k rows l = IsTrue (is_clean l) → IsSome (told k) → (found : Option Rows) → may_leave l found → found ≡ Some rows

-- what holds where an ask was carried out
abbrev pub IfDone : Reply → Type 0 → Type 0
IfDone (Done answer) holds = holds
IfDone (Attached handle seq resumed may_wait) holds = ⊤
IfDone (Frames responses) holds = ⊤
IfDone Ended holds = ⊤
IfDone Detached holds = ⊤
IfDone (Refused refusal) holds = ⊤
IfDone (Lost loss) holds = ⊤
