-- What holds of a hub's table between any two of its steps. Word 0 is the number that is served, word 1 the next
-- ticket, word 2 the number of seats that have a name; the one slot has the desk.
use Rattle.std.specs.Prelude.{◌≡◌, ◌≤◌, ◌<◌, ◌+◌, ◌^◌, ℕ, Option, Some, None, List, [], ◌∷◌, length, nat_lt, if◌then◌else◌}
use mathlib.Core.Option.{some, none}
use lib.ListN.{get_elem?}
use Rattle.atomic_table.specs.Table.{State as Table}
use Rattle.session_hub.specs.declared.known.Line.{Line}
use Rattle.session_hub.specs.declared.known.Stage.{Stage}
use Rattle.session_hub.specs.declared.known.Stage.TheVariants.{Idle, Waits, InTurn}
use Rattle.session_hub.specs.declared.known.Portion.{Portion}
use Rattle.session_hub.specs.declared.known.Known.{Known}
use Rattle.session_hub.specs.Lines.{StartsWith, equals, lines_by, times}

-- 1 where the first number is below the second
abbrev pub below : ℕ → ℕ → ℕ
below t n = if nat_lt t n then 1 else 0

abbrev pub total : {V : Type 0} → (V → ℕ) → List V → ℕ
total f [] = 0
total f (v ∷ vs) = f v + total f vs

-- 1 where a seat at this stage holds the ticket
abbrev pub holds_ticket : ℕ → Stage → ℕ
holds_ticket t Idle = 0
holds_ticket t (Waits k) = equals t k
holds_ticket t (InTurn k) = equals t k

-- the history begins with the portion's and has no line more under its names, which are among these
pub record FitsPortion (history : List Line) (names : List ℕ) (p : Portion) : Type 0 where
  pub begins : StartsWith history p.seen
  pub own : (n : ℕ) → 0 < times n p.names → lines_by n p.seen ≡ lines_by n history
  pub within : (n : ℕ) → 0 < times n p.names → 0 < times n names

module _ {D : Type 0} where
  -- a seat with a ticket has a name; in turn it has seen the whole history, whose length is its ticket
  abbrev pub FitsStage : List Line → Known D → Stage → Type 0
  FitsStage history v Idle = Unit {0}
  FitsStage history v (Waits k) = 0 < length v.names
  FitsStage history v (InTurn k) = (0 < length v.names) × (k ≡ length history) × (v.seen ≡ history)

  -- what a seat knows is so: the history begins with what it has seen, and has no line more under its names
  pub record Fits (start : D) (history : List Line) (v : Known D) : Type 0 where
    pub started : (d : D) → v.start ≡ Some d → d ≡ start
    pub seen : StartsWith history v.seen
    pub own : (n : ℕ) → 0 < times n v.names → lines_by n v.seen ≡ lines_by n history
    pub stage : FitsStage history v v.stage
    pub left : FitsPortion history v.names v.left
    pub right : FitsPortion history v.names v.right

  -- the history leads to the desk that is at home; while none is, a seat is in turn
  abbrev pub IsHome : (D → List Line → D → Type 0) → D → List Line → List (Known D) → mathlib.Core.Option.Option (Option D) → Type 0
  IsHome reaches start history views none = (k : ℕ) × (v : Known D) × (t : ℕ) × (get_elem? views k ≡ some v) × (v.stage ≡ InTurn t)
  IsHome reaches start history views (some None) = ⊥
  IsHome reaches start history views (some (Some desk)) = reaches start history desk

  pub record HubHolds (reaches : D → List Line → D → Type 0) (start : D) (s : Table (Option D) (Known D)) : Type 0 where
    pub history : List Line
    pub ticket : ℕ
    pub seats : ℕ
    pub words : s.words ≡ length history ∷ ticket ∷ seats ∷ []
    pub ahead : length history ≤ ticket
    pub ticket_small : ticket ≤ 2 ^ 63
    pub seats_small : seats ≤ 2 ^ 63
    pub named : (n : ℕ) → seats ≤ n → lines_by n history ≡ []
    pub fits : (k : ℕ) (v : Known D) → get_elem? s.views k ≡ some v → Fits start history v
    -- each ticket that isn't served yet is held by one seat, and no other ticket by any
    pub tickets : (t : ℕ) → total (λ (v : Known D). holds_ticket t v.stage) s.views + below t (length history) ≡ below t ticket
    -- each number below `seats` is a name, of one seat alone, and no other number is
    pub names : (n : ℕ) → total (λ (v : Known D). times n v.names) s.views ≡ below n seats
    pub whole : total (λ (v : Known D). length v.names) s.views ≡ seats
    pub homes : (h : mathlib.Core.Option.Option (Option D)) × (s.homes ≡ h ∷ []) × IsHome reaches start history s.views h
