-- Histories whose entries stand under names, and where they lead.
use Rattle.std.specs.Prelude.{◌≡◌, ◌+◌, ◌==◌, ℕ, Option, Some, None, List, [], ◌∷◌, ◌++◌, length, map, nat_lt, if◌then◌else◌}
use Rattle.std.specs.List.{filter}
use Rattle.row_keeper.specs.Before.{ToldBefore}
use Rattle.tailnet_desk.specs.History.{Legal, replay, count_at_end}
use Rattle.tailnet_desk.specs.Seated.{Point}
use Rattle.tailnet_desk.specs.declared.entry.Entry.{Entry}
use Rattle.session_hub.specs.declared.known.Line.{Line}

abbrev pub entries_of : List Line → List Entry
entries_of lines = map (λ (l : Line). l.entry) lines

-- the lines under a name
abbrev pub lines_by : ℕ → List Line → List Line
lines_by name lines = filter (λ (l : Line). l.by == name) lines

abbrev pub StartsWith : List Line → List Line → Type 0
StartsWith lines front = (rest : List Line) × (lines ≡ front ++ rest)

-- of two histories the one that is not shorter
abbrev pub longer : List Line → List Line → List Line
longer a b = if nat_lt (length a) (length b) then b else a

-- 1 where the numbers are equal
abbrev pub equals : ℕ → ℕ → ℕ
equals n x = if x == n then 1 else 0

-- how often a name stands in a list of names
abbrev pub times : ℕ → List ℕ → ℕ
times name [] = 0
times name (x ∷ xs) = equals name x + times name xs

-- each entry is one of the Tailnet machine, from this state and this count on
abbrev pub LegalFrom : Point → List Line → Type 0
LegalFrom p lines = Legal p.state p.keeping.faults (entries_of lines)

-- the same from where a hub's desk stood when the hub was made
abbrev pub AreLegal : Option Point → List Line → Type 0
AreLegal None lines = Unit {0}
AreLegal (Some p) lines = LegalFrom p lines

-- The history is legal from where a desk stood, and the desk now stands at its end. Where its keeper tells rows now, it
-- told rows then.
pub record IsReplayOf (start : Point) (lines : List Line) (now : Point) : Type 0 where
  pub legal : LegalFrom start lines
  pub state : now.state ≡ replay start.state (entries_of lines)
  pub count : now.keeping.faults ≡ count_at_end start.keeping.faults (entries_of lines)
  pub before : ToldBefore start.keeping.told now.keeping.told

-- The same of a desk that is seen at points; and what was safe then is safe now.
pub record Replays {D : Type 0} (at : D → Point) (safe : D → Type 0) (start : D) (lines : List Line) (desk : D) : Type 0 where
  pub replays : IsReplayOf (at start) lines (at desk)
  pub stays : safe start → safe desk
