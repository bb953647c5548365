-- What each step at a hub's table tells the seat that takes it.
use Rattle.std.specs.Prelude.{◌≡◌, ◌≢◌, ◌<◌, ◌≤◌, ◌+◌, ◌^◌, ℕ, Option, Some, None, List, [], ◌∷◌, ◌++◌, length}
use mathlib.Core.Option.{some}
use lib.ListN.{get_elem?}
use Rattle.atomic_table.specs.Table.{Me, Step}
use Rattle.session_hub.specs.declared.known.Line.{Line}
use Rattle.session_hub.specs.declared.known.Stage.{Stage}
use Rattle.session_hub.specs.declared.known.Stage.TheVariants.{Idle, Waits, InTurn}
use Rattle.session_hub.specs.declared.known.Portion.{Portion}
use Rattle.session_hub.specs.declared.known.Known.{Known}
use Rattle.session_hub.specs.Lines.{StartsWith, lines_by, longer, times}
use Rattle.session_hub.specs.Rule.{below}

abbrev pub ticket_of : Stage → ℕ
ticket_of Idle = 0
ticket_of (Waits t) = t
ticket_of (InTurn t) = t

abbrev pub no_portion : Portion
no_portion = record { names = []; seen = [] }

-- the history begins with the portion's, and has no line more under its names
abbrev pub HasPortion : List Line → Portion → Type 0
HasPortion seen p = (length p.seen ≤ length seen → StartsWith seen p.seen) × ((n : ℕ) → 0 < times n p.names → lines_by n seen ≡ lines_by n p.seen)

abbrev pub first_name : List ℕ → List ℕ
first_name [] = []
first_name (n ∷ ns) = n ∷ []

abbrev pub other_names : List ℕ → List ℕ
other_names [] = []
other_names (n ∷ ns) = ns

module _ {D : Type 0} where
  abbrev pub idle : Option D → List Line → List ℕ → Known D
  idle start seen names = record { start = start; seen = seen; names = names; stage = Idle; left = no_portion; right = no_portion }

  abbrev pub with_stage : Known D → List Line → Stage → Known D
  with_stage v seen stage = record { start = v.start; seen = seen; names = v.names; stage = stage; left = v.left; right = v.right }

  -- the first seat, whose name is 0
  abbrev pub first_seat : D → Known D
  first_seat start = idle (Some start) [] (0 ∷ [])

  -- it has drawn the ticket, or the word was another
  abbrev pub DrawsTicket : Step (Option D) → Me (Option D) (Known D) → ℕ → Me (Option D) (Known D) → Type 0
  DrawsTicket s me n after = (n ≡ s.first → after ≡ (with_stage me.0 me.0.seen (Waits n), me.1)) × (n ≢ s.first → after ≡ me)

  -- the seat is in turn: it has the slot with the desk, to which the history leads that it then has seen
  pub record GetsDesk (reaches : D → List Line → D → Type 0) (me after : Me (Option D) (Known D)) : Type 0 where
    pub between : List Line
    pub desk : D
    pub after_is : after ≡ (with_stage me.0 (me.0.seen ++ between) (InTurn (ticket_of me.0.stage)), (0, Some desk) ∷ me.1)
    pub others : (n : ℕ) → 0 < times n me.0.names → lines_by n between ≡ []
    pub stands : (start : D) → me.0.start ≡ Some start → reaches start (me.0.seen ++ between) desk

  -- its ticket is served, or the word was another
  abbrev pub FindsTurn : (D → List Line → D → Type 0) → Step (Option D) → Me (Option D) (Known D) → ℕ → Me (Option D) (Known D) → Type 0
  FindsTurn reaches s me n after = (n ≡ ticket_of me.0.stage → GetsDesk reaches me after) × (n ≢ ticket_of me.0.stage → after ≡ me)

  -- the seat is in turn, and this desk is out of the slot
  pub record HasDesk (reaches : D → List Line → D → Type 0) (me : Me (Option D) (Known D)) (desk : D) (after : Me (Option D) (Known D)) : Type 0 where
    pub between : List Line
    pub after_is : after ≡ (with_stage me.0 (me.0.seen ++ between) (InTurn (ticket_of me.0.stage)), (0, None) ∷ me.1)
    pub others : (n : ℕ) → 0 < times n me.0.names → lines_by n between ≡ []
    pub stands : (start : D) → me.0.start ≡ Some start → reaches start (me.0.seen ++ between) desk

  -- the seat is in turn with an empty slot, and with this line its history leads to this desk
  pub record MayEnter (reaches : D → List Line → D → Type 0) (me : Me (Option D) (Known D)) (line : Line) (desk : D) : Type 0 where
    pub ticket : ℕ
    pub start : D
    pub stage : me.0.stage ≡ InTurn ticket
    pub starts : me.0.start ≡ Some start
    pub named : 0 < times line.by me.0.names
    pub entry : reaches start (me.0.seen ++ line ∷ []) desk
    pub out : me.1 ≡ (0, None) ∷ []

  -- the line was entered, and the desk is home
  abbrev pub EntersLine : Line → Step (Option D) → Me (Option D) (Known D) → ℕ → Me (Option D) (Known D) → Type 0
  EntersLine line s me n after = after ≡ (idle me.0.start (me.0.seen ++ line ∷ []) me.0.names, [])

  -- it has drawn a name more, which was none of its own, or the word was another
  abbrev pub DrawsName : Step (Option D) → Me (Option D) (Known D) → ℕ → Me (Option D) (Known D) → Type 0
  DrawsName s me n after =
      (n ≡ s.first → (after ≡ (idle me.0.start me.0.seen (n ∷ me.0.names), me.1)) × (times n me.0.names ≡ 0))
      × (n ≢ s.first → after ≡ me)

  -- a seat that has seen as much, with the name that was drawn last
  abbrev pub newcomer : Known D → Known D
  newcomer v = idle v.start v.seen (first_name v.names)

  -- the seat that drew it, without it
  abbrev pub remaining : Known D → Known D
  remaining v = idle v.start v.seen (other_names v.names)

  -- both names, the longer of both histories, and what each had before
  abbrev pub merged : Known D → Known D → Known D
  merged v w = record {
    start = v.start;
    seen = longer v.seen w.seen;
    names = v.names ++ w.names;
    stage = v.stage;
    left = record { names = v.names; seen = v.seen };
    right = record { names = w.names; seen = w.seen };
  }

  -- what is left of a seat that was joined
  abbrev pub gone : Known D
  gone = idle None [] []

  -- what is seen has both portions, and the names differ and are not too many
  pub record Compares (s : Step (Option D)) (me : Me (Option D) (Known D)) (n : ℕ) (after : Me (Option D) (Known D)) : Type 0 where
    pub after_is : after ≡ (idle me.0.start me.0.seen me.0.names, me.1)
    pub left : HasPortion me.0.seen me.0.left
    pub right : HasPortion me.0.seen me.0.right
    pub apart : (k : ℕ) → times k me.0.names ≤ 1
    pub few : length me.0.names ≤ 2 ^ 63

  -- what a seat knows after a join
  pub record Merges (v w u : Known D) : Type 0 where
    pub view : u ≡ idle v.start (longer v.seen w.seen) (v.names ++ w.names)
    pub left : StartsWith u.seen v.seen
    pub right : StartsWith u.seen w.seen
    pub left_own : (n : ℕ) → 0 < times n v.names → lines_by n u.seen ≡ lines_by n v.seen
    pub right_own : (n : ℕ) → 0 < times n w.names → lines_by n u.seen ≡ lines_by n w.seen
    pub apart : (n : ℕ) → times n v.names + times n w.names ≤ 1
    pub few : length v.names + length w.names ≤ 2 ^ 63

  -- the slots of a closed table have the desk, to which the history leads that the seat has seen
  pub record Closes (reaches : D → List Line → D → Type 0) (start : D) (v : Known D) (slots : List (Option D)) : Type 0 where
    pub desk : D
    pub there : get_elem? slots 0 ≡ some (Some desk)
    pub stands : reaches start v.seen desk
    pub named : (n : ℕ) → times n v.names ≡ 0 → lines_by n v.seen ≡ []
    pub numbered : (n : ℕ) → times n v.names ≡ below n (length v.names)
