-- A desk with a shelf: the last frames of each machine's session are kept, and are sent again where a client lost them.
use Rattle.std.specs.Prelude.{◌≡◌, ◌⊎◌, ◌++◌, ◌&&◌, ℕ, Bool, false, List, [], ◌∷◌, Option, None, Some, if◌then◌else◌, is_some, nat_le, take, unwrap_or}
use Rattle.std.specs.Str.{bytes_eq}
use Rattle.tail_base.specs.declared.key.MachineKey.{MachineKey}
use Rattle.tailcfg.specs.declared.response.Response.{Response}
use Rattle.frame_shelf.specs.Shelves.{ShelfLine, keep, lines_without, reach, response_number, responses_behind}
use Rattle.tailnet_desk.specs.declared.entry.Event.{Event}
use Rattle.tailnet_desk.specs.declared.entry.Event.TheVariants as event
use Rattle.tailnet_desk.specs.declared.reply.Loss.TheVariants.{NoMemory}
use Rattle.tailnet_desk.specs.declared.reply.Reply.{Reply}
use Rattle.tailnet_desk.specs.declared.reply.Reply.TheVariants.{Done, Attached, Frames, Ended, Detached, Refused, Lost}
use Rattle.kept_desk.specs.declared.kept_desk.KeptDesk.{KeptDesk}
use Rattle.kept_desk.specs.declared.owing.Owing.{Owing}

-- a desk, what its shelf holds, and what is owed to the drain of the poll that attached last
pub record KeptPoint (D : Type 0) : Type 0 where
  pub desk : D
  pub shelf : List ShelfLine
  pub owed : Option Owing

abbrev pub kept_point_of : {D : Type 0} → KeptDesk D → KeptPoint D
kept_point_of kept = record { desk = kept.desk; shelf = kept.shelf; owed = kept.owed }

-- the number that the desk is asked with: what the shelf reaches, or else the one that the client names
abbrev pub number_asked : List ShelfLine → MachineKey → List ℕ → ℕ → ℕ
number_asked lines machine handle number = unwrap_or (reach lines machine handle number) number

-- what the desk is asked
abbrev pub inner_event : List ShelfLine → Event → Event
inner_event lines (event.Ask ask moment words) = event.Ask ask moment words
inner_event lines (event.Attach machine node handle number moment words) =
    event.Attach machine node handle (number_asked lines machine handle number) moment words
inner_event lines (event.Drain machine handle moment) = event.Drain machine handle moment
inner_event lines (event.Detach machine handle moment) = event.Detach machine handle moment

-- The session goes on.
abbrev pub is_resumed : Reply → Bool
is_resumed (Done answer) = false
is_resumed (Attached handle number resumed may_wait) = resumed
is_resumed (Frames responses) = false
is_resumed Ended = false
is_resumed Detached = false
is_resumed (Refused refusal) = false
is_resumed (Lost loss) = false

-- what is owed behind an attach: where the shelf reached and the session goes on, all behind the number that the client named
abbrev pub owed_by : MachineKey → ℕ → Option ℕ → Reply → Option Owing
owed_by machine number None reply = None
owed_by machine number (Some reached) reply =
    if is_resumed reply then Some (record { machine = machine; number = number }) else None

-- The drain is of the machine to which it is owed, and the machine's line still reaches back.
abbrev pub is_owed : List ShelfLine → MachineKey → List ℕ → Owing → Bool
is_owed lines machine handle owing =
    bytes_eq owing.machine.0 machine.0 && is_some (reach lines machine handle owing.number)

-- the responses that are owed to a drain
abbrev pub owed_to : List ShelfLine → MachineKey → List ℕ → Option Owing → List Response
owed_to lines machine handle None = []
owed_to lines machine handle (Some owing) =
    if is_owed lines machine handle owing then responses_behind lines machine owing.number else []

-- A response with a number is kept.
abbrev pub keep_numbered : List ShelfLine → MachineKey → List ℕ → Response → List ShelfLine
keep_numbered lines machine handle response =
    if nat_le 1 (response_number response) then keep lines machine handle response else lines

-- the lines after a drain's responses were kept, in order
abbrev pub keep_all : List ShelfLine → MachineKey → List ℕ → List Response → List ShelfLine
keep_all lines machine handle [] = lines
keep_all lines machine handle (response ∷ responses) =
    keep_all (keep_numbered lines machine handle response) machine handle responses

-- Memory was refused for a copy of what is owed, or for keeping the response behind so many of them: the machine has no line.
pub record IsDropped (lines : List ShelfLine) (machine : MachineKey) (handle : List ℕ) (responses : List Response) (after : List ShelfLine) : Type 0 where
  pub kept : ℕ
  pub gone : after ≡ lines_without (keep_all lines machine handle (take kept responses)) machine

-- the reply where nothing new came and these are owed
abbrev pub ended_reply : List Response → Reply
ended_reply [] = Ended
ended_reply (response ∷ responses) = Frames (response ∷ responses)

-- A drain answered responses: they are kept, and the reply is what is owed and then these; or memory was refused for that.
abbrev pub IsKeptFrames : List ShelfLine → MachineKey → List ℕ → List Response → List Response → Reply → List ShelfLine → Type 0
IsKeptFrames lines machine handle owed responses reply after =
    ((reply ≡ Frames (owed ++ responses)) × (after ≡ keep_all lines machine handle responses))
    ⊎ ((reply ≡ Lost NoMemory) × IsDropped lines machine handle responses after)

-- A drain found that the session has ended: the reply is what is owed; or memory was refused for that.
abbrev pub IsKeptEnd : List ShelfLine → MachineKey → List ℕ → List Response → Reply → List ShelfLine → Type 0
IsKeptEnd lines machine handle owed reply after =
    ((reply ≡ ended_reply owed) × (after ≡ lines)) ⊎ ((reply ≡ Lost NoMemory) × (after ≡ lines_without lines machine))

-- what becomes of a drain's reply, and what of the shelf
abbrev pub IsKeptDrain : List ShelfLine → MachineKey → List ℕ → List Response → Reply → Reply → List ShelfLine → Type 0
IsKeptDrain lines machine handle owed (Done answer) reply after = (reply ≡ Done answer) × (after ≡ lines)
IsKeptDrain lines machine handle owed (Attached h n resumed may_wait) reply after =
    (reply ≡ Attached h n resumed may_wait) × (after ≡ lines)
IsKeptDrain lines machine handle owed (Frames responses) reply after =
    IsKeptFrames lines machine handle owed responses reply after
IsKeptDrain lines machine handle owed Ended reply after = IsKeptEnd lines machine handle owed reply after
IsKeptDrain lines machine handle owed Detached reply after = (reply ≡ Detached) × (after ≡ lines)
IsKeptDrain lines machine handle owed (Refused refusal) reply after = (reply ≡ Refused refusal) × (after ≡ lines)
IsKeptDrain lines machine handle owed (Lost loss) reply after = (reply ≡ Lost loss) × (after ≡ lines)

-- what becomes of the desk's reply, of the shelf and of what is owed
abbrev pub IsKeptBy : {D : Type 0} → KeptPoint D → Event → Reply → Reply → KeptPoint D → Type 0
IsKeptBy p (event.Ask ask moment words) inner reply q = (reply ≡ inner) × (q.shelf ≡ p.shelf) × (q.owed ≡ p.owed)
IsKeptBy p (event.Attach machine node handle number moment words) inner reply q =
    (reply ≡ inner) × (q.shelf ≡ p.shelf) × (q.owed ≡ owed_by machine number (reach p.shelf machine handle number) inner)
IsKeptBy p (event.Drain machine handle moment) inner reply q =
    IsKeptDrain p.shelf machine handle (owed_to p.shelf machine handle p.owed) inner reply q.shelf × (q.owed ≡ None)
IsKeptBy p (event.Detach machine handle moment) inner reply q = (reply ≡ inner) × (q.shelf ≡ p.shelf) × (q.owed ≡ p.owed)

-- A turn of a desk with a shelf is one of the desk, with the number that the shelf reaches where it attaches.
pub record IsShelvedTurn {D : Type 0} (turn : D → Event → Reply → D → Type 0) (p : KeptPoint D) (e : Event) (reply : Reply) (q : KeptPoint D) : Type 0 where
  pub inner_reply : Reply
  pub turned : turn p.desk (inner_event p.shelf e) inner_reply q.desk
  pub kept : IsKeptBy p e inner_reply reply q
