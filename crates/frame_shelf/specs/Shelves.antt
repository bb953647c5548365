-- The last frames of machines' sessions, kept so that they can be sent again.
use Rattle.std.specs.Prelude.{◌≡◌, ◌≤◌, ◌+◌, ◌-◌, ◌==◌, ◌&&◌, ◌++◌, ℕ, Bool, List, [], ◌∷◌, Option, Some, None, drop, filter, if◌then◌else◌, length, nat_le, nat_lt, not, unwrap_or}
use Rattle.std.specs.List.{find, list_all, list_any, range_with_len}
use Rattle.std.specs.Str.{bytes_eq}
use Rattle.circular_buffer.specs.Buffer.{keep_last}
use Rattle.tail_base.specs.declared.key.MachineKey.{MachineKey}
use Rattle.tailcfg.specs.declared.response.Response.{Response}
use Rattle.fresh_maps.specs.Frames.{frame_of}
use Rattle.frame_shelf.specs.declared.limits.TheConstants.{FRAME_BYTES, LINE_FRAMES, SHELF_LINES}

-- What is kept of a machine: the handle of its session, the number of its last response, and the last responses in order.
pub record ShelfLine : Type 0 where
  pub machine : MachineKey
  pub handle : List ℕ
  pub last : ℕ
  pub responses : List Response

-- it is the line of the machine
abbrev pub is_line_of : MachineKey → ShelfLine → Bool
is_line_of machine line = bytes_eq line.machine.0 machine.0

abbrev pub shelf_line : List ShelfLine → MachineKey → Option ShelfLine
shelf_line lines machine = find (is_line_of machine) lines

abbrev pub lines_without : List ShelfLine → MachineKey → List ShelfLine
lines_without lines machine = filter (λ line. not (is_line_of machine line)) lines

-- the number of a response, or 0 if it has none
abbrev pub response_number : Response → ℕ
response_number response = unwrap_or response.seq 0

-- The line has the handle, and its last number is the one before this.
abbrev pub goes_on : List ℕ → ℕ → ShelfLine → Bool
goes_on handle number line = bytes_eq line.handle handle && (line.last == number - 1)

-- the responses before the one of this handle and number: those of a line that goes on with it
abbrev pub held_before : Option ShelfLine → List ℕ → ℕ → List Response
held_before None handle number = []
held_before (Some line) handle number = if goes_on handle number line then line.responses else []

-- Its frame, with the four bytes of its length, isn't too long to be kept.
abbrev pub is_short : Response → Bool
is_short response = nat_le (length (frame_of response)) FRAME_BYTES

-- with a response behind them: the last ones, or none if its frame is too long
abbrev pub held_with : List Response → Response → List Response
held_with held response = if is_short response then keep_last LINE_FRAMES (held ++ response ∷ []) else []

-- a machine's line with a response behind its others
abbrev pub line_with : Option ShelfLine → MachineKey → List ℕ → Response → ShelfLine
line_with line machine handle response = record {
  machine = machine;
  handle = handle;
  last = response_number response;
  responses = held_with (held_before line handle (response_number response)) response;
}

-- without the first one, where there is one too many
abbrev pub without_surplus : List ShelfLine → List ShelfLine
without_surplus lines = if nat_lt SHELF_LINES (length lines) then drop 1 lines else lines

-- a line behind others
abbrev pub with_last : List ShelfLine → ShelfLine → List ShelfLine
with_last lines line = without_surplus (lines ++ line ∷ [])

-- the lines after a response of a machine's session was kept
abbrev pub keep : List ShelfLine → MachineKey → List ℕ → Response → List ShelfLine
keep lines machine handle response =
    with_last (lines_without lines machine) (line_with (shelf_line lines machine) machine handle response)

-- one of the responses has this number
abbrev pub holds_number : List Response → ℕ → Bool
holds_number responses number = list_any (λ response. response_number response == number) responses

-- the numbers behind one, up to another
abbrev pub numbers_behind : ℕ → ℕ → List ℕ
numbers_behind number last = range_with_len (number + 1) (last - number)

-- It has all numbers behind this one, up to its last.
abbrev pub has_behind : ℕ → ShelfLine → Bool
has_behind number line = list_all (holds_number line.responses) (numbers_behind number line.last)

-- The line has the handle, the number isn't above its last, and it has all numbers behind this one.
abbrev pub reaches_back : List ℕ → ℕ → ShelfLine → Bool
reaches_back handle number line = bytes_eq line.handle handle && nat_le number line.last && has_behind number line

abbrev pub reach_of : List ℕ → ℕ → ShelfLine → Option ℕ
reach_of handle number line = if reaches_back handle number line then Some line.last else None

abbrev pub reach_in : List ℕ → ℕ → Option ShelfLine → Option ℕ
reach_in handle number None = None
reach_in handle number (Some line) = reach_of handle number line

-- the last number of the machine's line, if that reaches back to behind this one
abbrev pub reach : List ShelfLine → MachineKey → List ℕ → ℕ → Option ℕ
reach lines machine handle number = reach_in handle number (shelf_line lines machine)

-- those that are numbered behind this one
abbrev pub numbered_behind : ℕ → List Response → List Response
numbered_behind number responses = filter (λ response. nat_lt number (response_number response)) responses

abbrev pub behind_in : ℕ → Option ShelfLine → List Response
behind_in number None = []
behind_in number (Some line) = numbered_behind number line.responses

-- the machine's responses that are numbered behind this one
abbrev pub responses_behind : List ShelfLine → MachineKey → ℕ → List Response
responses_behind lines machine number = behind_in number (shelf_line lines machine)

-- The responses are numbered one by one behind this number.
abbrev pub AreInTurn : ℕ → List Response → Type 0
AreInTurn number [] = Unit {0}
AreInTurn number (response ∷ responses) = (response_number response ≡ number + 1) × AreInTurn (number + 1) responses

-- what holds of each line's responses: they are numbered one by one up to its last number, and there are at most so many
pub record AreLast (last : ℕ) (responses : List Response) : Type 0 where
  pub within : length responses ≤ last
  pub in_turn : AreInTurn (last - length responses) responses
  pub few : length responses ≤ LINE_FRAMES

-- No two lines are of one machine.
abbrev pub AreOnce : List ShelfLine → Type 0
AreOnce [] = Unit {0}
AreOnce (line ∷ lines) = (shelf_line lines line.machine ≡ None) × AreOnce lines

-- each line's responses keep those rules
abbrev pub AreLines : List ShelfLine → Type 0
AreLines [] = Unit {0}
AreLines (line ∷ lines) = AreLast line.last line.responses × AreLines lines

-- what holds of all shelves
pub record IsShelf (lines : List ShelfLine) : Type 0 where
  pub once : AreOnce lines
  pub few : length lines ≤ SHELF_LINES
  pub held : AreLines lines
