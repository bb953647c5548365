-- The standard text of a HuJSON text, which is JSON where the text is sound, and its faults.
use Rattle.std.specs.Prelude.{◌≡◌, ℕ, ◌+◌, ◌==◌, ◌&&◌, ◌||◌, Bool, true, false, List, [], ◌∷◌, ◌++◌, length, map, nat_lt, Option, Some, None, option_to_list, if◌then◌else◌}
use Rattle.std.specs.Option.{option_or}
use Rattle.hujson_read.specs.declared.fault.HujsonFault.{HujsonFault}
use Rattle.hujson_read.specs.declared.fault.HujsonFault.TheVariants as fault
use Rattle.hujson_read.specs.Tokens.{Token, Other, Quoted, LineComment, BlockComment, OpenString, OpenComment, token_bytes, tokens, quote, line_feed}

-- the byte that a trailing comma and most of a comment become
abbrev pub space : ℕ
space = 32

-- the byte that may stand before a line feed
abbrev pub carriage_return : ℕ
carriage_return = 13

-- `,`
abbrev pub comma : ℕ
comma = 44

-- JSON's white space (RFC 8259, section 2)
abbrev pub is_blank : ℕ → Bool
is_blank b = b == space || b == 9 || b == line_feed || b == carriage_return

-- `]` or `}`
abbrev pub is_closer : ℕ → Bool
is_closer b = b == 93 || b == 125

-- `[`, `{`, `,` or `:`, after which a comma follows no value
abbrev pub awaits_value : ℕ → Bool
awaits_value b = b == 91 || b == 123 || b == comma || b == 58

-- the significant byte with which a token begins, and with which it ends if it isn't open: a string
-- has its quotes, a comment none
abbrev pub significant : Token → Option ℕ
significant (Other b) = if is_blank b then None else Some b
significant (Quoted ps) = Some quote
significant (LineComment body) = None
significant (BlockComment body) = None
significant (OpenString ps cut) = Some quote
significant (OpenComment body) = None

-- the first significant byte of the tokens
abbrev pub next_of : List Token → Option ℕ
next_of [] = None
next_of (t ∷ ts) = option_or (significant t) (next_of ts)

-- a closer comes next
abbrev pub is_before_closer : Option ℕ → Bool
is_before_closer None = false
is_before_closer (Some b) = is_closer b

-- no value stands before
abbrev pub is_stray : Option ℕ → Bool
is_stray None = true
is_stray (Some b) = awaits_value b

-- a byte of a comment becomes a space, unless it ends a line
abbrev pub blanked : ℕ → ℕ
blanked b = if b == line_feed || b == carriage_return then b else space

-- what stands for a token before that significant byte: a comma before a closer becomes a space, a
-- comment is blanked, and all else stays
abbrev pub written : Token → Option ℕ → List ℕ
written (Other b) next = (if b == comma && is_before_closer next then space else b) ∷ []
written (Quoted ps) next = token_bytes (Quoted ps)
written (LineComment body) next = map blanked (token_bytes (LineComment body))
written (BlockComment body) next = map blanked (token_bytes (BlockComment body))
written (OpenString ps cut) next = token_bytes (OpenString ps cut)
written (OpenComment body) next = map blanked (token_bytes (OpenComment body))

-- the standard text of the tokens
abbrev pub standard : List Token → List ℕ
standard [] = []
standard (t ∷ ts) = written t (next_of ts) ++ standard ts

-- the fault of a token at that offset, after that significant byte
abbrev pub token_fault : ℕ → Option ℕ → Token → Option HujsonFault
token_fault at previous (Other b) = if b == comma && is_stray previous then Some (fault.StrayComma at) else None
token_fault at previous (Quoted ps) = None
token_fault at previous (LineComment body) = None
token_fault at previous (BlockComment body) = None
token_fault at previous (OpenString ps cut) = Some (fault.OpenString at)
token_fault at previous (OpenComment body) = Some (fault.OpenComment at)

-- the faults of all the tokens
abbrev pub faults : ℕ → Option ℕ → List Token → List HujsonFault
faults at previous [] = []
faults at previous (t ∷ ts) =
    option_to_list (token_fault at previous t)
    ++ faults (at + length (token_bytes t)) (option_or (significant t) previous) ts

-- where a fault stands
abbrev pub offset_of : HujsonFault → ℕ
offset_of (fault.OpenComment at) = at
offset_of (fault.StrayComma at) = at
offset_of (fault.OpenString at) = at
offset_of fault.NoMemory = 0

-- the one of the two with the lesser offset
abbrev pub lesser : HujsonFault → Option HujsonFault → HujsonFault
lesser f None = f
lesser f (Some g) = if nat_lt (offset_of g) (offset_of f) then g else f

-- the fault with the least offset
abbrev pub least : List HujsonFault → Option HujsonFault
least [] = None
least (f ∷ fs) = Some (lesser f (least fs))

-- the first fault of the tokens
abbrev pub first_fault : List Token → Option HujsonFault
first_fault ts = least (faults 0 None ts)

-- the standard text of a text
unfoldable pub standard_of : List ℕ → List ℕ
standard_of text = standard (tokens text)

-- the first fault of a text
unfoldable pub fault_of : List ℕ → Option HujsonFault
fault_of text = first_fault (tokens text)

-- the fault is the text's first, or tells of lack of memory
abbrev pub IsFault : List ℕ → HujsonFault → Type 0
IsFault text (fault.OpenComment at) = fault_of text ≡ Some (fault.OpenComment at)
IsFault text (fault.StrayComma at) = fault_of text ≡ Some (fault.StrayComma at)
IsFault text (fault.OpenString at) = fault_of text ≡ Some (fault.OpenString at)
IsFault text fault.NoMemory = Unit {0}
