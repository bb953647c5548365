-- What the scan of a text knows at a byte, for the private functions that step it.
use Rattle.std.specs.Prelude.{ℕ, ◌<◌, ◌==◌, ◌&&◌, Bool, false, List, length, slice_set, Option, Some, None, if◌then◌else◌}
use Rattle.hujson_read.specs.declared.mode.Mode.{Mode}
use Rattle.hujson_read.specs.declared.mode.Mode.TheVariants as mode
use Rattle.hujson_read.specs.declared.mark.Mark.{Mark}
use Rattle.hujson_read.specs.declared.mark.Mark.TheVariants as mark
use Rattle.hujson_read.specs.Tokens.{quote, backslash, slash, star, line_feed}
use Rattle.hujson_read.specs.Standard.{space, comma, is_blank, is_before_closer, blanked}

-- what is open after a byte, where `next` follows it, or 0 at the end
abbrev pub mode_after : Mode → ℕ → ℕ → ℕ → Mode
mode_after mode.Outside at b next =
    if b == quote then mode.InString at
    else if b == slash && next == slash then mode.InLine
    else if b == slash && next == star then mode.BlockStart at
    else mode.Outside
mode_after (mode.InString start) at b next =
    if b == quote then mode.Outside else if b == backslash then mode.Escaped start else mode.InString start
mode_after (mode.Escaped start) at b next = mode.InString start
mode_after mode.InLine at b next = if b == line_feed then mode.Outside else mode.InLine
mode_after (mode.BlockStart start) at b next = mode.InBlock start
mode_after (mode.InBlock start) at b next = if b == star && next == slash then mode.BlockEnd else mode.InBlock start
mode_after mode.BlockEnd at b next = mode.Outside

-- the byte with the kind of token that it stands in
abbrev pub mark_of : Mode → ℕ → ℕ → Mark
mark_of mode.Outside b next =
    if b == quote then mark.Quoted b
    else if b == slash && next == slash then mark.Comment b
    else if b == slash && next == star then mark.Comment b
    else mark.Other b
mark_of (mode.InString start) b next = mark.Quoted b
mark_of (mode.Escaped start) b next = mark.Quoted b
mark_of mode.InLine b next = if b == line_feed then mark.Other b else mark.Comment b
mark_of (mode.BlockStart start) b next = mark.Comment b
mark_of (mode.InBlock start) b next = mark.Comment b
mark_of mode.BlockEnd b next = mark.Comment b

-- the byte, if it is significant
abbrev pub marked_byte : Mark → Option ℕ
marked_byte (mark.Other b) = if is_blank b then None else Some b
marked_byte (mark.Quoted b) = Some b
marked_byte (mark.Comment b) = None

-- a comma outside strings and comments
abbrev pub is_comma : Mark → Bool
is_comma (mark.Other b) = b == comma
is_comma (mark.Quoted b) = false
is_comma (mark.Comment b) = false

-- the byte as it is written, until a closer is seen to follow it
abbrev pub mark_written : Mark → ℕ
mark_written (mark.Other b) = b
mark_written (mark.Quoted b) = b
mark_written (mark.Comment b) = blanked b

-- the output once the significant byte after the comma that waits in it is known
abbrev pub settled : Option ℕ → Option ℕ → List ℕ → List ℕ
settled None next out = out
settled (Some at) next out = if is_before_closer next then slice_set out at space else out

-- the comma that waits is in the output
abbrev pub IsWithin : Option ℕ → List ℕ → Type 0
IsWithin None out = Unit {0}
IsWithin (Some at) out = at < length out

-- the comma that waits, unless a significant byte follows it
abbrev pub unless : Option ℕ → Option ℕ → Option ℕ
unless (Some b) waits = None
unless None waits = waits

-- the comma that waits after that byte at that offset
abbrev pub waiting : Option ℕ → Mark → ℕ → Option ℕ
waiting waits m at = if is_comma m then Some at else unless (marked_byte m) waits
