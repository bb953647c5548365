-- The bytes of a text with their marks, as the scan meets them, and what they result in.
use Rattle.std.proofs.Common.{ℕ, ◌+◌, ◌&&◌, List, [], ◌∷◌, get_or, Option, Some, None, cond}
use Rattle.std.specs.Option.{option_or}
use Rattle.hujson_read.specs.declared.fault.HujsonFault.{HujsonFault}
use Rattle.hujson_read.specs.declared.fault.HujsonFault.TheVariants as fault
use Rattle.hujson_read.specs.declared.mode.Mode.{Mode}
use Rattle.hujson_read.specs.declared.mode.Mode.TheVariants as mode
use Rattle.hujson_read.specs.declared.mark.Mark.{Mark}
use Rattle.hujson_read.specs.Standard.{is_before_closer, is_stray, space}
use Rattle.hujson_read.specs.Scan.{mode_after, mark_of, marked_byte, mark_written, is_comma}

-- the marks of the rest of a text, and what is left open at its end
pub data Marked : Type 0 where
  Ends : Option HujsonFault → Marked
  Next : Mark → Marked → Marked

-- what is open at the end of a text is a fault, unless it may end there
abbrev pub end_fault : Mode → Option HujsonFault
end_fault mode.Outside = None
end_fault (mode.InString start) = Some (fault.OpenString start)
end_fault (mode.Escaped start) = Some (fault.OpenString start)
end_fault mode.InLine = None
end_fault (mode.BlockStart start) = Some (fault.OpenComment start)
end_fault (mode.InBlock start) = Some (fault.OpenComment start)
end_fault mode.BlockEnd = None

-- the bytes from an offset on, each with its mark
abbrev pub marked : ℕ → Mode → List ℕ → Marked
marked at m [] = Ends (end_fault m)
marked at m (b ∷ bs) = Next (mark_of m b (get_or bs 0 0)) (marked (at + 1) (mode_after m at b (get_or bs 0 0)) bs)

-- the first significant byte
abbrev pub next_byte : Marked → Option ℕ
next_byte (Ends f) = None
next_byte (Next m ms) = option_or (marked_byte m) (next_byte ms)

-- the standard text
abbrev pub standard_marks : Marked → List ℕ
standard_marks (Ends f) = []
standard_marks (Next m ms) = cond (is_comma m && is_before_closer (next_byte ms)) space (mark_written m) ∷ standard_marks ms

-- the first fault from an offset on, after that significant byte
abbrev pub marks_fault : ℕ → Option ℕ → Marked → Option HujsonFault
marks_fault at previous (Ends f) = f
marks_fault at previous (Next m ms) =
    cond (is_comma m && is_stray previous) (Some (fault.StrayComma at)) (marks_fault (at + 1) (option_or (marked_byte m) previous) ms)
