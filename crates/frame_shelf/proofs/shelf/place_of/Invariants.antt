use Rattle.std.proofs.Common.{◌≡◌, drop}
use Rattle.std.specs.List.{position_from}
use Rattle.frame_shelf.specs.Shelves.{is_line_of}
use Rattle.frame_shelf.proofs.shelf.place_of.Given as goal

-- the first of the lines to come is the first of all
abbrev pub invariant-loop-at : goal.invariant-loop-at
invariant-loop-at l =
    position_from (is_line_of l.machine) l.at (drop l.at l.lines) ≡ position_from (is_line_of l.machine) 0 l.lines
