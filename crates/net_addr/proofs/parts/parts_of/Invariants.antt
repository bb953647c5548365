use Rattle.std.proofs.Common.{◌≡◌, ◌==◌, length}
use Rattle.std.specs.List.{slice_split}
use Rattle.net_addr.specs.Parts.{mark_of, parts_from, parts_of}
use Rattle.net_addr.proofs.parts.parts_of.Given as goal

abbrev pub invariant-loop-at : goal.invariant-loop-at
invariant-loop-at l = parts_from l.notation l.parts (slice_split (λ b. b == mark_of l.notation) l.rest) ≡ parts_of l.notation l.text

abbrev pub decreases-loop-at : goal.decreases-loop-at
decreases-loop-at l = length l.rest
