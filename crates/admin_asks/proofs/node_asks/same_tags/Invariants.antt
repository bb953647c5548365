use Rattle.std.proofs.Common.{◌≡◌, length, drop}
use Rattle.std.specs.Cmp.Lexicographic.{pointwise}
use Rattle.std.specs.Str.{bytes_eq}
use Rattle.admin_asks.proofs.node_asks.same_tags.Given as goal

abbrev pub invariant-loop-i : goal.invariant-loop-i
invariant-loop-i l =
    (length l.held ≡ length l.tags)
    × (pointwise bytes_eq (drop l.i l.held) (drop l.i l.tags) ≡ pointwise bytes_eq l.held l.tags)
