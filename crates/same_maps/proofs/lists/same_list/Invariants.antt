use Rattle.std.proofs.Common.{◌≡◌, drop}
use Rattle.std.specs.Cmp.Lexicographic.{pointwise}
use Rattle.same_maps.proofs.lists.same_list.Given as goal

-- what is left on both sides decides
abbrev pub invariant-loop-x : goal.invariant-loop-x
invariant-loop-x g l = pointwise g.T.Comparable.same (drop l.x-index l.a) l.others ≡ pointwise g.T.Comparable.same l.a l.b
