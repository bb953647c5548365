use Rattle.std.proofs.Common.{◌≡◌, ◌++◌, take}
use Rattle.desk_state.proofs.entrant.joined.Given as goal

abbrev pub invariant-loop-tag : goal.invariant-loop-tag
invariant-loop-tag l = l.made ≡ l.first ++ take l.tag-index l.second
