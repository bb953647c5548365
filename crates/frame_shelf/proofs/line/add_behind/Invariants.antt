use Rattle.std.proofs.Common.{◌≡◌, ◌++◌, drop}
use Rattle.frame_shelf.specs.Shelves.{numbered_behind}
use Rattle.frame_shelf.proofs.line.add_behind.Given as goal

-- with those of the responses to come it is all
abbrev pub invariant-loop-response : goal.invariant-loop-response
invariant-loop-response l =
    l.made ++ numbered_behind l.number (drop l.response-index l.responses) ≡ l.fn.made ++ numbered_behind l.number l.responses
