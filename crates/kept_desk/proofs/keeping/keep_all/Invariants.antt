use Rattle.std.proofs.Common.{◌≡◌, take}
use Rattle.kept_desk.specs.Keeping.{keep_all}
use Rattle.kept_desk.proofs.keeping.keep_all.Given as goal

-- those before the next one are kept
abbrev pub invariant-loop-response : goal.invariant-loop-response
invariant-loop-response l =
    l.shelf ≡ keep_all l.fn.shelf l.machine l.handle (take l.response-index l.responses)
