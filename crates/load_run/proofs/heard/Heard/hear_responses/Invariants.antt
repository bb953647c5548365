use Rattle.std.proofs.Common.{◌≡◌, drop}
use Rattle.load_run.specs.Hearing as spec
use Rattle.load_run.proofs.heard.Heard.hear_responses.Given as goal

-- what is heard from here on completes what is heard in all
abbrev pub invariant-loop-response : goal.invariant-loop-response
invariant-loop-response l = spec.hear_responses l.self (drop l.response-index l.responses) ≡ spec.hear_responses l.fn.self l.responses
