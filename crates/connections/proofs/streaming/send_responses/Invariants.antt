use Rattle.std.proofs.Common.{ℕ, Option, List, Result, drop, take}
use Rattle.exit_status.specs.Pieces.{Sent}
use Rattle.exit_status.specs.declared.closed.Closed.{Closed}
use Rattle.connections.specs.Carried.{AreSized}
use Rattle.connections.specs.Polls.{chunks_for}
use Rattle.connections.proofs.streaming.send_responses.Given as goal

-- what is sent from here on completes what is sent in all
abbrev pub invariant-loop-response : goal.invariant-loop-response
invariant-loop-response g l =
    let holds = g.O.Sink.holds in
    let faults = g.O.Sink.write_faults in
    record {
      sent : (outcome : Result (Unit {0}) Closed) (new : Option (List ℕ)) (now : ℕ) → Sent outcome (holds l.output) new (faults l.output) now (chunks_for (drop l.response-index l.responses))
          → Sent outcome (holds l.fn.output) new (faults l.fn.output) now (chunks_for l.responses);
      sized : AreSized (take l.response-index l.responses);
    }
