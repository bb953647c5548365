use Rattle.std.proofs.Common.{ℕ, Option, List, Result}
use Rattle.connections.specs.Polled.{FurtherSent}
use Rattle.connections.specs.Tellings.{Giving, writing}
use Rattle.exit_status.specs.declared.closed.Closed.{Closed}
use Rattle.connections.proofs.polling.send_further.Given as goal

-- what is sent from here on completes what is sent in all
abbrev pub invariant-loop-left : goal.invariant-loop-left
invariant-loop-left g l =
    (words : ℕ → Option (List ℕ)) (word_faults : ℕ) (outcome : Result (Unit {0}) Closed) (new : Giving) (t : _) →
    let at = writing g.O.Sink.holds g.O.Sink.write_faults g.C.Clock.answer words word_faults in
    FurtherSent g.T.Turns.turn outcome l.machine l.handle l.left (at l.output l.clock) new l.turns t
    → FurtherSent g.T.Turns.turn outcome l.machine l.handle l.fn.more (at l.fn.output l.fn.clock) new l.fn.turns t

abbrev pub decreases-loop-left : goal.decreases-loop-left
decreases-loop-left g l = l.left
