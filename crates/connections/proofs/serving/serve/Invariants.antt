use Rattle.std.proofs.Common.{◌<◌, []}
use Rattle.connections.specs.Connection.{IsConnection, Told, told}
use Rattle.exit_status.specs.declared.closed.Closed.{Closed}
use Rattle.connections.proofs.serving.serve.Given as goal

-- what is served from here on completes what is served in all
abbrev pub invariant-loop-left : goal.invariant-loop-left
invariant-loop-left g l =
    let at = told g.I.Source.left g.I.Source.read_faults g.O.Sink.holds g.O.Sink.write_faults g.C.Clock.answer g.N.Entropy.word g.N.Entropy.faults in
    let now = at l.input l.output l.clock l.entropy in
    let first = at l.fn.input l.fn.output l.fn.clock l.fn.entropy in
    record {
      some : 0 < l.left;
      rest : (closed : Closed) (new : Told) (t : _) → IsConnection g.T.Turns.turn l.front l.more closed l.left l.buffer now new l.turns t → IsConnection g.T.Turns.turn l.front l.more closed l.fn.requests [] first new l.fn.turns t;
    }

abbrev pub decreases-loop-left : goal.decreases-loop-left
decreases-loop-left g l = l.left
