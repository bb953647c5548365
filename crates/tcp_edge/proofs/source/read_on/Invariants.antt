use Rattle.tcp_edge.proofs.source.read_on.Given as goal

abbrev pub decreases-loop-left : goal.decreases-loop-left
decreases-loop-left g l = l.left
