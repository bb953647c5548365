use Rattle.std.proofs.Common.{◌≡◌, ◌++◌, drop}
use Rattle.peer_view.proofs.shown_rows.add_all.Given as goal

abbrev pub invariant-loop-net : goal.invariant-loop-net
invariant-loop-net l = l.out ++ drop l.net-index l.more ≡ l.fn.out ++ l.more
