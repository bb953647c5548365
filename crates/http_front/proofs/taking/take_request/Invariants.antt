use Rattle.std.proofs.Common.{◌≡◌, ℕ, ◌-◌, ◌≤◌, ◌⊎◌, List, [], ◌++◌, length}
use Rattle.io_edge.specs.Edge.{and_then_left}
use Rattle.http_front.specs.Looks.{most}
use Rattle.http_front.specs.Taking.{IsIdle, IsNeeded, WantsMore}
use Rattle.http_front.proofs.taking.take_request.Given as goal

abbrev pub invariant-loop-request : goal.invariant-loop-request
invariant-loop-request g l = record {
  read : List ℕ;
  moved : g.I.Source.left l.fn.input ≡ and_then_left read (g.I.Source.left l.input);
  held : l.buffer ≡ l.fn.buffer ++ read;
  needed : IsNeeded l.fn.buffer read;
  idle : ((read ≡ []) × IsIdle (g.I.Source.left l.fn.input) (g.I.Source.left l.input) (g.I.Source.read_faults l.fn.input) (g.I.Source.read_faults l.input)) ⊎ WantsMore l.fn.buffer;
  later : g.I.Source.read_faults l.fn.input ≤ g.I.Source.read_faults l.input;
}

abbrev pub decreases-loop-request : goal.decreases-loop-request
decreases-loop-request g l = most - length l.buffer
