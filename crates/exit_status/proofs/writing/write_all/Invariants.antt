use Rattle.std.proofs.Common.{◌≡◌, ℕ, Bool, Option, List, length}
use Rattle.exit_status.specs.Pieces.{Wrote}
use Rattle.exit_status.proofs.writing.write_all.Given as goal

-- what is written from here on completes what is written in all
abbrev pub invariant-loop-rest : goal.invariant-loop-rest
invariant-loop-rest g l =
    let holds = g.O.Sink.holds in
    let faults = g.O.Sink.write_faults in
    record {
      wrote : (new : Option (List ℕ)) (now : ℕ) (failed : Bool) → Wrote (holds l.output) new (faults l.output) now l.rest failed → Wrote (holds l.fn.output) new (faults l.fn.output) now l.fn.bytes failed;
      besides : g.O.Sink.besides_held l.output ≡ g.O.Sink.besides_held l.fn.output;
    }

abbrev pub decreases-loop-rest : goal.decreases-loop-rest
decreases-loop-rest g l = length l.rest
