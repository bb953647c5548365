use Rattle.std.proofs.Common.{◌≡◌, ℕ, ◌-◌, ◌≤◌, List, ◌++◌, length, vec_len}
use Rattle.io_edge.specs.Edge.{and_then_left}
use Rattle.http_client.specs.Taking.{answer_most}
use Rattle.http_client.proofs.reading.read_answer.Given as goal

abbrev pub invariant-loop-answer : goal.invariant-loop-answer
invariant-loop-answer g l = record {
  read : List ℕ;
  room : vec_len l.headers ≡ 5461;
  moved : g.I.Source.left l.fn.input ≡ and_then_left read (g.I.Source.left l.input);
  held : l.buffer ≡ l.fn.buffer ++ read;
  later : g.I.Source.read_faults l.fn.input ≤ g.I.Source.read_faults l.input;
  besides : g.I.Source.besides_left l.input ≡ g.I.Source.besides_left l.fn.input;
}

abbrev pub decreases-loop-answer : goal.decreases-loop-answer
decreases-loop-answer g l = answer_most - length l.buffer
