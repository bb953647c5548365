use Rattle.std.proofs.Common.{◌≡◌, ◌+◌, drop}
use Rattle.net_addr.specs.MomentReads.{digit_count}
use Rattle.net_addr.proofs.stamp.digit_count.Given as goal

abbrev pub invariant-loop-b : goal.invariant-loop-b
invariant-loop-b l = record {
  counted : l.count ≡ l.b-index;
  rest : l.count + digit_count (drop l.b-index l.text) ≡ digit_count l.text;
}
