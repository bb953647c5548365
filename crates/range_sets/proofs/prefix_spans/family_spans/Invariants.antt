use Rattle.std.proofs.Common.{take}
use Rattle.std.proofs.Common.{◌≡◌}
use Rattle.net_addr.specs.Bits.{family_size}
use Rattle.range_sets.specs.Sets.{family_spans}
use Rattle.range_sets.specs.Spans.{AreSound}
use Rattle.range_sets.proofs.prefix_spans.family_spans.Given as goal

abbrev pub invariant-loop-prefix : goal.invariant-loop-prefix
invariant-loop-prefix l = record {
  told : l.out.items ≡ family_spans l.v6 (take l.prefix-index l.list);
  sound : AreSound (family_size l.v6) l.out.items;
}
