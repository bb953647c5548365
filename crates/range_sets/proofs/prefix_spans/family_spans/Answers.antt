use Rattle.range_sets.proofs.PrefixSpanLemmas.{family_more, sound_more}
use Rattle.range_sets.proofs.prefix_spans.family_spans.Goals as goal

pub loop-prefix-preserved : goal.loop-prefix-preserved
loop-prefix-preserved c = record {
  told = family_more c.args.v6 c.args.list.now c.loop-prefix.prefix-index c.loop-prefix.out.items _ c.prefix-item.result c.loop-prefix-test.true c.prefix-item.is c.loop-prefix.invariant.told c.in_ok-add_prefix.ensures.value;
  sound = sound_more c.args.v6 c.loop-prefix.out.items _ c.prefix-item.result c.in_ok-add_prefix.ensures.block c.in_ok-add_prefix.ensures.value c.loop-prefix.invariant.sound;
}
