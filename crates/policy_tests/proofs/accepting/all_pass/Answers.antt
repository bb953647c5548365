use Rattle.std.proofs.Common.{◌≡◌, ◌∙◌, false, true, rules}
use Rattle.policy_tests.proofs.PairLemmas.{source_fails, source_passes}
use Rattle.policy_tests.proofs.accepting.all_pass.Goals as goal

pub returns-then-not-branch : goal.returns-then-not-branch
returns-then-not-branch c =
    let fails : c.in_ok-reaches_all.field-0 ≡ false = search rules in
    record {
      value = source_fails c.args.x.now c.args.proto c.args.port c.args.sources.now c.args.dests.now c.loop-source.source-index c.source-item.result _ _ c.in_ok-reaches_all.field-0 _ c.loop-source-test.true
          c.source-item.is c.in_ok-reaches_all.ensures.value
          (c.as_slice.ensures.value ∙ c.in_ok-own.ensures.value, c.as_slice-in-loop-source.ensures.value ∙ c.in_ok-targets.ensures.value) fails c.loop-source.invariant;
    }

pub loop-source-preserved : goal.loop-source-preserved
loop-source-preserved c =
    let holds : c.in_ok-reaches_all.field-0 ≡ true = search rules in
    source_passes c.args.x.now c.args.proto c.args.port c.args.sources.now c.args.dests.now c.loop-source.source-index c.source-item.result _ _ c.in_ok-reaches_all.field-0 _ c.loop-source-test.true
    c.source-item.is c.in_ok-reaches_all.ensures.value
    (c.as_slice.ensures.value ∙ c.in_ok-own.ensures.value, c.as_slice-in-loop-source.ensures.value ∙ c.in_ok-targets.ensures.value) holds c.loop-source.invariant
