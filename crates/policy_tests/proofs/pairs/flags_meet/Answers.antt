use Rattle.std.proofs.Common.{◌≡◌, ◌<◌, arith, false, length, rules, sym, ◌∙◌}
use Rattle.policy_tests.proofs.PairLemmas.{meets_end, meets_here, meets_more}
use Rattle.policy_tests.proofs.pairs.flags_meet.Goals as goal

pub returns-then-at-b : goal.returns-then-at-b
returns-then-at-b c =
    let end : c.loop-at.at ≡ length c.args.b.now = search rules in
    record { value = sym (meets_end c.args.a.now c.args.b.now c.loop-at.at end) ∙ c.loop-at.invariant.rest }

pub returns-then-both_set : goal.returns-then-both_set
returns-then-both_set c =
    let inside : c.loop-at.at < length c.args.b.now = search rules in
    record { value = meets_here c.args.a.now c.args.b.now c.loop-at.at false false c.both_set.result _ c.loop-at-test.true inside (c.both_set.ensures.value false) c.if-both_set.true c.loop-at.invariant.rest }

pub loop-at-preserved : goal.loop-at-preserved
loop-at-preserved c =
    let inside : c.loop-at.at < length c.args.b.now = search rules in
    record {
      within = omega (arith, inside);
      rest = meets_more c.args.a.now c.args.b.now c.loop-at.at false false c.both_set.result _ c.loop-at-test.true inside (c.both_set.ensures.value false) c.if-both_set.false c.loop-at.invariant.rest;
    }
