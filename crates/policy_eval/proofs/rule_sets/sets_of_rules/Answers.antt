use Rattle.policy_eval.proofs.FitLemmas.{rules_more}
use Rattle.policy_eval.proofs.rule_sets.sets_of_rules.Goals as goal

pub loop-rule-preserved : goal.loop-rule-preserved
loop-rule-preserved c =
    rules_more c.args.covers.now c.loop-rule.covers c.rule_sets.new.covers c.args.rules.now c.loop-rule.rule-index c.loop-rule.made c.push.new.self c.rule-item.result c.in_ok-sets.sets
    c.loop-rule-test.true c.rule-item.is c.loop-rule.invariant.0 c.rule_sets.ensures.grown c.loop-rule.invariant.1 c.in_ok-sets.ensures.fits c.in_ok-push.ensures.ok
