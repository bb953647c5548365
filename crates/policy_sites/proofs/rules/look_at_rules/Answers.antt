use Rattle.policy_sites.specs.Reach.{IsSoundRule}
use Rattle.policy_sites.proofs.ListLemmas.{told_all, told_more}
use Rattle.policy_sites.proofs.rules.look_at_rules.Goals as goal

pub loop-rule-preserved : goal.loop-rule-preserved
loop-rule-preserved c =
    told_more IsSoundRule c.args.rules.now c.loop-rule.rule-index c.rule-item.result c.loop-rule-test.true c.rule-item.is c.loop-rule.invariant c.look_at_rule.ensures.sound

pub returns : goal.returns
returns c = record { sound = told_all IsSoundRule c.args.rules.now c.loop-rule.rule-index c.loop-rule.auto.rule-index-end c.loop-rule-test.false c.loop-rule.invariant }
