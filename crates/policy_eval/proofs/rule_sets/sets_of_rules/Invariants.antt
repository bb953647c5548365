use Rattle.std.proofs.Common.{take}
use Rattle.policy_eval.specs.Covering.{IsGrown}
use Rattle.policy_eval.specs.Expansion.{AreMatched, RuleFits}
use Rattle.policy_eval.proofs.rule_sets.sets_of_rules.Given as goal

abbrev pub invariant-loop-rule : goal.invariant-loop-rule
invariant-loop-rule l =
    IsGrown l.fn.covers l.covers × AreMatched (RuleFits l.covers.groups l.covers.sites l.covers.list) (take l.rule-index l.rules) l.made
