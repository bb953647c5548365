use Rattle.std.proofs.Common.{take}
use Rattle.policy_sites.specs.Reach.{AreSoundRules}
use Rattle.policy_sites.proofs.rules.look_at_rules.Given as goal

abbrev pub invariant-loop-rule : goal.invariant-loop-rule
invariant-loop-rule l = AreSoundRules (take l.rule-index l.rules)
