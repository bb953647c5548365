use Rattle.std.proofs.Common.{◌≡◌, ◌++◌, drop, map}
use Rattle.policy_doc.specs.Grants.{rule_of_flow}
use Rattle.policy_doc.proofs.grants.add_rules.Given as goal

-- the rules so far, and those of what is left
abbrev pub invariant-loop-flow : goal.invariant-loop-flow
invariant-loop-flow l = l.rules ++ map (rule_of_flow l.sources l.tos) (drop l.flow-index l.flows) ≡ l.fn.rules ++ map (rule_of_flow l.sources l.tos) l.flows
