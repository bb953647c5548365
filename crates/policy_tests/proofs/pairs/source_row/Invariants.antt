use Rattle.std.proofs.Common.{◌≡◌, take}
use Rattle.std.specs.Prelude.{map}
use Rattle.policy_sites.specs.Grants.{some_source}
use Rattle.policy_tests.proofs.pairs.source_row.Given as goal

abbrev pub invariant-loop-rule : goal.invariant-loop-rule
invariant-loop-rule l = l.row ≡ map (λ r. some_source l.x.groups r l.end) (take l.rule-index l.x.rules)
