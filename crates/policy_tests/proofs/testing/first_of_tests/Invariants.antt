use Rattle.std.proofs.Common.{◌≡◌, drop}
use Rattle.policy_tests.specs.Tests.{failure_from}
use Rattle.policy_tests.specs.Trials.{accepted_by, denied_by}
use Rattle.policy_tests.proofs.testing.first_of_tests.Given as goal

-- the first failure of the tests to come is that of all
abbrev pub invariant-loop-at : goal.invariant-loop-at
invariant-loop-at l =
    failure_from (accepted_by l.x.groups l.x.rules l.x.sites) (denied_by l.x.groups l.x.rules l.x.sites) l.at (drop l.at l.tests)
    ≡ failure_from (accepted_by l.x.groups l.x.rules l.x.sites) (denied_by l.x.groups l.x.rules l.x.sites) 0 l.tests
