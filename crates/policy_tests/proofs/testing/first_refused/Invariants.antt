use Rattle.std.proofs.Common.{◌≡◌, not, drop}
use Rattle.std.specs.List.{position_from}
use Rattle.policy_tests.specs.Trials.{accepted_by}
use Rattle.policy_tests.proofs.testing.first_refused.Given as goal

-- the first of the entries to come is the first of all
abbrev pub invariant-loop-at : goal.invariant-loop-at
invariant-loop-at l =
    position_from (λ e. not (accepted_by l.x.groups l.x.rules l.x.sites l.test e)) l.at (drop l.at l.test.accept)
    ≡ position_from (λ e. not (accepted_by l.x.groups l.x.rules l.x.sites l.test e)) 0 l.test.accept
