use Rattle.std.specs.Prelude.{Option}
use Rattle.policy_rows.specs.declared.policy.Policy.{Policy}
use Rattle.policy_sites.specs.Fitting.{AreApproved}
use Rattle.policy_sites.proofs.FittingLemmas.{AreUpTo}
use Rattle.policy_sites.proofs.fitting.are_sites_of.Given as goal

abbrev pub invariant-loop-machine : goal.invariant-loop-machine
invariant-loop-machine l =
    (policy : Option Policy) → AreApproved policy l.fn.sites → AreUpTo policy l.tables.rows.users l.live l.machines l.machine-index l.fn.sites l.rest
