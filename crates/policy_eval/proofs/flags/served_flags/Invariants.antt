use Rattle.policy_eval.specs.Covering.{AreIndexed, served_at}
use Rattle.policy_eval.proofs.flags.served_flags.Given as goal

abbrev pub invariant-loop-at : goal.invariant-loop-at
invariant-loop-at l = AreIndexed (served_at l.flags l.sites l.selector) l.at l.served
