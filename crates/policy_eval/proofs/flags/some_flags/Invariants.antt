use Rattle.policy_eval.specs.Covering.{AreIndexed, some_flag}
use Rattle.policy_eval.proofs.flags.some_flags.Given as goal

abbrev pub invariant-loop-at : goal.invariant-loop-at
invariant-loop-at l = AreIndexed (some_flag l.served l.covers l.places) l.at l.flags
