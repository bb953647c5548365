use Rattle.std.proofs.Common.{subst}
use Rattle.policy_eval.specs.Expansion.{Expansion}
use Rattle.policy_sites.specs.Reach.{AreSoundRules}
use Rattle.policy_eval.proofs.expanded.Expanded.rules.Goals as goal

pub returns-clause-sound : goal.returns-clause-sound
returns-clause-sound c = subst (λ (x : Expansion). AreSoundRules x.rules) c.self.view_is c.self.invariant.sound
