use Rattle.std.proofs.Common.{◌∙◌, ap}
use Rattle.std.specs.Prelude.{Option}
use Rattle.policy_rows.specs.declared.policy.Policy.{Policy}
use Rattle.policy_eval.specs.Expansion.{expansion_of}
use Rattle.policy_eval.proofs.ForceLemmas.{made_of_policy}
use Rattle.policy_eval.proofs.in_force.InForce.expand.Goals as goal

pub invariant_of-self : goal.invariant_of-self
invariant_of-self c =
    let rows = c.args.tables.now.rows in
    let live = c.args.live.now in
    made_of_policy c.self.inside.policy rows live c.in_ok-made.made (c.in_ok-made.ensures.value ∙ ap (λ (p : Option Policy). expansion_of p rows live) c.as_ref.ensures.value)
