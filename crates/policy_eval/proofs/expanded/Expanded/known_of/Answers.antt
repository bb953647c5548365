use Rattle.policy_eval.proofs.FitLemmas.{fit_moved, rule_fits, rule_inside}
use Rattle.policy_eval.proofs.expanded.Expanded.known_of.Goals as goal

pub sets_of-requires : goal.sets_of-requires
sets_of-requires c =
    let fit = fit_moved _ c.args.self.now c.self.inside.covers _ c.as_slice.result.now c.self.invariant c.self.view_is c.as_slice.ensures.value in
    record { inside = rule_inside c.args.self.now c.self.inside.covers c.as_slice.result.now c.args.rule fit c.requires.inside }

pub returns : goal.returns
returns c =
    let fit = fit_moved _ c.args.self.now c.self.inside.covers _ c.as_slice.result.now c.self.invariant c.self.view_is c.as_slice.ensures.value in
    let fits = rule_fits c.args.self.now c.self.inside.covers c.as_slice.result.now c.args.rule c.sets_of.result.now fit c.requires.inside c.sets_of.ensures.value in
    record { sources = λ d. (fits d).sources; sends = λ d. (fits d).sends; takes = λ d. (fits d).takes }
