use Rattle.std.proofs.Common.{◌∙◌, List, ap}
use Rattle.net_addr.specs.Bits.{Block}
use Rattle.range_sets.specs.Sets.{some_holds}
use Rattle.policy_eval.proofs.CoverLemmas.{sources_held}
use Rattle.policy_eval.proofs.rule_sets.source_set.Goals as goal

pub returns : goal.returns
returns c = record {
  held = λ addr small. c.in_ok-set.ensures.held addr ∙ (ap (λ (ns : List Block). some_holds ns addr) c.as_slice.ensures.value
      ∙ (c.in_ok-nets.ensures.held addr
      ∙ sources_held c.args.covers.now.groups c.args.covers.now.sites c.args.covers.now.list c.list.result.now c.args.rule.now c.args.places.now addr small c.list.ensures.value c.requires.matched));
}
