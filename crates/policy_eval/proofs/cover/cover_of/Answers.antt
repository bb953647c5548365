use Rattle.std.proofs.Common.{◌∙◌, List, ap, rules}
use Rattle.net_addr.specs.Bits.{Block}
use Rattle.range_sets.specs.Sets.{some_holds}
use Rattle.policy_sites.specs.Covers.{covers}
use Rattle.policy_sites.specs.Ends.{end_at}
use Rattle.policy_eval.specs.Expansion.{IsSetOf}
use Rattle.policy_eval.proofs.CoverLemmas.{flags_fit, served_fit}
use Rattle.policy_eval.proofs.cover.cover_of.Goals as goal

pub returns : goal.returns
returns c =
    let set : IsSetOf c.in_ok-set.set (λ addr. covers c.args.groups.now c.args.selector.now (end_at c.args.sites.now addr)) = λ addr small. c.in_ok-set.ensures.held addr ∙ (ap (λ (ns : List Block). some_holds ns addr) c.as_slice.ensures.value ∙ c.in_ok-nets.ensures.held addr small) in
    let flags = flags_fit c.args.groups.now c.args.sites.now c.args.selector.now c.in_ok-set.set c.in_ok-flags.flags c.requires.distinct c.requires.sound set c.in_ok-flags.ensures.value in
    record {
      fits = record {
        own = search rules;
        nets = c.in_ok-nets.ensures.held;
        set = set;
        flags = flags;
        served = served_fit c.args.groups.now c.args.sites.now c.args.selector.now c.in_ok-flags.flags c.as_slice-2.result.now c.in_ok-served.served flags c.as_slice-2.ensures.value c.in_ok-served.ensures.indexed;
      };
    }
