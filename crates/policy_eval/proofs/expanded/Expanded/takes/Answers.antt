use Rattle.std.proofs.Common.{◌∙◌, Bool, List, ap, sym}
use Rattle.std.specs.Prelude.{slice_index_or}
use Rattle.policy_sites.specs.ByRule.{takes}
use Rattle.policy_eval.specs.Covering.{flag_at}
use Rattle.policy_eval.proofs.FitLemmas.{flag_is}
use Rattle.policy_eval.proofs.expanded.Expanded.takes.Goals as goal

pub returns : goal.returns
returns c =
    let x = c.args.self.now in
    record {
      value = λ r s. c.flag_at.ensures.value ∙ (ap (λ (flags : List Bool). flag_at flags c.args.site) c.as_slice.ensures.value
          ∙ sym (flag_is (takes x.groups (slice_index_or x.rules c.args.rule r)) x.sites c.known_of.result.now.takes c.args.site s (c.known_of.ensures.takes r) c.requires.site_inside));
    }
