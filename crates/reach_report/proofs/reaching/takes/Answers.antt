use Rattle.std.proofs.Common.{◌∙◌}
use Rattle.policy_sites.specs.ByRule.{takes}
use Rattle.reach_report.proofs.reaching.takes.Goals as goal

pub returns : goal.returns
returns c =
    let r = c.args.rule.now in
    let site = c.args.to.now in
    record { value = c.takes.ensures.value r site ∙ (λ i. takes c.args.x.now.groups (c.requires.rule_is r i) (c.requires.site_is site i)) }
