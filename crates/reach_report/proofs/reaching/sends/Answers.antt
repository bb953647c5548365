use Rattle.std.proofs.Common.{◌∙◌}
use Rattle.policy_sites.specs.ByRule.{sends}
use Rattle.reach_report.proofs.reaching.sends.Goals as goal

pub returns : goal.returns
returns c =
    let r = c.args.rule.now in
    let site = c.args.from.now in
    record { value = c.sends.ensures.value r site ∙ (λ i. sends c.args.x.now.groups (c.requires.rule_is r i) (c.requires.site_is site i)) }
