use Rattle.std.proofs.Common.{◌≡◌, ◌∙◌, ap, sym}
use Rattle.std.specs.Option.{option_copied}
use Rattle.std.specs.Prelude.{Some, slice_get}
use Rattle.policy_sites.specs.ByRule.{covers_site, takes}
use Rattle.policy_tests.proofs.SideLemmas.{fails_before, passes_behind}
use Rattle.policy_tests.proofs.denying.place_takes.Goals as goal

pub returns-then-takes : goal.returns-then-takes
returns-then-takes c =
    let x = c.args.r.now.x.now in
    let there : slice_get x.sites c.args.place ≡ Some c.in-Some.site.now = sym c.machine_at.ensures.value ∙ ap option_copied c.in-Some.is in
    let covers = c.covers_site.ensures.value ∙ ap (λ g. covers_site g c.in-Some.site.now c.args.entry.now.to) c.groups.ensures.value in
    record {
      value = passes_behind x.rules x.sites c.args.r.now.at c.args.place c.args.r.now.rule.now c.in-Some.site.now (takes x.groups) (λ m. covers_site x.groups m c.args.entry.now.to) c.takes.result c.covers_site.result
          c.args.r.now.is there c.takes.ensures.value c.if-takes.true covers;
    }

pub returns-else-takes : goal.returns-else-takes
returns-else-takes c =
    let x = c.args.r.now.x.now in
    let there : slice_get x.sites c.args.place ≡ Some c.in-Some.site.now = sym c.machine_at.ensures.value ∙ ap option_copied c.in-Some.is in
    record {
      value = fails_before x.rules x.sites c.args.r.now.at c.args.place c.args.r.now.rule.now c.in-Some.site.now (takes x.groups) (λ m. covers_site x.groups m c.args.entry.now.to) c.takes.result
          c.args.r.now.is there c.takes.ensures.value c.if-takes.false;
    }
