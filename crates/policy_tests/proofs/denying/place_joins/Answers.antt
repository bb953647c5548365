use Rattle.std.proofs.Common.{◌≡◌, ◌∙◌, ap, sym}
use Rattle.std.specs.Option.{option_copied}
use Rattle.std.specs.Prelude.{Some, slice_get}
use Rattle.policy_sites.specs.ByRule.{sends}
use Rattle.policy_tests.specs.Sides.{joins_machine}
use Rattle.policy_tests.proofs.SideLemmas.{fails_before, passes_behind}
use Rattle.policy_tests.proofs.denying.place_joins.Goals as goal

pub returns-then-sends : goal.returns-then-sends
returns-then-sends c =
    let x = c.args.r.now.x.now in
    let there : slice_get x.sites c.args.place ≡ Some c.in-Some.site.now = sym c.machine_at.ensures.value ∙ ap option_copied c.in-Some.is in
    record {
      value = passes_behind x.rules x.sites c.args.r.now.at c.args.place c.args.r.now.rule.now c.in-Some.site.now (sends x.groups) (λ m. joins_machine m c.args.dests.now) c.sends.result c.joins_machine.result
          c.args.r.now.is there c.sends.ensures.value c.if-sends.true c.joins_machine.ensures.value;
    }

pub returns-else-sends : goal.returns-else-sends
returns-else-sends c =
    let x = c.args.r.now.x.now in
    let there : slice_get x.sites c.args.place ≡ Some c.in-Some.site.now = sym c.machine_at.ensures.value ∙ ap option_copied c.in-Some.is in
    record {
      value = fails_before x.rules x.sites c.args.r.now.at c.args.place c.args.r.now.rule.now c.in-Some.site.now (sends x.groups) (λ m. joins_machine m c.args.dests.now) c.sends.result
          c.args.r.now.is there c.sends.ensures.value c.if-sends.false;
    }
