use Rattle.std.proofs.Common.{◌≡◌, ◌++◌, List, false, rules, sym, ap, ◌∙◌}
use Rattle.std.proofs.lemmas.List.{append-nil}
use Rattle.policy_sites.specs.ByRule.{has_own_devices}
use Rattle.tailcfg.specs.declared.filter.FilterRule.{FilterRule}
use Rattle.filter_compile.proofs.TakeLemmas.{own_rule_none}
use Rattle.filter_compile.proofs.filter.add_own_rule.Goals as goal

pub returns-then-not-has_own_devices : goal.returns-then-not-has_own_devices
returns-then-not-has_own_devices c =
    let x = c.args.expanded.now in
    let none : has_own_devices c.args.rule.now ≡ false = search rules in
    record { ok = sym (append-nil c.args.out.now) ∙ ap (λ (more : List FilterRule). c.args.out.now ++ more) (own_rule_none x.groups x.sites c.args.machine.now c.args.rule.now none) }
