use Rattle.std.proofs.Common.{List, sym, subst}
use Rattle.tailcfg.specs.declared.filter.FilterRule.{FilterRule}
use Rattle.filter_compile.specs.Admits.{AdmitsGranted}
use Rattle.filter_compile.specs.Filters.{rule_filter}
use Rattle.filter_compile.proofs.RuleLemmas.{filter_admits}
use Rattle.filter_compile.proofs.StepLemmas.{flat_end}
use Rattle.filter_compile.proofs.filter.filter_for.Goals as goal

pub returns-clause-exact : goal.returns-clause-exact
returns-clause-exact c =
    let x = c.args.expanded.now in
    let m = c.args.machine.now in
    let done = flat_end (rule_filter x.groups x.sites m) x.rules c.rules-rules.result.now c.loop-at.at c.loop-at.out _ c.rules-rules.ensures.value c.loop-at-test.false c.loop-at.invariant in
    subst (λ (filter : List FilterRule). AdmitsGranted x m filter) (sym done) (filter_admits x.groups x.rules x.sites m c.sites.ensures.distinct c.sites.ensures.apart c.rules-rules.ensures.sound c.requires.among)
