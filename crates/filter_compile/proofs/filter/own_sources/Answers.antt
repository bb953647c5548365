use Rattle.std.proofs.Common.{◌∙◌, ◌&&◌, Bool, ap}
use Rattle.range_sets.specs.Sets.{has}
use Rattle.range_sets.proofs.CanonicalLemmas.{canonical_same}
use Rattle.policy_eval.specs.Expansion.{source_covers}
use Rattle.filter_compile.specs.Filters.{own_source_covers}
use Rattle.filter_compile.proofs.StepLemmas.{source_set_is}
use Rattle.filter_compile.proofs.filter.own_sources.Goals as goal

pub returns : goal.returns
returns c =
    let x = c.args.expanded.now in
    let m = c.args.machine.now in
    let r = c.args.rule.now in
    let covered = c.source_set-covered.result.now in
    let own = c.args.own.now in
    let cover = source_set_is x.groups x.sites x.rules c.args.at r covered c.requires.same c.source_set-covered.ensures.held in
    record {
      value = c.in_ok-prefixes.ensures.value
          ∙ canonical_same (λ addr. has covered addr && has own addr) (own_source_covers x.groups x.sites m r)
          (λ addr small. ap (λ (b : Bool). b && has own addr) (cover addr small)
          ∙ ap (λ (b : Bool). source_covers x.groups x.sites r addr && b) (c.requires.own addr));
    }
