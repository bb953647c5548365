use Rattle.std.proofs.Common.{◌∙◌, List, ap, if◌then◌else◌}
use Rattle.std.specs.List.{list_any}
use Rattle.net_addr.specs.Bits.{Block}
use Rattle.range_sets.specs.Sets.{has}
use Rattle.range_sets.proofs.CanonicalLemmas.{canonical_same}
use Rattle.tailcfg.specs.declared.filter.Sources.TheVariants.{Any, Only}
use Rattle.policy_eval.specs.Expansion.{source_covers}
use Rattle.filter_compile.specs.Parts.{is_all}
use Rattle.filter_compile.proofs.StepLemmas.{source_set_is}
use Rattle.filter_compile.proofs.filter.sources_of.Goals as goal

pub returns : goal.returns
returns c =
    let x = c.args.expanded.now in
    let r = c.args.rule.now in
    let covered = c.source_set-covered.result.now in
    let cover = source_set_is x.groups x.sites x.rules c.args.at r covered c.requires.same c.source_set-covered.ensures.held in
    record {
      value = c.in_ok-sources.ensures.value
          ∙ ap (λ (ps : List Block). if list_any is_all r.sources then Any else Only ps) (canonical_same (has covered) (source_covers x.groups x.sites r) cover);
    }
