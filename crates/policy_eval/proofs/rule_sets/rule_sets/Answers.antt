use Rattle.policy_eval.proofs.CoverLemmas.{sources_kept}
use Rattle.policy_eval.proofs.rule_sets.rule_sets.Goals as goal

pub sets_at-requires-clause-sources : goal.sets_at-requires-clause-sources
sets_at-requires-clause-sources c =
    sources_kept c.source_places.new.self c.dest_places.new.self c.args.rule.now.sources c.as_slice.result.now c.in_ok-sources.sources c.as_slice.ensures.value
    c.dest_places.ensures.grown c.in_ok-sources.ensures.matched
