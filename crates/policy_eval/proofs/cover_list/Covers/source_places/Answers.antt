use Rattle.policy_rows.specs.declared.selector.Selector.{Selector}
use Rattle.policy_eval.proofs.CoverLemmas.{places_more}
use Rattle.policy_eval.proofs.cover_list.Covers.source_places.Goals as goal

pub loop-selector-preserved : goal.loop-selector-preserved
loop-selector-preserved c =
    places_more (λ (s : Selector). s) c.args.self.now c.loop-selector.self c.place_of.new.self c.args.sources.now c.loop-selector.selector-index c.loop-selector.places c.push.new.self c.selector-item.result c.in_ok-place.place
    c.loop-selector-test.true c.selector-item.is c.loop-selector.invariant.0 c.place_of.ensures.grown c.loop-selector.invariant.1 c.in_ok-place.ensures.there c.in_ok-push.ensures.ok
