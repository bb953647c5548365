use Rattle.policy_rows.specs.declared.dest.Dest.{Dest}
use Rattle.policy_eval.proofs.CoverLemmas.{places_more}
use Rattle.policy_eval.proofs.cover_list.Covers.dest_places.Goals as goal

pub loop-entry-preserved : goal.loop-entry-preserved
loop-entry-preserved c =
    places_more (λ (e : Dest). e.to) c.args.self.now c.loop-entry.self c.place_of.new.self c.args.entries.now c.loop-entry.entry-index c.loop-entry.places c.push.new.self c.entry-item.result c.in_ok-place.place
    c.loop-entry-test.true c.entry-item.is c.loop-entry.invariant.0 c.place_of.ensures.grown c.loop-entry.invariant.1 c.in_ok-place.ensures.there c.in_ok-push.ensures.ok
