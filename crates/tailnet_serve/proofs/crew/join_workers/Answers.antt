-- One worker more was joined.
use Rattle.std.proofs.Common.{◌∙◌, ◌≡◌, ◌||◌, ◌++◌, ◌∷◌, [], Bool, true, false, ap, arith, length, map, refl, append_assoc}
use Rattle.tailnet_serve.specs.Crews.{has_any_starved, is_any_failed, is_door_fault}
use Rattle.std.specs.Vec.Iter.{into_iter_items}
use Rattle.tailnet_serve.proofs.Sharing.{all_tail, nil_of}
use Rattle.tailnet_serve.proofs.crew.join_workers.Goals as goal

or_assoc : (a b d : Bool) → ((a || b) || d) ≡ (a || (b || d))
or_assoc true b d = refl
or_assoc false b d = refl

pub loop-worker-preserved : goal.loop-worker-preserved
loop-worker-preserved g c =
    let inv = c.loop-worker.invariant in
    let items = c.in-Some.ensures.cases.0 in
    let rest = into_iter_items c.next.new.self in
    let joined = c.join.ensures.join in
    record {
      hub = (ap (λ z. z.hub) joined.new_is ∙ inv.hub.0, all_tail (λ w. w.seat.hub ≡ c.args.hub.now.view) _ _ (rw items at inv.hub.1));
      room = (omega (arith, inv.room.0, c.in-Some.ensures.cases.1, c.push_reserved.ensures.len), c.push_reserved.ensures.capacity ∙ inv.room.1);
      joined = λ t rest. inv.joined t (rw items (c.join.new.self, joined, rest));
      doors = ap (λ z. z ++ map (λ w. w.door) rest) c.push_reserved.ensures.items ∙ append_assoc c.loop-worker.doors.items (c.in-Some.worker.door ∷ []) (map (λ w. w.door) rest) ∙ (rw items at inv.doors);
      failed = ap (λ z. z || is_any_failed rest) c.has_failed-failed.ensures.value ∙ or_assoc c.loop-worker.failed (is_door_fault c.in-Some.worker.report.stop) (is_any_failed rest) ∙ (rw items at inv.failed);
      starved = ap (λ z. z || has_any_starved rest) c.either-starved.ensures.value ∙ or_assoc c.loop-worker.starved c.in-Some.worker.report.starved (has_any_starved rest) ∙ (rw items at inv.starved);
      full = omega (arith, inv.full, c.in-Some.ensures.cases.1, ap length c.in-Some.ensures.cases.0);
      rose = λ n rose. inv.rose n (rw items (omega (arith, rose, c.join-in-Some.ensures.faults)));
      same = λ k. c.join-in-Some.ensures.same k ∙ inv.same k;
      later = omega (arith, inv.later, c.join-in-Some.ensures.later);
    }

pub join-requires : goal.join-requires
join-requires g c = record { hub = (c.loop-worker.invariant.hub.0, (rw c.in-Some.ensures.cases.0 at c.loop-worker.invariant.hub.1) 0 c.in-Some.worker (omega arith)) }

pub returns-clause-rose : goal.returns-clause-rose
returns-clause-rose g c =
    let none : into_iter_items c.loop-worker.workers ≡ [] = nil_of (into_iter_items c.loop-worker.workers) (omega (arith, c.loop-worker.invariant.full, c.in_default.ensures.cases.0)) in
    c.loop-worker.invariant.rose (g.N.Entropy.faults c.loop-worker.entropy) (rw none (omega arith))
