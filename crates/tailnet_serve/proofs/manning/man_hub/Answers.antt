-- The workers of a hub have stopped: what they did is one history that they share.
use Rattle.std.proofs.Common.{◌∙◌, ap, arith, map, subst}
use Rattle.session_hub.specs.Seats.{SeatView}
use Rattle.tailnet_serve.specs.Crews.{AreJoined}
use Rattle.tailnet_serve.specs.Works.{door_told}
use Rattle.tailnet_serve.proofs.Closing.{map_map}
use Rattle.tailnet_serve.proofs.Crewing.{start_all}
use Rattle.tailnet_serve.proofs.Manned.{manned, ready, seated_length, set_up, stay}
use Rattle.tailnet_serve.proofs.Sharing.{both_of}
use Rattle.tailnet_serve.proofs.manning.man_hub.Goals as goal

pub put_to_work-workers-requires-clause-threads : goal.put_to_work-workers-requires-clause-threads
put_to_work-workers-requires-clause-threads g c = let e = seated_length _ _ _ _ c.seat_workers-workers.ensures.seated in omega (arith, e, c.requires.some)

pub put_to_work-workers-requires-clause-ready : goal.put_to_work-workers-requires-clause-ready
put_to_work-workers-requires-clause-ready g c = λ κs lives.
    ready g.D.Door.coming g.D.Door.finished g.D.Door.number g.D.Door.faults g.C.Clock.answer g.N.Entropy.word g.N.Entropy.faults
    _ _ _ _ _ c.seat_workers-workers.ensures.seated (ap (λ z. z.hub) c.requires.first) c.requires.places

pub join_workers-leaving-requires-clause-hub : goal.join_workers-leaving-requires-clause-hub
join_workers-leaving-requires-clause-hub g c =
    let sit = ready g.D.Door.coming g.D.Door.finished g.D.Door.number g.D.Door.faults g.C.Clock.answer g.N.Entropy.word g.N.Entropy.faults
    c.args.hub.view _ _ _ _ c.seat_workers-workers.ensures.seated (ap (λ z. z.hub) c.requires.first) c.requires.places in (
      ap (λ (z : SeatView). z.hub) (c.seat_workers-workers.ensures.same ∙ c.requires.first),
      stay g.D.Door.coming g.D.Door.finished g.D.Door.number g.D.Door.faults g.C.Clock.answer g.N.Entropy.word g.N.Entropy.faults
          c.args.front.now c.args.limits.now c.args.hub.view c.seat_workers-workers.result.items c.put_to_work-workers.result.items c.put_to_work-workers.ensures.same sit c.put_to_work-workers.ensures.worked,
    )

pub join_workers-leaving-requires-clause-room : goal.join_workers-leaving-requires-clause-room
join_workers-leaving-requires-clause-room g c =
    let e = seated_length _ _ _ _ c.seat_workers-workers.ensures.seated in
    (c.requires.room.0, omega (arith, c.put_to_work-workers.ensures.same, e, c.requires.room.1))

pub close-requires : goal.close-requires
close-requires g c = record {
  hub = start_all _ _ _ c.join_workers-leaving.ensures.joined ∙ ap (λ (z : SeatView). z.hub) (c.seat_workers-workers.ensures.same ∙ c.requires.first);
}

pub returns-clause-manned : goal.returns-clause-manned
returns-clause-manned g c = λ told start opened split.
    let at = door_told g.D.Door.coming g.D.Door.finished g.D.Door.number g.D.Door.faults in
    let vs = c.seat_workers-workers.result.items in
    let ws = c.put_to_work-workers.result.items in
    let left = c.join_workers-leaving in
    manned g.D.Door.coming g.D.Door.finished g.D.Door.number g.D.Door.faults g.C.Clock.answer g.N.Entropy.word g.N.Entropy.faults
    c.args.front.now c.args.limits.now told start c.args.hub.view c.args.first left.new.first vs ws _ c.requires.first
    left.result.failed left.result.starved _ _ _ _ (seated_length _ _ _ _ c.seat_workers-workers.ensures.seated)
    (set_up g.D.Door.coming g.D.Door.finished g.D.Door.number g.D.Door.faults g.C.Clock.answer g.N.Entropy.word g.N.Entropy.faults c.args.front.now c.args.limits.now told start c.args.first (ap (λ (z : SeatView). z.seen) c.requires.first) 0 _ _ vs c.seat_workers-workers.ensures.seated opened split)
    (both_of _ vs ws c.put_to_work-workers.ensures.same c.put_to_work-workers.ensures.worked)
    (subst (λ (z : SeatView). AreJoined z (map (λ w. w.seat) ws) left.new.first) c.seat_workers-workers.ensures.same left.ensures.joined)
    c.close.ensures.stands
    c.close.ensures.named
    left.ensures.failed
    left.ensures.starved
    (ap (map at) left.ensures.doors ∙ map_map (λ w. w.door) at ws)
    left.ensures.rose

pub returns-clause-safe : goal.returns-clause-safe
returns-clause-safe g c = c.close.ensures.safe
