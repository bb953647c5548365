use Rattle.std.proofs.Common.{◌≡◌, List, length}
use Rattle.tailnet_serve.specs.Visits.{Visit, is_any_starved}
use Rattle.tailnet_serve.specs.Works.{HasPlaces, IsWork, standing}
use Rattle.tailnet_serve.proofs.Visiting.{IsLeft}
use Rattle.tailnet_serve.proofs.working.serve_door.Given as goal

-- the connections so far were served, and whatever is done from here on follows them
abbrev pub invariant-loop : goal.invariant-loop
invariant-loop g l =
    let at = standing g.D.Door.coming g.D.Door.finished g.D.Door.number g.D.Door.faults g.C.Clock.answer g.N.Entropy.word g.N.Entropy.faults in
    record {
      hub : l.worker.seat.hub ≡ l.hub.view;
      places : HasPlaces (at l.worker).door;
      visits : List Visit;
      work : IsWork l.front l.limits visits (at l.fn.worker) (at l.worker);
      left : IsLeft l.limits.connections l.left (length visits);
      starved : l.starved ≡ is_any_starved visits;
    }
