-- Connections are served one after another, until the worker stops.
use Rattle.std.proofs.Common.{◌∙◌, arith, refl, sym, [], ◌∷◌, ◌++◌, ◌||◌}
use Rattle.tailnet_serve.specs.Visits.{is_starved}
use Rattle.tailnet_serve.proofs.Stopping.{left_first, left_then, same_hub, starved_snoc, worked_failed, worked_full, worked_over}
use Rattle.tailnet_serve.proofs.Visiting.{work_append, work_none}
use Rattle.tailnet_serve.proofs.working.serve_door.Goals as goal

pub loop-init : goal.loop-init
loop-init g c = record {
  hub = c.requires.hub;
  places = c.requires.places;
  visits = [];
  work = work_none c.args.front.now c.args.limits.now _ _ refl refl refl refl refl (omega arith);
  left = left_first c.args.limits.now.connections;
  starved = refl;
}

pub loop-preserved : goal.loop-preserved
loop-preserved g c =
    let inv = c.loop.invariant in
    let taken = c.in-Served.ensures.taken in
    let v = taken.0 in
    record {
      hub = same_hub c.args.hub.now.view _ _ _ taken.2.run inv.hub;
      places = taken.2.places inv.places;
      visits = inv.visits ++ v ∷ [];
      work = work_append c.args.front.now c.args.limits.now inv.visits (v ∷ []) _ _ _ inv.work taken.2;
      left = left_then c.args.limits.now.connections c.loop.left _ inv.visits v c.saturating_sub-left.ensures c.if-left-eq1.false inv.left;
      starved = c.is_any_starved-starved.ensures.value ∙ (λ i. inv.starved i || is_starved (sym taken.1 i)) ∙ sym (starved_snoc inv.visits v);
    }

pub returns-in-Over : goal.returns-in-Over
returns-in-Over g c =
    let inv = c.loop.invariant in
    let taken = c.in-Over.ensures.taken in
    record { worked = worked_over c.args.front.now c.args.limits.now _ _ _ inv.visits c.loop.left c.loop.starved inv.work inv.left inv.starved taken.0 taken.1 }

pub returns-in-DoorFault : goal.returns-in-DoorFault
returns-in-DoorFault g c =
    let inv = c.loop.invariant in
    let taken = c.in-DoorFault.ensures.taken in
    record { worked = worked_failed c.args.front.now c.args.limits.now _ _ _ inv.visits c.loop.left c.loop.starved inv.work inv.left inv.starved taken.0 taken.1 }

pub returns-then-left-eq1 : goal.returns-then-left-eq1
returns-then-left-eq1 g c =
    let inv = c.loop.invariant in
    let taken = c.in-Served.ensures.taken in
    record { worked = worked_full c.args.front.now c.args.limits.now _ _ _ inv.visits c.loop.left c.loop.starved inv.work inv.left inv.starved taken.0 c.in-Served.closed _ taken.1 c.is_any_starved-starved.ensures.value c.if-left-eq1.true taken.2 }
