-- The workers of a hub have stopped, or there was no memory for one.
use Rattle.std.proofs.Common.{◌∙◌, ◌≤◌, ap, arith, subst, sym, map, sum_by}
use Rattle.io_edge.specs.Door.{IsToldOfEach}
use Rattle.io_edge.specs.Edge.{StillTells}
use Rattle.tailnet_desk.specs.Crashes.{IsSafeDesk}
use Rattle.tailnet_desk.proofs.SafeStores.{desk_closed, store_handed}
use Rattle.tailnet_commands.proofs.RunLemmas.{where_still}
use Rattle.tailnet_serve.specs.Works.{DoorTold, door_told}
use Rattle.tailnet_serve.proofs.Closing.{failed_sum, map_map, rose_by_one, sum_map}
use Rattle.tailnet_serve.proofs.running.serve_at_doors.Goals as goal

pub returns-in-Ok-clause-served : goal.returns-in-Ok-clause-served
returns-in-Ok-clause-served g c = λ told start opened split.
    let at = door_told g.D.Door.Door.coming g.D.Door.Door.finished g.D.Door.Door.number g.D.Door.Door.faults in
    let left = c.man_hub-desk.result.1.doors.items in
    let m = c.man_hub-desk.ensures.manned told start opened split in
    record {
      hub = c.in-Ok.hub.view;
      starts = c.in-Ok.ensures.start;
      left = map at left;
      final = _;
      manned = m;
      rows = where_still _ _ (g.P.Opener.told c.close-in-Ok-2.new.self) c.close-in-Ok-2.ensures.told c.close-in-Ok.ensures.told;
      given_back = subst (λ k. StillTells (g.P.Keeper.Keeper.told k) (g.P.Opener.told c.close-in-Ok-2.new.self)) c.close-in-Ok.ensures.value c.close-in-Ok-2.ensures.told;
      asked = c.close-in-Ok-2.ensures.asked;
      rose = omega (arith, c.close-in-Ok-2.ensures.faults, ap g.P.Keeper.Keeper.faults c.close-in-Ok.ensures.value);
      doors_left = subst (λ z. IsToldOfEach z (g.D.Doors.coming c.close.new.self)) (sym (map_map at (λ (d : DoorTold). d.coming) left)) c.close.ensures.coming;
      doors_finished = subst (λ z. IsToldOfEach z (g.D.Doors.finished c.close.new.self)) (sym (map_map at (λ (d : DoorTold). d.finished) left)) c.close.ensures.finished;
      doors_asked = c.close.ensures.asked;
      doors_later = λ f. rose_by_one _ _ _ c.close.ensures.faults
          (subst (λ n. 1 ≤ n) (sym (ap (sum_by (λ (d : DoorTold). d.faults)) m.left_is) ∙ sum_map at (λ (d : DoorTold). d.faults) left) (failed_sum _ _ told start _ 0 m.shifts m.shared.each (sym m.failed_is ∙ f)));
    }

pub returns-in-Ok-clause-safe : goal.returns-in-Ok-clause-safe
returns-in-Ok-clause-safe g c = λ safe.
    let p = g.P.Opener in
    let k = g.P.Keeper.Keeper in
    store_handed k.told k.is_clean k.may_leave p.told p.is_clean p.may_leave c.close-in-Ok.result c.close-in-Ok-2.new.self c.close-in-Ok-2.ensures.told c.close-in-Ok-2.ensures.crash
    (desk_closed k.told k.is_clean k.may_leave c.man_hub-desk.result.0 c.close-in-Ok.result c.close-in-Ok.ensures.value c.close-in-Ok.ensures.told
    (c.man_hub-desk.ensures.safe (subst (IsSafeDesk k.told k.is_clean k.may_leave) (sym c.in-Ok.ensures.desk) safe)))

pub returns-in-Err-clause-safe : goal.returns-in-Err-clause-safe
returns-in-Err-clause-safe g c = λ safe.
    let k = g.P.Keeper.Keeper in
    c.close_unserved.ensures.safe (subst (IsSafeDesk k.told k.is_clean k.may_leave) (sym c.in-Err.ensures.kept) safe)
