-- Doors are opened, and the desk is served at them.
use Rattle.tailnet_serve.specs.Works.{door_told}
use Rattle.tailnet_serve.proofs.Served.{served_at}
use Rattle.tailnet_serve.proofs.Sharing.{opened_first, places_first}
use Rattle.tailnet_serve.proofs.running.serve_with_outfits.Goals as goal

pub serve_at_doors-requires-clause-places : goal.serve_at_doors-requires-clause-places
serve_at_doors-requires-clause-places g c = λ κs lives.
    places_first (door_told g.D.Door.Door.coming g.D.Door.Door.finished g.D.Door.Door.number g.D.Door.Door.faults) _ _ c.in-Ok-open.ensures.opened c.in-Ok-open.ensures.untold

pub returns-in-Ok-open-clause-served : goal.returns-in-Ok-open-clause-served
returns-in-Ok-open-clause-served g c = λ start split.
    let at = door_told g.D.Door.Door.coming g.D.Door.Door.finished g.D.Door.Door.number g.D.Door.Door.faults in
    let opened = opened_first at _ _ c.in-Ok-open.ensures.opened c.in-Ok-open.ensures.fresh in
    served_at _ _ _ _ _ _ _ _ _ _ _ _ _ _ c.in-Ok-open.ensures.count (rw c.as_str.ensures.value at c.in-Ok-open.ensures.asked) c.open.ensures.later (c.serve_at_doors.ensures.served _ start opened split)
