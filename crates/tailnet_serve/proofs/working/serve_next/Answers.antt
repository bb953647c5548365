-- A connection that is taken is served and given back.
use Rattle.std.proofs.Common.{◌∙◌, Ok, ap, arith, refl}
use Rattle.tailnet_serve.proofs.Visiting.{has_room_still, work_none, work_once}
use Rattle.tailnet_serve.proofs.working.serve_next.Goals as goal

pub finish-requires : goal.finish-requires
finish-requires g c =
    let took = c.in-Ok-Some.ensures in
    let some = rw c.in-Ok-Some.field-0-is at took.some in
    record { room = has_room_still _ _ _ _ _ _ _ _ 0 some took.finished took.number c.requires.places }

pub returns-in-Ok-Some : goal.returns-in-Ok-Some
returns-in-Ok-Some g c =
    let took = c.in-Ok-Some.ensures in
    let some = rw c.in-Ok-Some.field-0-is at took.some in
    let fresh = rw c.in-Ok-Some.field-0-is at took.fresh in
    let given = c.finish.ensures in
    record {
      taken = (
        _,
        refl,
        work_once c.args.front.now c.args.limits.now c.serve_seat-closed.result _ _ _ _ _ _ c.serve_seat-closed.ensures.serves refl refl some fresh.0 fresh.1
            given.coming given.finished took.finished (given.number ∙ took.number) (omega (arith, given.faults, took.cause.later)),
      );
    }

pub returns-in-Ok-None : goal.returns-in-Ok-None
returns-in-Ok-None g c =
    let took = c.in-Ok-None.ensures in
    let none = took.none (ap (λ z. Ok z) c.in-Ok-None.field-0-is) in
    record {
      taken = (work_none c.args.front.now c.args.limits.now _ _ refl refl none.1 took.finished took.number took.cause.later, (rw none.1 none.0));
    }

pub returns-in-Err : goal.returns-in-Err
returns-in-Err g c =
    let took = c.in-Err.ensures in
    record {
      taken = (work_none c.args.front.now c.args.limits.now _ _ refl refl took.err took.finished took.number took.cause.later, took.cause.rose refl);
    }
