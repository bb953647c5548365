-- One worker more is seated.
use Rattle.std.specs.Vec.Iter.{into_iter_items}
use Rattle.std.proofs.Common.{◌∙◌, ◌≡◌, ◌∷◌, ◌++◌, [], ap, arith, length, sym, subst, append_assoc}
use Rattle.std.proofs.lemmas.List.{append-nil}
use Rattle.session_hub.specs.Seats.{IsSplit, SeatView}
use Rattle.tailnet_serve.specs.Crews.{AreSeated}
use Rattle.tailnet_serve.proofs.Sharing.{nil_of}
use Rattle.tailnet_serve.proofs.crew.seat_workers.Goals as goal

pub loop-door-preserved : goal.loop-door-preserved
loop-door-preserved g c =
    let inv = c.loop-door.invariant in
    let worker = c.seat_worker.result in
    let made = c.seat_worker.ensures in
    record {
      same = made.same ∙ inv.same;
      alike = omega (arith, inv.alike, c.in-Some.ensures.cases.1, c.in-Some-next.ensures.cases.1);
      full = (omega (arith, inv.full.0, c.in-Some.ensures.cases.1, ap length c.in-Some.ensures.cases.0), omega (arith, inv.full.1, c.in-Some-next.ensures.cases.1, ap length c.in-Some-next.ensures.cases.0));
      room = omega (arith, inv.room, c.in-Some.ensures.cases.1, c.push_reserved.ensures.len);
      capacity = c.push_reserved.ensures.capacity ∙ inv.capacity;
      rest = λ more seated.
          let split : AreSeated c.args.first.now (c.in-Some.door ∷ into_iter_items c.next.new.self) (c.in-Some-next.outfit ∷ into_iter_items c.next-in-Some.new.self) (worker ∷ more) = (subst (λ (z : SeatView). IsSplit z worker.seat) inv.same made.split, made.door, made.clock, made.entropy, seated) in
          let whole = inv.rest (worker ∷ more) (rw (c.in-Some.ensures.cases.0, c.in-Some-next.ensures.cases.0) split) in
          subst (λ z. AreSeated c.args.first.now c.args.doors.items c.args.outfits.items z) (sym (append_assoc c.loop-door.workers.items (worker ∷ []) more) ∙ ap (λ z. z ++ more) (sym c.push_reserved.ensures.items)) whole;
    }

pub returns : goal.returns
returns g c =
    let inv = c.loop-door.invariant in
    let d : into_iter_items c.loop-door.doors ≡ [] = nil_of (into_iter_items c.loop-door.doors) (omega (arith, inv.full.0, c.in_default.ensures.cases.0)) in
    let o : into_iter_items c.loop-door.outfits ≡ [] = nil_of (into_iter_items c.loop-door.outfits) (omega (arith, inv.full.1, inv.alike, c.in_default.ensures.cases.0)) in
    record {
      same = inv.same;
      seated = subst (λ z. AreSeated c.args.first.now c.args.doors.items c.args.outfits.items z) (append-nil c.loop-door.workers.items) (inv.rest [] (rw (d, o) tt));
    }
