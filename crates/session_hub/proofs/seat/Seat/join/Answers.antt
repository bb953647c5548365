use Rattle.std.proofs.Common.{◌≡◌, ◌<◌, ◌∙◌, ap, sym, subst, Some, [], ◌++◌, length-append, arith}
use Rattle.std.specs.Option.{option_map}
use Rattle.tailnet_desk.specs.Seated.{point_of}
use Rattle.session_hub.specs.Lines.{AreLegal, longer, times}
use Rattle.session_hub.specs.Plays.{idle}
use Rattle.session_hub.proofs.Counting.{times-append}
use Rattle.session_hub.proofs.SeatSteps.{longer_legal}
use Rattle.session_hub.proofs.Turns.{rested, rests}
use Rattle.session_hub.proofs.seat.Seat.join.Goals as goal

pub invariant_of-self : goal.invariant_of-self
invariant_of-self g c =
    let at = point_of g.K.Keeper.told g.K.Keeper.faults g.K.Keeper.calls in
    let m = c.merge_places.ensures.merged in
    let mine = c.self.inside.place.me in
    let theirs = c.other.inside.place.me in
    let r = rests mine c.self.invariant.0 c.self.invariant.1 in
    let empty : mine.1 ≡ [] = ap (λ z. z.1) r.1 in
    let start : mine.0.start ≡ Some r.0 = ap (λ z. z.0.start) r.1 in
    let some : 0 < times c.self.inside.name mine.0.names = c.self.invariant.2 in
    let one_start : option_map at theirs.0.start ≡ option_map at mine.0.start =
    ap (λ z. z.hub.start) c.other.view_is ∙ ap (λ z. z.start) (c.requires.hub.1 ∙ sym c.requires.hub.0) ∙ sym (ap (λ z. z.hub.start) c.self.view_is) in
    rested at c.merge_places.new.place.me r.0 (longer mine.0.seen theirs.0.seen) (mine.0.names ++ theirs.0.names) c.self.inside.name _
    (λ i. ((m.0.view ∙ ap (λ o. idle o (longer mine.0.seen theirs.0.seen) (mine.0.names ++ theirs.0.names)) start) i, (m.1 ∙ empty) i))
    (let a = times-append c.self.inside.name mine.0.names theirs.0.names in omega arith)
    (let a = length-append mine.0.names theirs.0.names in let b = c.self.invariant.3 in let d = c.other.invariant.3 in omega arith)
    (longer_legal (Some (at r.0)) mine.0.seen theirs.0.seen
    (subst (λ o. AreLegal (option_map at o) mine.0.seen) start c.self.invariant.4)
    (subst (λ o. AreLegal o theirs.0.seen) (one_start ∙ ap (option_map at) start) c.other.invariant.4))
