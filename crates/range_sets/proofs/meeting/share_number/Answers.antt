use Rattle.std.proofs.Common.{sym, refl, arith}
use Rattle.range_sets.proofs.MeetLemmas.{left_fronts, left_step, meeting_shares, right_step}
use Rattle.range_sets.proofs.meeting.share_number.Goals as goal

pub returns-then-meets : goal.returns-then-meets
returns-then-meets c =
    let at = c.in-Some-Some in
    let left = left_fronts _ _ _ _ _ _ _ _ at.ensures.cases.0 at.ensures'.cases.0 c.loop-x.invariant in
    let shared = meeting_shares at.x.now at.y.now at.xs.now at.ys.now (sym c.if-meets.ensures.value) left.left_apart.1 left.right_apart.1 in
    record { meaning = (λ t. left.same.0 shared, λ h. refl) }

pub loop-x-preserved-then-x-y : goal.loop-x-preserved-then-x-y
loop-x-preserved-then-x-y c =
    let at = c.in-Some-Some in
    let left = left_fronts _ _ _ _ _ _ _ _ at.ensures.cases.0 at.ensures'.cases.0 c.loop-x.invariant in
    rw at.ensures'.cases.0 (left_step at.x.now at.y.now at.xs.now at.ys.now c.args.a.now c.args.b.now (sym c.if-meets.ensures.value) (omega arith) left)

pub loop-x-preserved : goal.loop-x-preserved
loop-x-preserved c =
    let at = c.in-Some-Some in
    let left = left_fronts _ _ _ _ _ _ _ _ at.ensures.cases.0 at.ensures'.cases.0 c.loop-x.invariant in
    rw at.ensures.cases.0 (right_step at.x.now at.y.now at.xs.now at.ys.now c.args.a.now c.args.b.now (sym c.if-meets.ensures.value) (omega arith) left)
