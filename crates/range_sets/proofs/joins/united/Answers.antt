use Rattle.range_sets.proofs.JoinLemmas.{kept_step, last_apart}
use Rattle.range_sets.proofs.joins.united.Goals as goal

pub loop-next-preserved : goal.loop-next-preserved
loop-next-preserved c =
    rw (c.in_ok-current.ensures.put, c.in_ok-current.ensures.value) (kept_step _ _ _ _ _ _ _ c.args.a.now c.args.b.now c.in-Some-earliest.ensures.taken c.loop-next.invariant)

pub returns-clause-apart : goal.returns-clause-apart
returns-clause-apart c = λ size a b.
    let none = c.in_default-earliest.ensures.taken in
    rw c.in_ok-push.ensures.items (last_apart c.loop-next.out.items c.loop-next.current c.args.a.now c.args.b.now size (rw (none.0, none.1) at c.loop-next.invariant) a b)
