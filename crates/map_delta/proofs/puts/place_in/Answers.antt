use Rattle.std.proofs.Common.{arith}
use Rattle.map_delta.proofs.PlaceLemmas.{added, replaced}
use Rattle.map_delta.proofs.puts.place_in.Goals as goal

pub returns-then-at-id-clause-there : goal.returns-then-at-id-clause-there
returns-then-at-id-clause-there g c = (
  c.loop-i-test.true,
  λ x e. replaced g.T.Listed.number c.args.rows.now c.loop-i.i x c.index-rows-i.result
      (λ j d l. rw e (c.loop-i.invariant j d l)) c.loop-i-test.true
      (rw (← c.index-rows-i.is, ← c.number-at.ensures.value, e) c.if-at-id.true),
)

pub returns-then-at-id-2-clause-absent : goal.returns-then-at-id-2-clause-absent
returns-then-at-id-2-clause-absent g c = (
  omega arith,
  λ x e. added g.T.Listed.number c.args.rows.now c.loop-i.i x c.index-rows-i.result
      (λ j d l. rw e (c.loop-i.invariant j d l)) (omega arith)
      (λ _. rw (← c.index-rows-i.is, ← c.number-at.ensures.value, e) c.if-at-id-2.true),
)

pub returns-clause-absent : goal.returns-clause-absent
returns-clause-absent g c = (
  omega arith,
  λ x e. added g.T.Listed.number c.args.rows.now _ x x
      (λ j d l. rw e (c.loop-i.invariant j d (omega arith))) (omega arith) (λ l. absurd (omega arith)),
)
