use Rattle.std.proofs.Common.{◌+◌, length, arith, sym, ap, ◌∙◌, inl, inr, ◌&&◌, nat_eq, ◌∷◌}
use Rattle.std.specs.Str.{bytes_eq}
use Rattle.tail_base.proofs.SecretLemmas.{ended, one_more}
use Rattle.tail_base.proofs.secret.is_same_secret.Goals as goal

pub loop-left-preserved : goal.loop-left-preserved
loop-left-preserved c = let steps = c.in-Some.ensures.steps in record {
  rest = one_more c.loop-left.differences c.in-Some.left.now c.in-Some.right.now c.next.new.self.a.rest.now c.next.new.self.b.rest.now
      ∙ ap (λ xs. nat_eq c.loop-left.differences 0 && bytes_eq xs (c.in-Some.right.now ∷ c.next.new.self.b.rest.now)) (sym steps.0)
      ∙ ap (λ ys. nat_eq c.loop-left.differences 0 && bytes_eq c.loop-left.left-iterator.a.rest.now ys) (sym steps.1)
      ∙ c.loop-left.invariant.rest;
  long = omega (arith, ap length steps.0, ap length steps.1, c.loop-left.invariant.long);
}

pub returns : goal.returns
returns c = record {
  value = ended c.loop-left.differences c.loop-left.left-iterator.a.rest.now c.loop-left.left-iterator.b.rest.now c.loop-left.invariant.long (
      elim c.in-None.ensures.steps [ inl left ↦ inl left.1.0 | inr right ↦ inr right.1.0 ]
      ) ∙ c.loop-left.invariant.rest;
}
