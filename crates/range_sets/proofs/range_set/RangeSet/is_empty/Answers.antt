use Rattle.std.proofs.Common.{◌≡◌, ◌↔◌, IsTrue, length, subst, arith}
use Rattle.std.proofs.lemmas.Grind.{common_steps}
use Rattle.range_sets.specs.Sets.{IsEmpty, Ranges}
use Rattle.range_sets.proofs.SetLemmas.{empty_from_lengths, v4_none, v6_none}
use Rattle.range_sets.proofs.range_set.RangeSet.is_empty.Goals as goal

pub returns-then-is_empty : goal.returns-then-is_empty
returns-then-is_empty c =
    let first : length c.self.inside.v4.items ≡ 0 = grind (arith, common_steps) in
    let P : Ranges → Type 0 = λ s. IsTrue c.is_empty-then-is_empty.result ↔ IsEmpty s in
    record {
      value = subst P c.self.view_is (
        λ e. empty_from_lengths _ first (grind (arith, common_steps)),
        λ h. let second = v6_none _ c.self.invariant h in grind (arith, common_steps),
      );
    }

pub returns-else-is_empty : goal.returns-else-is_empty
returns-else-is_empty c =
    let P : Ranges → Type 0 = λ s. IsTrue c.is_empty.result ↔ IsEmpty s in
    record {
      value = subst P c.self.view_is (
        λ e. absurd (grind (arith, common_steps)),
        λ h. let first = v4_none _ c.self.invariant h in grind (arith, common_steps),
      );
    }
