use Rattle.std.proofs.Common.{◌≡◌, ◌+◌, ◌^◌, rules, arith, sym, subst, List}
use Rattle.net_addr.specs.Bits.{Block}
use Rattle.range_sets.specs.Canonical.{IsCanonical, canonical}
use Rattle.range_sets.specs.Sets.{has}
use Rattle.range_sets.proofs.CanonicalLemmas.{canonical_is}
use Rattle.range_sets.proofs.SpanLemmas.{AreApart-higher}
use Rattle.range_sets.proofs.range_set.RangeSet.prefixes.Goals as goal

pub add_greatest-requires-clause-apart : goal.add_greatest-requires-clause-apart
add_greatest-requires-clause-apart c = rw c.deref.ensures.value (AreApart-higher 0 (2 ^ 32 + 1) (2 ^ 128 + 1) _ c.self.invariant.v4_apart (omega arith))

pub returns-clause-canonical : goal.returns-clause-canonical
returns-clause-canonical c =
    let value : c.add_greatest-2.new.out ≡ canonical (has c.args.self.now) = search rules in
    let P : List Block → Type 0 = λ ps. IsCanonical (has c.args.self.now) ps in
    subst P (sym value) (canonical_is (has c.args.self.now))
