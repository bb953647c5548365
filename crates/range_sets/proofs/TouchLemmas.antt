-- Whether two sets share an address.
use Rattle.std.proofs.Common.{◌≡◌, ℕ, ◌+◌, ◌<◌, ◌^◌, Bool, true, false, ◌&&◌, List, ◌⊎◌, arith, inl, inr}
use Rattle.std.specs.Prelude.{◌↔◌, IsTrue}
use Rattle.std.proofs.lemmas.Bool.{and_from, and_parts, both_ways, cases_lt}
use Rattle.tail_base.proofs.Bools.{same_tests}
use Rattle.net_addr.specs.Bits.{Address}
use Rattle.net_addr.specs.Searches.{some_address}
use Rattle.net_addr.proofs.SearchLemmas.{address_finds, address_found}
use Rattle.range_sets.specs.declared.span.Span.{Span}
use Rattle.range_sets.specs.Meets.{ShareNumber}
use Rattle.range_sets.specs.Sets.{AreRanges, Ranges, ShareAddress, has}
use Rattle.range_sets.specs.Spans.{AreApart, spans_hold}
use Rattle.range_sets.proofs.SpanLemmas.{spans_hold-above}

-- a number that is held is one of the family's
below_size : (size x : ℕ) (ss : List Span) → AreApart 0 ss (size + 1) → spans_hold ss x ≡ true → x < size
below_size size x ss apart held = elim (cases_lt x size) [
  | inl below ↦ below
  | inr beyond ↦ absurd (both_ways (spans_hold ss x) (spans_hold-above 0 (size + 1) x ss apart (omega arith)) held)
]

v4_shared : (s t : Ranges) → AreRanges s → ShareNumber s.v4 t.v4 → ShareAddress s t
v4_shared s t r (x, first, second) = (record { v6 = false; bits = x }, below_size (2 ^ 32) x s.v4 r.v4_apart first, first, second)

v6_shared : (s t : Ranges) → AreRanges s → ShareNumber s.v6 t.v6 → ShareAddress s t
v6_shared s t r (x, first, second) = (record { v6 = true; bits = x }, below_size (2 ^ 128) x s.v6 r.v6_apart first, first, second)

in_family : (s t : Ranges) (v6 : Bool) (x : ℕ) → has s (record { v6 = v6; bits = x }) ≡ true → has t (record { v6 = v6; bits = x }) ≡ true → ShareNumber s.v4 t.v4 ⊎ ShareNumber s.v6 t.v6
in_family s t false x first second = inl (x, first, second)
in_family s t true x first second = inr (x, first, second)

either : (s t : Ranges) → ShareAddress s t → ShareNumber s.v4 t.v4 ⊎ ShareNumber s.v6 t.v6
either s t (addr, below, first, second) = in_family s t addr.v6 addr.bits first second

-- the sets share an address where IPv4 numbers are shared
pub first_shared : (s t u v : Ranges) (a : Bool) → AreRanges s → s ≡ u → t ≡ v → IsTrue a ↔ ShareNumber s.v4 t.v4 → a ≡ true → IsTrue a ↔ ShareAddress u v
first_shared s t u v a r e f meaning h = rw (← e, ← f) (λ k. v4_shared s t r (meaning.0 k), λ k. h)

-- and where they aren't, where IPv6 numbers are
pub second_shared : (s t u v : Ranges) (a b : Bool) → AreRanges s → s ≡ u → t ≡ v → IsTrue a ↔ ShareNumber s.v4 t.v4 → a ≡ false
    → IsTrue b ↔ ShareNumber s.v6 t.v6 → IsTrue b ↔ ShareAddress u v
second_shared s t u v a b r e f v4 h v6 = rw (← e, ← f) (
  λ k. v6_shared s t r (v6.0 k),
  λ k. elim (either s t k) [
    | inl first ↦ absurd (both_ways a h (v4.1 first))
    | inr second ↦ v6.1 second
  ],
)

-- and a search over all addresses finds one
pub touches_searched : (s t : Ranges) (r : Bool) → IsTrue r ↔ ShareAddress s t → r ≡ some_address (λ addr. has s addr && has t addr)
touches_searched s t r meaning = same_tests r (some_address both) to from
  where
    both : Address → Bool
    both addr = has s addr && has t addr

    to : r ≡ true → some_address both ≡ true
    to h = let shared = meaning.0 h in address_found both shared.0 shared.1 (and_from _ _ shared.2 shared.3)

    from : some_address both ≡ true → r ≡ true
    from h = let found = address_finds both h in
        let parts = and_parts (has s found.0) (has t found.0) found.2 in
        meaning.1 (found.0, found.1, parts.0, parts.1)
