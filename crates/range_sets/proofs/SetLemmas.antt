-- Sets of addresses.
use Rattle.std.proofs.Common.{◌≡◌, ℕ, ◌+◌, ◌<◌, ◌^◌, Bool, true, false, List, [], ◌∷◌, length, arith, refl}
use Rattle.std.proofs.lemmas.Bool.{both_ways}
use Rattle.range_sets.specs.declared.span.Span.{Span}
use Rattle.range_sets.specs.Sets.{AreRanges, IsEmpty, Ranges, has}
use Rattle.range_sets.specs.Spans.{AreApart, spans_hold}
use Rattle.range_sets.proofs.SpanLemmas.{AreApart-le, in_span-within}

none_held : (ss : List Span) (x : ℕ) → length ss ≡ 0 → spans_hold ss x ≡ false
none_held [] x e = refl
none_held (s ∷ ss) x e = absurd (omega arith)

none_in_family : (s : Ranges) (v6 : Bool) (x : ℕ) → length s.v4 ≡ 0 → length s.v6 ≡ 0 → has s (record { v6 = v6; bits = x }) ≡ false
none_in_family s false x e f = none_held s.v4 x e
none_in_family s true x e f = none_held s.v6 x f

pub empty_from_lengths : (s : Ranges) → length s.v4 ≡ 0 → length s.v6 ≡ 0 → IsEmpty s
empty_from_lengths s e f addr h = none_in_family s addr.v6 addr.bits e f

-- where none of the family's numbers is held there is no span
none_left : (size : ℕ) (ss : List Span) → AreApart 0 ss (size + 1) → ((x : ℕ) → x < size → spans_hold ss x ≡ false) → length ss ≡ 0
none_left size [] h f = refl
none_left size (s ∷ ss) h f =
    let ends = AreApart-le (s.last + 2) (size + 1) ss h.2 in let within = h.1 in
    let here : spans_hold (s ∷ ss) s.first ≡ true = rw (in_span-within s s.first (omega arith) within) refl in
    absurd (both_ways _ (f s.first (omega arith)) here)

pub v4_none : (s : Ranges) → AreRanges s → IsEmpty s → length s.v4 ≡ 0
v4_none s r h = none_left (2 ^ 32) s.v4 r.v4_apart (λ x lt. h (record { v6 = false; bits = x }) lt)

pub v6_none : (s : Ranges) → AreRanges s → IsEmpty s → length s.v6 ≡ 0
v6_none s r h = none_left (2 ^ 128) s.v6 r.v6_apart (λ x lt. h (record { v6 = true; bits = x }) lt)
