-- Whether two lists of spans share a number.
use Rattle.std.proofs.Common.{◌≡◌, ℕ, ◌+◌, ◌^◌, ◌<◌, ◌≤◌, true, false, List, ◌∷◌, arith, inl, inr}
use Rattle.std.specs.Prelude.{◌↔◌}
use Rattle.std.proofs.lemmas.Bool.{both_ways, cases_lt, or_cases, or_left, or_right}
use Rattle.std.proofs.lemmas.Bool.Decides.{nat_tests}
use Rattle.range_sets.specs.declared.span.Span.{Span}
use Rattle.range_sets.specs.Meets.{ShareNumber, meets}
use Rattle.range_sets.specs.Spans.{AreApart, in_span, spans_hold}
use Rattle.range_sets.proofs.SpanLemmas.{AreApart-lower, spans_hold-below}

-- What is left of two lists shares a number where the lists do.
pub record IsLeft (left right a b : List Span) : Type 0 where
  pub left_apart : AreApart 0 left (2 ^ 128 + 1)
  pub right_apart : AreApart 0 right (2 ^ 128 + 1)
  pub same : ShareNumber left right ↔ ShareNumber a b

-- ---- two spans

at_second : (s t : Span) → meets s t ≡ true → s.first ≤ t.first → t.first ≤ t.last → (in_span s t.first ≡ true) × (in_span t t.first ≡ true)
at_second s t h k e = grind (arith, nat_tests)

at_first : (s t : Span) → meets s t ≡ true → t.first < s.first → s.first ≤ s.last → (in_span s s.first ≡ true) × (in_span t s.first ≡ true)
at_first s t h k e = grind (arith, nat_tests)

in_span-last : (s : Span) (x : ℕ) → in_span s x ≡ true → x ≤ s.last
in_span-last s x h = grind (arith, nat_tests)

front_ends : (s t : Span) → meets s t ≡ false → s.last < t.last → s.first ≤ s.last → s.last < t.first
front_ends s t h k e = grind (arith, nat_tests)

other_ends : (s t : Span) → meets s t ≡ false → t.last ≤ s.last → t.first ≤ t.last → t.last < s.first
other_ends s t h k e = grind (arith, nat_tests)

-- ---- a step

pub meeting_shares : (s t : Span) (ss ts : List Span) → meets s t ≡ true → s.first ≤ s.last → t.first ≤ t.last → ShareNumber (s ∷ ss) (t ∷ ts)
meeting_shares s t ss ts h e f = elim (cases_lt t.first s.first) [
  | inl before ↦ (let here = at_first s t h before e in (s.first, or_left _ (spans_hold ss s.first) here.0, or_left _ (spans_hold ts s.first) here.1))
  | inr from ↦ (let here = at_second s t h from f in (t.first, or_left _ (spans_hold ss t.first) here.0, or_left _ (spans_hold ts t.first) here.1))
]

-- a span that ends before the other list begins shares nothing with it
front_dropped : (s : Span) (ss ts : List Span) (low : ℕ) → s.last < low → AreApart low ts (2 ^ 128 + 1) → ShareNumber (s ∷ ss) ts → ShareNumber ss ts
front_dropped s ss ts low ends apart (x, first, second) = elim (or_cases (in_span s x) (spans_hold ss x) first) [
  | inl here ↦ (let last = in_span-last s x here in absurd (both_ways (spans_hold ts x) (spans_hold-below low (2 ^ 128 + 1) x ts apart (omega arith)) second))
  | inr more ↦ (x, more, second)
]

front_added : (s : Span) (ss ts : List Span) → ShareNumber ss ts → ShareNumber (s ∷ ss) ts
front_added s ss ts (x, first, second) = (x, or_right (in_span s x) (spans_hold ss x) first, second)

swapped : (a b : List Span) → ShareNumber a b → ShareNumber b a
swapped a b (x, first, second) = (x, second, first)

pub left_step : (s t : Span) (ss ts a b : List Span) → meets s t ≡ false → s.last < t.last → IsLeft (s ∷ ss) (t ∷ ts) a b → IsLeft ss (t ∷ ts) a b
left_step s t ss ts a b apart less k =
    let ends = front_ends s t apart less k.left_apart.1 in
    let later : AreApart t.first (t ∷ ts) (2 ^ 128 + 1) = (omega arith, k.right_apart.1, k.right_apart.2) in
    record {
      left_apart = AreApart-lower (s.last + 2) 0 _ ss k.left_apart.2 (omega arith);
      right_apart = k.right_apart;
      same = (λ h. k.same.0 (front_added s ss (t ∷ ts) h), λ h. front_dropped s ss (t ∷ ts) t.first ends later (k.same.1 h));
    }

pub right_step : (s t : Span) (ss ts a b : List Span) → meets s t ≡ false → t.last ≤ s.last → IsLeft (s ∷ ss) (t ∷ ts) a b → IsLeft (s ∷ ss) ts a b
right_step s t ss ts a b apart less k =
    let ends = other_ends s t apart less k.right_apart.1 in
    let later : AreApart s.first (s ∷ ss) (2 ^ 128 + 1) = (omega arith, k.left_apart.1, k.left_apart.2) in
    record {
      left_apart = k.left_apart;
      right_apart = AreApart-lower (t.last + 2) 0 _ ts k.right_apart.2 (omega arith);
      same = (
        λ h. k.same.0 (swapped (t ∷ ts) (s ∷ ss) (front_added t ts (s ∷ ss) (swapped (s ∷ ss) ts h))),
        λ h. swapped ts (s ∷ ss) (front_dropped t ts (s ∷ ss) s.first ends later (swapped (s ∷ ss) (t ∷ ts) (k.same.1 h))),
      );
    }

-- the lists by their first spans
pub left_fronts : (left right a b : List Span) (s t : Span) (ss ts : List Span) → left ≡ s ∷ ss → right ≡ t ∷ ts → IsLeft left right a b → IsLeft (s ∷ ss) (t ∷ ts) a b
left_fronts left right a b s t ss ts e f k = rw (e, f) at k
