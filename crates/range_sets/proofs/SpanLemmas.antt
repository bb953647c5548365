-- Spans that neither overlap nor adjoin.
use Rattle.std.proofs.Common.{◌≡◌, ℕ, ◌+◌, ◌<◌, ◌≤◌, true, false, ◌||◌, List, [], ◌∷◌, ◌++◌, arith, refl, ap, sym, ◌∙◌}
use Rattle.std.proofs.Math.Bool.{or-false, or_assoc}
use Rattle.std.proofs.lemmas.Bool.Decides.{nat_tests}
use Rattle.range_sets.specs.declared.span.Span.{Span}
use Rattle.range_sets.specs.Spans.{AreApart, AreBelow, AreRising, in_span, spans_hold}

-- ---- order

pub AreApart-push : (low high : ℕ) (ss : List Span) (s : Span) → AreApart low ss s.first → s.first ≤ s.last → s.last + 2 ≤ high → AreApart low (ss ++ s ∷ []) high
AreApart-push low high [] s h e f = (h, e, f)
AreApart-push low high (t ∷ ss) s h e f = (h.0, h.1, AreApart-push (t.last + 2) high ss s h.2 e f)

pub AreApart-higher : (low high higher : ℕ) (ss : List Span) → AreApart low ss high → high ≤ higher → AreApart low ss higher
AreApart-higher low high higher [] h e = omega arith
AreApart-higher low high higher (s ∷ ss) h e = (h.0, h.1, AreApart-higher (s.last + 2) high higher ss h.2 e)

pub AreApart-lower : (low lower high : ℕ) (ss : List Span) → AreApart low ss high → lower ≤ low → AreApart lower ss high
AreApart-lower low lower high [] h e = omega arith
AreApart-lower low lower high (s ∷ ss) h e = (omega arith, h.1, h.2)

pub AreApart-le : (low high : ℕ) (ss : List Span) → AreApart low ss high → low ≤ high
AreApart-le low high [] h = h
AreApart-le low high (s ∷ ss) h = let a = h.0 in let b = h.1 in let c = AreApart-le (s.last + 2) high ss h.2 in omega arith

AreRising-lower : (low lower : ℕ) (ss : List Span) → lower ≤ low → AreRising low ss → AreRising lower ss
AreRising-lower low lower [] e h = tt
AreRising-lower low lower (s ∷ ss) e h = (omega arith, h.1, h.2)

-- spans that are apart rise
pub rising_from_apart : (low high : ℕ) (ss : List Span) → AreApart low ss high → AreRising low ss
rising_from_apart low high [] h = tt
rising_from_apart low high (s ∷ ss) h = let b = h.1 in (h.0, h.1, AreRising-lower (s.last + 2) s.first ss (omega arith) (rising_from_apart (s.last + 2) high ss h.2))

pub AreBelow-apart : (low size : ℕ) (ss : List Span) → AreApart low ss (size + 1) → AreBelow size ss
AreBelow-apart low size [] h = tt
AreBelow-apart low size (s ∷ ss) h = let c = AreApart-le (s.last + 2) (size + 1) ss h.2 in (omega arith, AreBelow-apart (s.last + 2) size ss h.2)

-- spans up to the highest number, by the size
pub below_highest : (highest : ℕ) (ss : List Span) → AreApart 0 ss (highest + 2) → AreBelow (highest + 1) ss
below_highest highest ss h = AreBelow-apart 0 (highest + 1) ss (AreApart-higher 0 (highest + 2) (highest + 1 + 1) ss h (omega arith))

pub from_size : (highest : ℕ) (ss : List Span) → AreApart 0 ss (highest + 1 + 1) → AreApart 0 ss (highest + 2)
from_size highest ss h = AreApart-higher 0 (highest + 1 + 1) (highest + 2) ss h (omega arith)

-- ---- numbers

pub spans_hold-push : (ss : List Span) (s : Span) (x : ℕ) → spans_hold (ss ++ s ∷ []) x ≡ (spans_hold ss x || in_span s x)
spans_hold-push [] s x = or-false (in_span s x)
spans_hold-push (t ∷ ss) s x = ap (λ b. in_span t x || b) (spans_hold-push ss s x) ∙ sym (or_assoc (in_span t x) (spans_hold ss x) (in_span s x))

pub in_span-below : (s : Span) (x : ℕ) → x < s.first → in_span s x ≡ false
in_span-below s x h = grind (arith, nat_tests)

pub in_span-above : (s : Span) (x : ℕ) → s.last < x → in_span s x ≡ false
in_span-above s x h = grind (arith, nat_tests)

pub in_span-within : (s : Span) (x : ℕ) → s.first ≤ x → x ≤ s.last → in_span s x ≡ true
in_span-within s x h e = grind (arith, nat_tests)

-- no number below the first is there
pub spans_hold-below : (low high x : ℕ) (ss : List Span) → AreApart low ss high → x < low → spans_hold ss x ≡ false
spans_hold-below low high x [] h e = refl
spans_hold-below low high x (s ∷ ss) h e =
    let a = h.0 in let b = h.1 in
    rw (in_span-below s x (omega arith), spans_hold-below (s.last + 2) high x ss h.2 (omega arith)) refl

-- nor one from before the end on
pub spans_hold-above : (low high x : ℕ) (ss : List Span) → AreApart low ss high → high ≤ x + 1 → spans_hold ss x ≡ false
spans_hold-above low high x [] h e = refl
spans_hold-above low high x (s ∷ ss) h e =
    let c = AreApart-le (s.last + 2) high ss h.2 in
    rw (in_span-above s x (omega arith), spans_hold-above (s.last + 2) high x ss h.2 e) refl
