-- Two lists of spans, one span more.
use Rattle.std.proofs.Common.{◌≡◌, ℕ, ◌+◌, ◌<◌, ◌≤◌, Bool, true, false, ◌||◌, List, [], ◌∷◌, ◌++◌, length, arith, ap, sym, ◌∙◌, subst, inl, inr}
use Rattle.std.proofs.Math.Bool.{or-false, or_assoc, or_comm}
use Rattle.std.proofs.lemmas.Bool.{cases_Bool}
use Rattle.std.proofs.lemmas.Bool.Decides.{nat_tests}
use Rattle.range_sets.specs.declared.span.Span.{Span}
use Rattle.range_sets.specs.Joins.{BeginsFrom, TakesEarliest, grown, joined, put_away, adjoins}
use Rattle.range_sets.specs.Spans.{AreApart, AreBelow, AreRising, in_span, spans_hold}
use Rattle.range_sets.proofs.SpanLemmas.{AreApart-push, spans_hold-push}

-- spans that adjoin hold together what their join holds
in_joined : (a b : Span) (x : ℕ) → a.first ≤ b.first → b.first ≤ a.last + 1 → b.first ≤ b.last → a.first ≤ a.last → in_span (joined a b) x ≡ (in_span a x || in_span b x)
in_joined a b x h e f g = grind (arith, nat_tests)

joined_last : (a b : Span) (size : ℕ) → a.last < size → b.last < size → (joined a b).last < size
joined_last a b size h e = omega arith

joined_within : (a b : Span) → a.first ≤ a.last → a.first ≤ (joined a b).last
joined_within a b h = omega arith

adjoins_true : (a b : Span) → adjoins a b ≡ true → b.first ≤ a.last + 1
adjoins_true a b h = grind (arith, nat_tests)

adjoins_false : (a b : Span) → adjoins a b ≡ false → a.last + 2 ≤ b.first
adjoins_false a b h = grind (arith, nat_tests)

pub AreRising-from : (ss : List Span) (low : ℕ) (from : ℕ) → AreRising low ss → BeginsFrom from ss → AreRising from ss
AreRising-from [] low from h b = tt
AreRising-from (s ∷ ss) low from h b = (b, h.1, h.2)

-- the numbers of three parts
abbrev pub three : List Span → List Span → List Span → ℕ → Bool
three out left right x = spans_hold out x || (spans_hold left x || spans_hold right x)

-- The spans so far, the one that may still grow, and what is left of both lists.
pub record Kept (out : List Span) (current : Span) (left right a b : List Span) : Type 0 where
  pub order : AreApart 0 out current.first
  pub within : current.first ≤ current.last
  pub left_rises : AreRising current.first left
  pub right_rises : AreRising current.first right
  pub below : (size : ℕ) → AreBelow size a → AreBelow size b → (current.last < size) × AreBelow size left × AreBelow size right
  pub same : (x : ℕ) → (spans_hold out x || (in_span current x || (spans_hold left x || spans_hold right x))) ≡ (spans_hold a x || spans_hold b x)

-- both lists trade places
turned : (out : List Span) (current : Span) (left right a b : List Span) → Kept out current left right a b → Kept out current right left a b
turned out current left right a b k = record {
  order = k.order;
  within = k.within;
  left_rises = k.right_rises;
  right_rises = k.left_rises;
  below = λ size h e. let w = k.below size h e in (w.0, w.2, w.1);
  same = λ x. ap (λ t. spans_hold out x || (in_span current x || t)) (or_comm (spans_hold right x) (spans_hold left x)) ∙ k.same x;
}

joined_step : (out : List Span) (c s : Span) (left right a b : List Span) → adjoins c s ≡ true → BeginsFrom s.first right → Kept out c (s ∷ left) right a b → Kept out (joined c s) left right a b
joined_step out c s left right a b t e k = record {
  order = k.order;
  within = joined_within c s k.within;
  left_rises = rises_lower s.first c.first left k.left_rises.0 k.left_rises.2;
  right_rises = k.right_rises;
  below = λ size h g. let w = k.below size h g in (joined_last c s size w.0 w.1.0, w.1.1, w.2);
  same = λ x. ap (λ t. spans_hold out x || (t || (spans_hold left x || spans_hold right x))) (in_joined c s x k.left_rises.0 (adjoins_true c s t) k.left_rises.1 k.within)
      ∙ (ap (λ t. spans_hold out x || t) (or_assoc (in_span c x) (in_span s x) (spans_hold left x || spans_hold right x)
      ∙ ap (λ t. in_span c x || t) (sym (or_assoc (in_span s x) (spans_hold left x) (spans_hold right x)))) ∙ k.same x);
}
  where
    rises_lower : (from low : ℕ) (ss : List Span) → low ≤ from → AreRising from ss → AreRising low ss
    rises_lower from low [] l h = tt
    rises_lower from low (r ∷ ss) l h = (omega arith, h.1, h.2)

pushed_step : (out : List Span) (c s : Span) (left right a b : List Span) → adjoins c s ≡ false → BeginsFrom s.first right → Kept out c (s ∷ left) right a b → Kept (out ++ c ∷ []) s left right a b
pushed_step out c s left right a b t e k = record {
  order = AreApart-push 0 s.first out c k.order k.within (adjoins_false c s t);
  within = k.left_rises.1;
  left_rises = k.left_rises.2;
  right_rises = AreRising-from right c.first s.first k.right_rises e;
  below = λ size h g. let w = k.below size h g in (w.1.0, w.1.1, w.2);
  same = λ x. ap (λ t. t || (in_span s x || (spans_hold left x || spans_hold right x))) (spans_hold-push out c x)
      ∙ (or_assoc (spans_hold out x) (in_span c x) (in_span s x || (spans_hold left x || spans_hold right x))
      ∙ (ap (λ t. spans_hold out x || (in_span c x || t)) (sym (or_assoc (in_span s x) (spans_hold left x) (spans_hold right x))) ∙ k.same x));
}

front_step : (out : List Span) (c s : Span) (left right a b : List Span) → BeginsFrom s.first right → Kept out c (s ∷ left) right a b → Kept (put_away out c s) (grown c s) left right a b
front_step out c s left right a b e k =
    elim (cases_Bool (adjoins c s)) [
      | inl is ↦ rw is (joined_step out c s left right a b is e k)
      | inr other ↦ rw other (pushed_step out c s left right a b other e k)
    ]

-- one span more
pub kept_step : (out : List Span) (c s : Span) (left right left_rest right_rest a b : List Span) → TakesEarliest left right s left_rest right_rest → Kept out c left right a b → Kept (put_away out c s) (grown c s) left_rest right_rest a b
kept_step out c s left right left_rest right_rest a b (inl w) k =
    let P : List Span → Type 0 = λ ss. Kept out c ss right a b in
    let Q : List Span → Type 0 = λ ss. Kept (put_away out c s) (grown c s) left_rest ss a b in
    subst Q (sym w.other) (front_step out c s left_rest right a b w.earliest (subst P w.front k))
kept_step out c s left right left_rest right_rest a b (inr w) k =
    let P : List Span → Type 0 = λ ss. Kept out c ss left a b in
    let Q : List Span → Type 0 = λ ss. Kept (put_away out c s) (grown c s) right_rest ss a b in
    turned _ _ _ _ a b (subst Q (sym w.other) (front_step out c s right_rest left a b w.earliest (subst P w.front (turned _ _ _ _ a b k))))

-- the first span
first_kept : (s : Span) (left right : List Span) → AreRising 0 (s ∷ left) → AreRising 0 right → BeginsFrom s.first right → Kept [] s left right (s ∷ left) right
first_kept s left right h g e = record {
  order = h.0;
  within = h.1;
  left_rises = h.2;
  right_rises = AreRising-from right 0 s.first g e;
  below = λ size k l. (k.0, k.1, l);
  same = λ x. sym (or_assoc (in_span s x) (spans_hold left x) (spans_hold right x));
}

pub kept_first : (a b : List Span) (s : Span) (left right : List Span) → AreRising 0 a → AreRising 0 b → TakesEarliest a b s left right → Kept [] s left right a b
kept_first a b s left right h g (inl w) =
    let P : List Span → Type 0 = λ ss. AreRising 0 ss in
    let Q : List Span → Type 0 = λ ss. Kept [] s left right ss b in
    let R : List Span → Type 0 = λ ss. Kept [] s left ss (s ∷ left) b in
    subst Q (sym w.front) (subst R (sym w.other) (first_kept s left b (subst P w.front h) g w.earliest))
kept_first a b s left right h g (inr w) =
    let P : List Span → Type 0 = λ ss. AreRising 0 ss in
    let Q : List Span → Type 0 = λ ss. Kept [] s left right a ss in
    let R : List Span → Type 0 = λ ss. Kept [] s ss right a (s ∷ right) in
    subst Q (sym w.front) (subst R (sym w.other) (other_lists _ _ _ _ _ _ (turned _ _ _ _ _ _ (first_kept s right a (subst P w.front g) h w.earliest))))
  where
    other_lists : (out : List Span) (c : Span) (left right a b : List Span) → Kept out c left right b a → Kept out c left right a b
    other_lists out c left right a b k = record {
      order = k.order;
      within = k.within;
      left_rises = k.left_rises;
      right_rises = k.right_rises;
      below = λ size h e. k.below size e h;
      same = λ x. k.same x ∙ or_comm (spans_hold b x) (spans_hold a x);
    }

-- fewer spans are left
pub fewer : (a b : List Span) (s : Span) (left right : List Span) → TakesEarliest a b s left right → length left + length right < length a + length b
fewer a b s left right (inl w) = rw (w.front, w.other) (omega arith)
fewer a b s left right (inr w) = rw (w.front, w.other) (omega arith)

-- nothing is left
pub last_apart : (out : List Span) (c : Span) (a b : List Span) (size : ℕ) → Kept out c [] [] a b → AreBelow size a → AreBelow size b → AreApart 0 (out ++ c ∷ []) (size + 1)
last_apart out c a b size k h e = let below = k.below size h e in AreApart-push 0 (size + 1) out c k.order k.within (omega arith)

pub last_same : (out : List Span) (c : Span) (a b : List Span) (x : ℕ) → Kept out c [] [] a b → spans_hold (out ++ c ∷ []) x ≡ (spans_hold a x || spans_hold b x)
last_same out c a b x k = spans_hold-push out c x ∙ (ap (λ t. spans_hold out x || t) (sym (or-false (in_span c x))) ∙ k.same x)
