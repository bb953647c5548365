-- The greatest prefixes of spans.
use Rattle.std.proofs.Common.{◌≡◌, ℕ, zero, suc, ◌+◌, ◌-◌, ◌%◌, ◌^◌, ◌<◌, ◌≤◌, Bool, true, false, leb, ltb, List, [], ◌∷◌, ◌++◌, length, arith, refl, subst, ap, sym, ◌∙◌, inl, inr}
use Rattle.std.proofs.lemmas.Bool.{and_from, and_parts, both_ways, cases_Bool, cases_lt, le-leb, leb-true, ltb-false, ltb-true}
use Rattle.std.proofs.Math.Nat.{two-pow-succ}
use Rattle.std.proofs.lemmas.Nat.{pow_pos}
use Rattle.range_sets.specs.declared.span.Span.{Span}
use Rattle.range_sets.specs.Canonical.{block_at, greatest_in}
use Rattle.range_sets.specs.Spans.{AreApart, spans_hold}
use Rattle.range_sets.specs.Walks.{EndsFrom, has_all, ending_from}
use Rattle.range_sets.proofs.GreatestLemmas.{greatest_none, greatest_same, greatest_split, greatest_whole}
use Rattle.range_sets.proofs.MultipleLemmas.{mod_of_multiple, multiple_add, multiple_from_mod, multiple_lower}
use Rattle.range_sets.proofs.SpanLemmas.{AreApart-lower, in_span-above, in_span-within, spans_hold-below}

-- ---- the spans from a number on

pub ending_apart : (low high least : ℕ) (ss : List Span) → AreApart low ss high → AreApart low (ending_from least ss) high
ending_apart low high least [] h = h
ending_apart low high least (s ∷ ss) h =
    elim (cases_Bool (ltb s.last least)) [
      | inl is ↦ rw is (AreApart-lower (s.last + 2) low high (ending_from least ss) (ending_apart (s.last + 2) high least ss h.2) (let a = h.0 in let b = h.1 in omega arith))
      | inr other ↦ rw other h
    ]

pub ending_ends : (least : ℕ) (ss : List Span) → EndsFrom least (ending_from least ss)
ending_ends least [] = tt
ending_ends least (s ∷ ss) =
    elim (cases_Bool (ltb s.last least)) [
      | inl is ↦ rw is (ending_ends least ss)
      | inr other ↦ rw other (ltb-false s.last least other)
    ]

pub ending_holds : (least x : ℕ) (ss : List Span) → least ≤ x → spans_hold (ending_from least ss) x ≡ spans_hold ss x
ending_holds least x [] h = refl
ending_holds least x (s ∷ ss) h =
    elim (cases_Bool (ltb s.last least)) [
      | inl is ↦ (let below = ltb-true s.last least is in rw (is, in_span-above s x (omega arith)) (ending_holds least x ss h))
      | inr other ↦ rw other refl
    ]

-- ---- the cases of a walk

pub none_left : (v6 : Bool) (spans : List Span) (n base : ℕ) → length spans ≡ 0 → greatest_in v6 (spans_hold spans) n base ≡ []
none_left v6 [] n base e = greatest_none v6 (spans_hold []) n base (λ x a b. refl)
none_left v6 (s ∷ ss) n base e = absurd (omega arith)

none_yet_at : (v6 : Bool) (s : Span) (ss : List Span) (low high n base : ℕ) → AreApart low (s ∷ ss) high → base + 2 ^ n ≤ s.first → greatest_in v6 (spans_hold (s ∷ ss)) n base ≡ []
none_yet_at v6 s ss low high n base h e =
    greatest_none v6 (spans_hold (s ∷ ss)) n base (λ x a b. spans_hold-below s.first high x (s ∷ ss) (omega arith, h.1, h.2) (omega arith))

pub none_yet : (v6 : Bool) (spans : List Span) (s : Span) (ss : List Span) (low high n base : ℕ) → spans ≡ s ∷ ss → AreApart low spans high → base + 2 ^ n ≤ s.first → greatest_in v6 (spans_hold spans) n base ≡ []
none_yet v6 spans s ss low high n base is h e =
    let P : List Span → Type 0 = λ ts. AreApart low ts high in
    rw is (none_yet_at v6 s ss low high n base (subst P is h) e)

pub whole_inside : (v6 : Bool) (spans : List Span) (s : Span) (ss : List Span) (n base : ℕ) → spans ≡ s ∷ ss → s.first ≤ base → base + 2 ^ n ≤ s.last + 1 → greatest_in v6 (spans_hold spans) n base ≡ block_at v6 n base ∷ []
whole_inside v6 spans s ss n base is h e =
    rw is (greatest_whole v6 (spans_hold (s ∷ ss)) n base (λ x a b. rw (in_span-within s x (omega arith) (omega arith)) refl))

-- a number among these that no span has
left_out : (s : Span) (ss : List Span) (low high n base : ℕ) → AreApart low (s ∷ ss) high → base ≤ s.last → (s.first ≤ base → base + 2 ^ n ≤ s.last + 1 → ⊥) →
    (x : ℕ) × (base ≤ x) × (x < base + 2 ^ n) × (spans_hold (s ∷ ss) x ≡ false)
left_out s ss low high n base h e out =
    let pos : zero < 2 ^ n = pow_pos n in
    elim (cases_lt base s.first) [
      | inl before ↦ (base, omega arith, omega arith, spans_hold-below s.first high base (s ∷ ss) (omega arith, h.1, h.2) before)
      | inr from ↦ elim (cases_lt (s.last + 1) (base + 2 ^ n)) [
        | inl ends ↦ (s.last + 1, omega arith, ends, rw (in_span-above s (s.last + 1) (omega arith)) (spans_hold-below (s.last + 2) high (s.last + 1) ss h.2 (omega arith)))
        | inr beyond ↦ absurd (out from beyond)
      ]
    ]

split_apart_at : (v6 : Bool) (s : Span) (ss : List Span) (low high n base : ℕ) → AreApart low (s ∷ ss) high → base ≤ s.last → (s.first ≤ base → base + 2 ^ n ≤ s.last + 1 → ⊥) → 0 < n →
    greatest_in v6 (spans_hold (s ∷ ss)) n base ≡ greatest_in v6 (spans_hold (s ∷ ss)) (n - 1) base ++ greatest_in v6 (spans_hold (ending_from (base + 2 ^ (n - 1)) (s ∷ ss))) (n - 1) (base + 2 ^ (n - 1))
split_apart_at v6 s ss low high n base h e out pos =
    let w = left_out s ss low high n base h e out in
    greatest_split v6 (spans_hold (s ∷ ss)) n base w.0 w.1 w.2 w.3 pos
    ∙ ap (λ bs. greatest_in v6 (spans_hold (s ∷ ss)) (n - 1) base ++ bs)
    (greatest_same v6 (spans_hold (s ∷ ss)) (spans_hold (ending_from (base + 2 ^ (n - 1)) (s ∷ ss))) (n - 1) (base + 2 ^ (n - 1)) (λ x a b. sym (ending_holds (base + 2 ^ (n - 1)) x (s ∷ ss) a)))

pub split_apart : (v6 : Bool) (spans : List Span) (s : Span) (ss : List Span) (low high n base middle : ℕ) → spans ≡ s ∷ ss → middle ≡ base + 2 ^ (n - 1) → AreApart low spans high → EndsFrom base spans →
    (s.first ≤ base → base + 2 ^ n ≤ s.last + 1 → ⊥) → 0 < n →
    greatest_in v6 (spans_hold spans) n base ≡ greatest_in v6 (spans_hold spans) (n - 1) base ++ greatest_in v6 (spans_hold (ending_from middle spans)) (n - 1) middle
split_apart v6 spans s ss low high n base middle is at h e out pos =
    let P : List Span → Type 0 = λ ts. AreApart low ts high in
    let Q : List Span → Type 0 = λ ts. EndsFrom base ts in
    let R : ℕ → Type 0 = λ m. greatest_in v6 (spans_hold (s ∷ ss)) n base ≡ greatest_in v6 (spans_hold (s ∷ ss)) (n - 1) base ++ greatest_in v6 (spans_hold (ending_from m (s ∷ ss))) (n - 1) m in
    rw is (subst R (sym at) (split_apart_at v6 s ss low high n base (subst P is h) (subst Q is e) out pos))

pub not_all : (s : Span) (n base last : ℕ) → last ≡ base + (2 ^ n - 1) → has_all s base last ≡ false → s.first ≤ base → base + 2 ^ n ≤ s.last + 1 → ⊥
not_all s n base last at e f g =
    let pos : zero < 2 ^ n = pow_pos n in
    both_ways (has_all s base last) e (and_from _ _ (le-leb s.first base f) (le-leb last s.last (omega arith)))

pub has_all-ends : (s : Span) (n base last : ℕ) → last ≡ base + (2 ^ n - 1) → has_all s base last ≡ true → (s.first ≤ base) × (base + 2 ^ n ≤ s.last + 1)
has_all-ends s n base last at e =
    let parts = and_parts (leb s.first base) (leb last s.last) e in
    let low = leb-true s.first base parts.0 in let high = leb-true last s.last parts.1 in
    (low, omega arith)

-- a block of one number that a span reaches and doesn't begin behind is inside
pub not_one : (spans : List Span) (s : Span) (ss : List Span) (n base last : ℕ) → spans ≡ s ∷ ss → EndsFrom base spans → last ≡ base + (2 ^ n - 1) → s.first ≤ last → has_all s base last ≡ false → 0 < n
not_one spans s ss zero base last is e at f out =
    let Q : List Span → Type 0 = λ ts. EndsFrom base ts in
    let reaches : base ≤ s.last = subst Q is e in
    absurd (not_all s 0 base last at out (omega arith) (omega arith))
not_one spans s ss (suc n) base last is e at f out = omega arith

-- the halves of a block are aligned
pub half_aligned : (n base : ℕ) → 0 < n → base % 2 ^ n ≡ 0 → base % 2 ^ (n - 1) ≡ 0
half_aligned n base pos e =
    mod_of_multiple (2 ^ (n - 1)) base (pow_pos (n - 1)) (multiple_lower (n - 1) n base (omega arith) (multiple_from_mod (2 ^ n) base (pow_pos n) e))

pub middle_aligned : (n base : ℕ) → 0 < n → base % 2 ^ n ≡ 0 → (base + 2 ^ (n - 1)) % 2 ^ (n - 1) ≡ 0
middle_aligned n base pos e =
    mod_of_multiple (2 ^ (n - 1)) (base + 2 ^ (n - 1)) (pow_pos (n - 1))
    (multiple_add (2 ^ (n - 1)) base (2 ^ (n - 1)) (multiple_lower (n - 1) n base (omega arith) (multiple_from_mod (2 ^ n) base (pow_pos n) e)) (record { times = 1; is = omega arith }))

pub halves : (n : ℕ) → 0 < n → 2 ^ n ≡ 2 ^ (n - 1) + 2 ^ (n - 1)
halves zero h = absurd (omega arith)
halves (suc n) h = let e : suc n - 1 ≡ n = omega arith in rw e (two-pow-succ n)
