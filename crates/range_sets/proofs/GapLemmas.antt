-- The numbers between spans.
use Rattle.std.proofs.Common.{◌≡◌, ℕ, ◌+◌, ◌-◌, ◌<◌, ◌≤◌, Bool, true, false, cond, leb, ltb, not, ◌&&◌, ◌||◌, List, [], ◌∷◌, ◌++◌, length, get_or, drop, arith, refl, ap, sym, ◌∙◌, subst, append-nil, inl, inr, Result, Ok, Err, IfOk}
use Rattle.std.proofs.lemmas.List.{drop_more}
use Rattle.std.proofs.lemmas.List.Folds.{list_any-append}
use Rattle.std.proofs.lemmas.Bool.{cases_lt}
use Rattle.std.proofs.lemmas.Bool.Decides.{nat_tests}
use Rattle.std.proofs.Math.Bool.{or-false, or_assoc}
use Rattle.range_sets.specs.declared.span.Span.{Span}
use Rattle.range_sets.specs.Gaps.{gap}
use Rattle.range_sets.specs.Spans.{AreApart, in_span, spans_hold}
use Rattle.range_sets.proofs.SpanLemmas.{AreApart-higher, AreApart-le, AreApart-lower, AreApart-push, spans_hold-above, spans_hold-below}

spans_hold-gap_at : (a b x : ℕ) (t : Bool) → ltb a b ≡ t → spans_hold (cond t (record { first = a; last = b - 1 } ∷ []) []) x ≡ (leb a x && ltb x b)
spans_hold-gap_at a b x true e = or-false _ ∙ grind (arith, nat_tests)
spans_hold-gap_at a b x false e = grind (arith, nat_tests)

spans_hold-gap : (a b x : ℕ) → spans_hold (gap a b) x ≡ (leb a x && ltb x b)
spans_hold-gap a b x = spans_hold-gap_at a b x (ltb a b) refl

gap_apart_at : (low a b high : ℕ) (out : List Span) (t : Bool) → ltb a b ≡ t → AreApart low out a → b + 1 ≤ high → a ≤ high → AreApart low (out ++ cond t (record { first = a; last = b - 1 } ∷ []) []) high
gap_apart_at low a b high out true e h f g =
    let lt : a < b = grind (arith, nat_tests) in
    AreApart-push low high out (record { first = a; last = b - 1 }) h (omega arith) (omega arith)
gap_apart_at low a b high out false e h f g = rw append-nil (AreApart-higher low a high out h g)

gap_apart : (low a b high : ℕ) (out : List Span) → AreApart low out a → b + 1 ≤ high → a ≤ high → AreApart low (out ++ gap a b) high
gap_apart low a b high out h f g = gap_apart_at low a b high out (ltb a b) refl h f g

turn_tests : (next first last x : ℕ) (r : Bool) → next ≤ first → first ≤ last → (x < last + 2 → r ≡ false) →
    ((leb next x && ltb x first) || (leb (last + 1) x && not r)) ≡ (leb next x && not ((leb first x && leb x last) || r))
turn_tests next first last x r h e f = grind (arith, nat_tests)

-- The gaps so far, the number from which the next may go, and the spans that are left.
pub record Gaps (highest : ℕ) (out : List Span) (next : ℕ) (rest spans : List Span) : Type 0 where
  pub order : AreApart 0 out next
  pub left : AreApart next rest (highest + 2)
  pub within : next ≤ highest
  pub same : (x : ℕ) → x ≤ highest → (spans_hold out x || (leb next x && not (spans_hold rest x))) ≡ not (spans_hold spans x)

gap_same : (highest : ℕ) (out : List Span) (next : ℕ) (s : Span) (rest spans : List Span) → Gaps highest out next (s ∷ rest) spans → (x : ℕ) → x ≤ highest →
    (spans_hold (out ++ gap next s.first) x || (leb (s.last + 1) x && not (spans_hold rest x))) ≡ not (spans_hold spans x)
gap_same highest out next s rest spans g x h =
    ap (λ b. b || (leb (s.last + 1) x && not (spans_hold rest x))) (list_any-append (λ t. in_span t x) out (gap next s.first) ∙ ap (λ b. spans_hold out x || b) (spans_hold-gap next s.first x))
    ∙ (or_assoc (spans_hold out x) _ _
    ∙ (ap (λ b. spans_hold out x || b) (turn_tests next s.first s.last x (spans_hold rest x) g.left.0 g.left.1 (spans_hold-below (s.last + 2) (highest + 2) x rest g.left.2))
    ∙ g.same x h))

pub gaps_more : (highest : ℕ) (out : List Span) (next : ℕ) (s : Span) (rest spans : List Span) → s.last < highest → Gaps highest out next (s ∷ rest) spans → Gaps highest (out ++ gap next s.first) (s.last + 1) rest spans
gaps_more highest out next s rest spans h g = record {
  order = let a = g.left.0 in let b = g.left.1 in gap_apart 0 next s.first (s.last + 1) out g.order (omega arith) (omega arith);
  left = AreApart-lower (s.last + 2) (s.last + 1) (highest + 2) rest g.left.2 (omega arith);
  within = omega arith;
  same = gap_same highest out next s rest spans g;
}

pub gaps_turn : (highest : ℕ) (out : List Span) (next : ℕ) (ss : List Span) (i : ℕ) (d : Span) (spans : List Span) → i < length ss → Gaps highest out next (drop i ss) spans → Gaps highest out next (get_or ss i d ∷ drop (i + 1) ss) spans
gaps_turn highest out next ss i d spans h g = let P : List Span → Type 0 = λ rest. Gaps highest out next rest spans in subst P (drop_more ss i d h) g

pub stop_apart : (highest : ℕ) (out : List Span) (next : ℕ) (s : Span) (rest spans : List Span) → Gaps highest out next (s ∷ rest) spans → AreApart 0 (out ++ gap next s.first) (highest + 2)
stop_apart highest out next s rest spans g =
    let a = g.left.0 in let b = g.left.1 in let c = AreApart-le (s.last + 2) (highest + 2) rest g.left.2 in
    gap_apart 0 next s.first (highest + 2) out g.order (omega arith) (omega arith)

past : (a x : ℕ) (r : Bool) → x < a → (leb a x && r) ≡ false
past a x r h = grind (arith, nat_tests)

pub stop_same : (highest : ℕ) (out : List Span) (next : ℕ) (s : Span) (rest spans : List Span) → highest ≤ s.last → Gaps highest out next (s ∷ rest) spans → (x : ℕ) → x ≤ highest → spans_hold (out ++ gap next s.first) x ≡ not (spans_hold spans x)
stop_same highest out next s rest spans e g x h =
    sym (ap (λ b. spans_hold (out ++ gap next s.first) x || b) (past (s.last + 1) x (not (spans_hold rest x)) (omega arith)) ∙ or-false _) ∙ gap_same highest out next s rest spans g x h

pub end_apart : (highest : ℕ) (out : List Span) (next : ℕ) (spans : List Span) → Gaps highest out next [] spans → AreApart 0 (out ++ record { first = next; last = highest } ∷ []) (highest + 2)
end_apart highest out next spans g = AreApart-push 0 (highest + 2) out (record { first = next; last = highest }) g.order g.within (omega arith)

pub gaps_end : (highest : ℕ) (out : List Span) (next : ℕ) (rest spans : List Span) → rest ≡ [] → Gaps highest out next rest spans → Gaps highest out next [] spans
gaps_end highest out next rest spans e g = let P : List Span → Type 0 = λ ss. Gaps highest out next ss spans in subst P e g

-- ---- what two lists share

-- what follows from two facts on the value, if there is one
pub if_ok_both : {T E : Type 0} (r : Result T E) (P Q R : T → Type 0) → ((v : T) → P v → Q v → R v) → IfOk r P → IfOk r Q → IfOk r R
if_ok_both (Ok v) P Q R f p q = f v p q
if_ok_both (Err e) P Q R f p q = tt

de_morgan : (a b : Bool) → not (not a || not b) ≡ (a && b)
de_morgan true true = refl
de_morgan true false = refl
de_morgan false b = refl

or_without : (a b : Bool) → not (not a || b) ≡ (a && not b)
or_without true b = refl
or_without false b = refl

false_and : (a b c : Bool) → a ≡ false → b ≡ false → a ≡ (b && c)
false_and a b c e f = rw (e, f) refl

-- beyond the highest number no list has one
pub shared_same : (v outside na nb a b : List Span) (highest : ℕ) → AreApart 0 v (highest + 2) → AreApart 0 a (highest + 2) →
    ((x : ℕ) → x ≤ highest → spans_hold v x ≡ not (spans_hold outside x)) → ((x : ℕ) → spans_hold outside x ≡ (spans_hold na x || spans_hold nb x)) →
    ((x : ℕ) → x ≤ highest → spans_hold na x ≡ not (spans_hold a x)) → ((x : ℕ) → x ≤ highest → spans_hold nb x ≡ not (spans_hold b x)) →
    (x : ℕ) → spans_hold v x ≡ (spans_hold a x && spans_hold b x)
shared_same v outside na nb a b highest va aa ev eo ea eb x =
    elim (cases_lt highest x) [
      | inl beyond ↦ false_and (spans_hold v x) (spans_hold a x) (spans_hold b x) (spans_hold-above 0 (highest + 2) x v va (omega arith)) (spans_hold-above 0 (highest + 2) x a aa (omega arith))
      | inr within ↦ rw (ev x within, eo x, ea x within, eb x within) (de_morgan (spans_hold a x) (spans_hold b x))
    ]

pub without_same : (v outside na a b : List Span) (highest : ℕ) → AreApart 0 v (highest + 2) → AreApart 0 a (highest + 2) →
    ((x : ℕ) → x ≤ highest → spans_hold v x ≡ not (spans_hold outside x)) → ((x : ℕ) → spans_hold outside x ≡ (spans_hold na x || spans_hold b x)) →
    ((x : ℕ) → x ≤ highest → spans_hold na x ≡ not (spans_hold a x)) →
    (x : ℕ) → spans_hold v x ≡ (spans_hold a x && not (spans_hold b x))
without_same v outside na a b highest va aa ev eo ea x =
    elim (cases_lt highest x) [
      | inl beyond ↦ false_and (spans_hold v x) (spans_hold a x) (not (spans_hold b x)) (spans_hold-above 0 (highest + 2) x v va (omega arith)) (spans_hold-above 0 (highest + 2) x a aa (omega arith))
      | inr within ↦ rw (ev x within, eo x, ea x within) (or_without (spans_hold a x) (spans_hold b x))
    ]
