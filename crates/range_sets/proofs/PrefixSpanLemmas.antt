-- The numbers of prefixes.
use Rattle.std.proofs.Common.{◌≡◌, ℕ, ◌+◌, ◌<◌, ◌≤◌, Bool, true, false, cond, ◌&&◌, ◌||◌, List, [], ◌∷◌, ◌++◌, length, get_or, take, arith, refl, subst, ap, sym, ◌∙◌, inl, inr}
use Rattle.std.specs.Bool.{beq}
use Rattle.std.specs.Prelude.{nat_le}
use Rattle.std.specs.List.{All, AllByRecursion}
use Rattle.std.proofs.lemmas.List.{take_more}
use Rattle.std.proofs.lemmas.List.Elements.{All-append, All-from_recursion}
use Rattle.std.specs.List.Sorted.{IsNonDecreasingBy}
use Rattle.std.proofs.Math.Bool.{and_assoc}
use Rattle.std.proofs.lemmas.Bool.{cases_Bool}
use Rattle.std.proofs.lemmas.List.Sorted.{IsNonDecreasingBy-drop}
use Rattle.std.proofs.lemmas.Nat.{pow_pos}
use Rattle.tail_base.proofs.Bools.{beq-true}
use Rattle.net_addr.specs.Bits.{Address, Block, IsBlock, family_size, size_of}
use Rattle.net_addr.specs.Blocks.{holds, last_of}
use Rattle.net_addr.proofs.BlockLemmas.{prefix_fits}
use Rattle.range_sets.specs.declared.span.Span.{Span}
use Rattle.range_sets.specs.Joins.{BeginsFrom}
use Rattle.range_sets.specs.Sets.{family_spans, some_holds, span_of}
use Rattle.range_sets.specs.Spans.{AreBelow, AreRising, in_span, spans_hold}

-- a span that isn't empty and ends below the size
abbrev pub IsSound : ℕ → Span → Type 0
IsSound size s = (s.first ≤ s.last) × (s.last < size)

pub span_sound : (p : Block) → IsBlock p → IsSound (family_size p.base.v6) (span_of p)
span_sound p b =
    let fits = prefix_fits p b in let pos : 0 < size_of p = pow_pos _ in
    (omega arith, omega arith)

-- ---- the spans of a family

pub family_spans-append : (v6 : Bool) (ps qs : List Block) → family_spans v6 (ps ++ qs) ≡ family_spans v6 ps ++ family_spans v6 qs
family_spans-append v6 [] qs = refl
family_spans-append v6 (p ∷ ps) qs =
    elim (cases_Bool (beq p.base.v6 v6)) [
      | inl is ↦ rw (is, family_spans-append v6 ps qs) refl
      | inr other ↦ rw (other, family_spans-append v6 ps qs) refl
    ]

beq_same : (a b c : Bool) → a ≡ b → beq c a ≡ beq c b
beq_same a b c e = ap (λ t. beq c t) e

one_more : (t r u v : Bool) → (t && u) ≡ v → (cond t (u || r) r) ≡ (v || r)
one_more true r u v e = ap (λ w. w || r) e
one_more false r u v e = ap (λ w. w || r) e

cond_span : (t : Bool) (s : Span) (ss : List Span) (x : ℕ) → spans_hold (cond t (s ∷ ss) ss) x ≡ cond t (in_span s x || spans_hold ss x) (spans_hold ss x)
cond_span true s ss x = refl
cond_span false s ss x = refl

pub family_spans_hold : (v6 : Bool) (ps : List Block) (addr : Address) → addr.v6 ≡ v6 → spans_hold (family_spans v6 ps) addr.bits ≡ some_holds ps addr
family_spans_hold v6 [] addr e = refl
family_spans_hold v6 (p ∷ ps) addr e =
    cond_span (beq p.base.v6 v6) (span_of p) (family_spans v6 ps) addr.bits
    ∙ (one_more (beq p.base.v6 v6) (spans_hold (family_spans v6 ps) addr.bits) (in_span (span_of p) addr.bits) (holds p addr)
    (ap (λ t. t && in_span (span_of p) addr.bits) (sym (beq_same addr.v6 v6 p.base.v6 e)) ∙ sym (and_assoc (beq p.base.v6 addr.v6) (nat_le p.base.bits addr.bits) (nat_le addr.bits (last_of p))))
    ∙ ap (λ t. holds p addr || t) (family_spans_hold v6 ps addr e))

-- ---- spans by their first numbers

pub rising_from_sorted : (low size : ℕ) (ss : List Span) → IsNonDecreasingBy (λ s. s.first) ss → AllByRecursion (IsSound size) ss → BeginsFrom low ss → AreRising low ss
rising_from_sorted low size [] sorted all h = tt
rising_from_sorted low size (s ∷ []) sorted all h = (h, all.0.0, tt)
rising_from_sorted low size (s ∷ t ∷ ss) sorted all h =
    (h, all.0.0, rising_from_sorted s.first size (t ∷ ss) (IsNonDecreasingBy-drop (λ r. r.first) 1 (s ∷ t ∷ ss) sorted) all.1 (sorted 0 1 s (omega arith) (omega arith)))

pub begins_from_zero : (ss : List Span) → BeginsFrom 0 ss
begins_from_zero [] = tt
begins_from_zero (s ∷ ss) = omega arith

pub below_from_sound : (size : ℕ) (ss : List Span) → AllByRecursion (IsSound size) ss → AreBelow size ss
below_from_sound size [] h = tt
below_from_sound size (s ∷ ss) h = (h.0.1, below_from_sound size ss h.1)

-- ---- one prefix more

pub family_more : (v6 : Bool) (ps : List Block) (i : ℕ) (out new : List Span) (p : Block) → i < length ps → p ≡ get_or ps i p → out ≡ family_spans v6 (take i ps) → new ≡ out ++ family_spans v6 (p ∷ []) → new ≡ family_spans v6 (take (i + 1) ps)
family_more v6 ps i out new p lt is told put =
    put ∙ (ap (λ ss. ss ++ family_spans v6 (p ∷ [])) told
    ∙ (sym (family_spans-append v6 (take i ps) (p ∷ []))
    ∙ (ap (λ q. family_spans v6 (take i ps ++ q ∷ [])) is
    ∙ sym (ap (λ qs. family_spans v6 qs) (take_more ps i p lt)))))

one_sound_at : (v6 : Bool) (p : Block) (t : Bool) → beq p.base.v6 v6 ≡ t → IsBlock p → AllByRecursion (IsSound (family_size v6)) (cond t (span_of p ∷ []) [])
one_sound_at v6 p true e b =
    let P : Bool → Type 0 = λ f. IsSound (family_size f) (span_of p) in
    (subst P (beq-true p.base.v6 v6 e) (span_sound p b), tt)
one_sound_at v6 p false e b = tt

pub sound_more : (v6 : Bool) (out new : List Span) (p : Block) → IsBlock p → new ≡ out ++ family_spans v6 (p ∷ []) → All (IsSound (family_size v6)) out → All (IsSound (family_size v6)) new
sound_more v6 out new p b put all =
    let P : List Span → Type 0 = λ ss. All (IsSound (family_size v6)) ss in
    subst P (sym put) (All-append (IsSound (family_size v6)) out (family_spans v6 (p ∷ [])) all (All-from_recursion (IsSound (family_size v6)) _ (one_sound_at v6 p (beq p.base.v6 v6) refl b)))
