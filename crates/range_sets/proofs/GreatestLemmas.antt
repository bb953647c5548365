-- Numbers that all pass, and the greatest prefixes of numbers that do.
use Rattle.std.proofs.Common.{◌≡◌, ℕ, zero, suc, ◌+◌, ◌-◌, ◌^◌, ◌<◌, ◌≤◌, Bool, true, false, [], ◌∷◌, ◌++◌, arith, refl, inl, inr}
use Rattle.std.proofs.lemmas.Bool.{and_cases, and_from, and_parts, cases_lt, false_from_ne_true, both_ways}
use Rattle.std.proofs.Math.Nat.{two-pow-succ}
use Rattle.std.proofs.lemmas.Nat.{pow_pos}
use Rattle.range_sets.specs.Canonical.{all_in, block_at, greatest_in}

-- the test passes for each of the numbers from base to before high
abbrev pub PassesFrom : (ℕ → Bool) → ℕ → ℕ → Type 0
PassesFrom h base high = (x : ℕ) → base ≤ x → x < high → h x ≡ true

pub all_from : (h : ℕ → Bool) (n base : ℕ) → PassesFrom h base (base + 2 ^ n) → all_in h n base ≡ true
unfolding all_in
all_from h zero base f = f base (omega arith) (omega arith)
all_from h (suc n) base f =
    let two : 2 ^ suc n ≡ 2 ^ n + 2 ^ n = two-pow-succ n in
    and_from _ _ (all_from h n base (λ x a b. f x a (omega arith))) (all_from h n (base + 2 ^ n) (λ x a b. f x (omega arith) (omega arith)))

pub all_at : (h : ℕ → Bool) (n base : ℕ) → all_in h n base ≡ true → PassesFrom h base (base + 2 ^ n)
unfolding all_in
all_at h zero base e x a b = let same : x ≡ base = omega arith in rw same e
all_at h (suc n) base e x a b =
    let two : 2 ^ suc n ≡ 2 ^ n + 2 ^ n = two-pow-succ n in
    let parts = and_parts (all_in h n base) (all_in h n (base + 2 ^ n)) e in
    elim (cases_lt x (base + 2 ^ n)) [
      | inl low ↦ all_at h n base parts.0 x a low
      | inr high ↦ all_at h n (base + 2 ^ n) parts.1 x high (omega arith)
    ]

-- where not all pass, some number doesn't
pub all_false : (h : ℕ → Bool) (n base x : ℕ) → base ≤ x → x < base + 2 ^ n → h x ≡ false → all_in h n base ≡ false
all_false h n base x a b e = false_from_ne_true _ (λ t. both_ways (h x) e (all_at h n base t x a b))

pub some_false : (h : ℕ → Bool) (n base : ℕ) → all_in h n base ≡ false → (x : ℕ) × (base ≤ x) × (x < base + 2 ^ n) × (h x ≡ false)
unfolding all_in
some_false h zero base e = (base, omega arith, omega arith, e)
some_false h (suc n) base e =
    let two : 2 ^ suc n ≡ 2 ^ n + 2 ^ n = two-pow-succ n in
    elim (and_cases (all_in h n base) (all_in h n (base + 2 ^ n)) e) [
      | inl low ↦ (let w = some_false h n base low in let b = w.2 in (w.0, w.1, omega arith, w.3))
      | inr high ↦ (let w = some_false h n (base + 2 ^ n) high in let a = w.1 in let b = w.2 in (w.0, omega arith, omega arith, w.3))
    ]

-- ---- tests that agree on the numbers

pub all_same : (h k : ℕ → Bool) (n base : ℕ) → ((x : ℕ) → base ≤ x → x < base + 2 ^ n → h x ≡ k x) → all_in h n base ≡ all_in k n base
unfolding all_in
all_same h k zero base f = f base (omega arith) (omega arith)
all_same h k (suc n) base f =
    let two : 2 ^ suc n ≡ 2 ^ n + 2 ^ n = two-pow-succ n in
    rw (all_same h k n base (λ x a b. f x a (omega arith)), all_same h k n (base + 2 ^ n) (λ x a b. f x (omega arith) (omega arith))) refl

pub greatest_same : (v6 : Bool) (h k : ℕ → Bool) (n base : ℕ) → ((x : ℕ) → base ≤ x → x < base + 2 ^ n → h x ≡ k x) → greatest_in v6 h n base ≡ greatest_in v6 k n base
unfolding greatest_in
greatest_same v6 h k zero base f = rw (f base (omega arith) (omega arith)) refl
greatest_same v6 h k (suc n) base f =
    let two : 2 ^ suc n ≡ 2 ^ n + 2 ^ n = two-pow-succ n in
    rw (all_same h k (suc n) base f, greatest_same v6 h k n base (λ x a b. f x a (omega arith)), greatest_same v6 h k n (base + 2 ^ n) (λ x a b. f x (omega arith) (omega arith))) refl

-- ---- the cases

pub greatest_none : (v6 : Bool) (h : ℕ → Bool) (n base : ℕ) → ((x : ℕ) → base ≤ x → x < base + 2 ^ n → h x ≡ false) → greatest_in v6 h n base ≡ []
unfolding greatest_in
greatest_none v6 h zero base f = rw (f base (omega arith) (omega arith)) refl
greatest_none v6 h (suc n) base f =
    let two : 2 ^ suc n ≡ 2 ^ n + 2 ^ n = two-pow-succ n in
    let pos : zero < 2 ^ suc n = pow_pos (suc n) in
    rw (
      all_false h (suc n) base base (omega arith) (omega arith) (f base (omega arith) (omega arith)),
      greatest_none v6 h n base (λ x a b. f x a (omega arith)),
      greatest_none v6 h n (base + 2 ^ n) (λ x a b. f x (omega arith) (omega arith)),
    ) refl

pub greatest_whole : (v6 : Bool) (h : ℕ → Bool) (n base : ℕ) → PassesFrom h base (base + 2 ^ n) → greatest_in v6 h n base ≡ block_at v6 n base ∷ []
unfolding greatest_in
greatest_whole v6 h zero base f = rw (f base (omega arith) (omega arith)) refl
greatest_whole v6 h (suc n) base f = rw (all_from h (suc n) base f) refl

pub greatest_split : (v6 : Bool) (h : ℕ → Bool) (n base x : ℕ) → base ≤ x → x < base + 2 ^ n → h x ≡ false → 0 < n →
    greatest_in v6 h n base ≡ greatest_in v6 h (n - 1) base ++ greatest_in v6 h (n - 1) (base + 2 ^ (n - 1))
unfolding greatest_in
greatest_split v6 h zero base x a b e pos = absurd (omega arith)
greatest_split v6 h (suc n) base x a b e pos = let less : suc n - 1 ≡ n = omega arith in rw (less, all_false h (suc n) base x a b e) refl
