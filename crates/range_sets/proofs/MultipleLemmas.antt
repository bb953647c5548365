-- Multiples of powers of two.
use Rattle.std.proofs.Common.{◌≡◌, ℕ, suc, ◌+◌, ◌-◌, ◌*◌, ◌/◌, ◌%◌, ◌^◌, ◌<◌, ◌≤◌, arith, ap, sym, ◌∙◌, inl, inr}
use Rattle.std.proofs.lemmas.Bool.{cases_lt}
use Rattle.std.proofs.lemmas.Nat.{le-div, mod-mul-add, mul-le, pow-add}

-- x is a whole number of times d
pub record IsMultiple (d x : ℕ) : Type 0 where
  pub times : ℕ
  pub is : x ≡ times * d

pub multiple_from_mod : (d x : ℕ) → 0 < d → x % d ≡ 0 → IsMultiple d x
multiple_from_mod d x pos e = record { times = x / d; is = omega arith }

pub mod_of_multiple : (d x : ℕ) → 0 < d → IsMultiple d x → x % d ≡ 0
mod_of_multiple d x pos m =
    let same : m.times * d + 0 ≡ x = omega (arith, m.is) in
    rw (← same) (mod-mul-add m.times d 0 pos)

pub multiple_add : (d x y : ℕ) → IsMultiple d x → IsMultiple d y → IsMultiple d (x + y)
multiple_add d x y m n = record { times = m.times + n.times; is = rw (m.is, n.is) (grind arith) }

multiple_times : (c d x : ℕ) → IsMultiple (c * d) x → IsMultiple d x
multiple_times c d x m = record { times = m.times * c; is = rw m.is (grind arith) }

-- a multiple of a power is one of each lower power
pub multiple_lower : (m n x : ℕ) → m ≤ n → IsMultiple (2 ^ n) x → IsMultiple (2 ^ m) x
multiple_lower m n x le h =
    let whole : (n - m) + m ≡ n = omega arith in
    let cut : 2 ^ n ≡ 2 ^ (n - m) * 2 ^ m = ap (λ k. 2 ^ k) (sym whole) ∙ pow-add 2 (n - m) m in
    multiple_times (2 ^ (n - m)) (2 ^ m) x (rw cut at h)

-- between a multiple and a higher one there is room for d
pub multiple_next : (d x y : ℕ) → IsMultiple d x → IsMultiple d y → x < y → x + d ≤ y
multiple_next d x y m n lt =
    elim (cases_lt m.times n.times) [
      | inl fewer ↦ (let more : suc m.times * d ≤ n.times * d = mul-le (suc m.times) d n.times d (omega arith) (omega arith) in
          let one : suc m.times * d ≡ m.times * d + d = grind arith in rw (m.is, n.is) (omega arith))
      | inr other ↦ absurd (let less : n.times * d ≤ m.times * d = mul-le n.times d m.times d other (omega arith) in
          let a = m.is in let b = n.is in omega arith)
    ]

-- the greatest multiple up to x
pub floor_is : (d x : ℕ) → 0 < d → IsMultiple d (x - x % d)
floor_is d x pos = record { times = x / d; is = omega arith }

pub floor_above : (d x y : ℕ) → 0 < d → IsMultiple d y → y ≤ x → y ≤ x - x % d
floor_above d x y pos m le =
    let a = m.is in
    let times : m.times ≤ x / d = le-div m.times x d pos (omega arith) in
    let under : m.times * d ≤ x / d * d = mul-le m.times d (x / d) d times (omega arith) in
    let f = (floor_is d x pos).is in
    omega arith
