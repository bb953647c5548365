-- The search for a free address.
use Rattle.std.proofs.Common.{◌≡◌, ◌<◌, ◌+◌, ℕ, Bool, true, false, not, ◌&&◌, ◌==◌, List, Option, Some, None, sym, ap, ◌∙◌, refl, arith, ◌⊎◌, inl, inr}
use Rattle.std.specs.Option.{option_map}
use Rattle.std.proofs.Math.Bool.{and-false}
use Rattle.std.proofs.Math.Pow.{pow_pos}
use Rattle.std.proofs.lemmas.Bool.{and_from, eq-eqb}
use Rattle.net_addr.specs.Bits.{Address, Block, size_of}
use Rattle.net_addr.specs.Blocks.{last_of}
use Rattle.net_rows.specs.declared.machine.Machine.{Machine}
use Rattle.allot.specs.Addresses.{is_free, address_at, has_address, may_be_given, least_from, free_address}

-- whether the number's address in the prefix is free
abbrev pub free_at : Block → List Machine → ℕ → Bool
free_at p machines n = is_free p machines (address_at p n)

-- the number of the least address that is free
abbrev pub free_bits : Block → List Machine → Option ℕ
free_bits p machines = least_from (free_at p machines) (size_of p) p.base.bits

-- a conjunction whose second part is the negation of what holds
and_not : (a b c d : Bool) → b ≡ true → (a && not b && c && d) ≡ false
and_not true true c d h = refl
and_not false true c d h = refl
and_not a false c d h = absurd (cc)

pub is_address_at : (p : Block) (base a : Address) (v6 : Bool) (n : ℕ) → base ≡ p.base → v6 ≡ base.v6 → a ≡ record { v6 = v6; bits = n } → a ≡ address_at p n
is_address_at p base a v6 n b v is =
    let family : v6 ≡ p.base.v6 = v ∙ ap (λ (x : Address). x.v6) b in
    rw family at is

pub free_at-is : (p : Block) (machines : List Machine) (a : Address) (n : ℕ) → a ≡ address_at p n
    → may_be_given p a ≡ true → has_address machines a ≡ false → free_at p machines n ≡ true
free_at-is p machines a n is given fresh = ap (is_free p machines) (sym is) ∙ and_from (may_be_given p a) (not (has_address machines a)) given (ap not fresh)

pub free_at-not : (p : Block) (machines : List Machine) (a : Address) (n : ℕ) → a ≡ address_at p n
    → (may_be_given p a ≡ false) ⊎ (has_address machines a ≡ true) → free_at p machines n ≡ false
free_at-not p machines a n is (inl kept) = ap (is_free p machines) (sym is) ∙ ap (λ b. b && not (has_address machines a)) kept
free_at-not p machines a n is (inr held) = ap (is_free p machines) (sym is) ∙ ap (λ b. may_be_given p a && not b) held ∙ and-false (may_be_given p a)

pub free_address-found : (p : Block) (machines : List Machine) (a : Address) (n : ℕ) → a ≡ address_at p n
    → free_bits p machines ≡ Some n → Some a ≡ free_address p machines
free_address-found p machines a n is h = ap Some is ∙ ap (option_map (address_at p)) (sym h)

pub free_address-none : (p : Block) (machines : List Machine) → free_bits p machines ≡ None → None ≡ free_address p machines
free_address-none p machines h = ap (option_map (address_at p)) (sym h)

-- the last address of a prefix isn't free
pub last_not_free : (p : Block) (machines : List Machine) (n : ℕ) → n + 1 ≡ p.base.bits + size_of p → free_at p machines n ≡ false
last_not_free p machines n last =
    let some : 0 < size_of p = pow_pos _ in
    and_not (not (n == p.base.bits)) (n == last_of p) _ _ (eq-eqb n (last_of p) (omega arith))
