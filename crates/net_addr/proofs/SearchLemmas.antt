-- What a search over all addresses finds.
use Rattle.std.proofs.Common.{◌≡◌, ◌<◌, ◌^◌, ℕ, Bool, true, false, inl, inr}
use Rattle.std.proofs.lemmas.Bool.{or_cases, or_left, or_right}
use Rattle.tail_base.specs.Searches.{some_below}
use Rattle.tail_base.proofs.Searches.{some_finds, some_found}
use Rattle.net_addr.specs.Bits.{Address, family_size}
use Rattle.net_addr.specs.Searches.{some_address}

abbrev in_v4 : (Address → Bool) → ℕ → Bool
in_v4 test x = test (record { v6 = false; bits = x })

abbrev in_v6 : (Address → Bool) → ℕ → Bool
in_v6 test x = test (record { v6 = true; bits = x })

family_found : (test : Address → Bool) (v6 : Bool) (bits : ℕ) → bits < family_size v6 → test (record { v6 = v6; bits = bits }) ≡ true → some_address test ≡ true
unfolding some_address
family_found test false bits small e = or_left (some_below (2 ^ 32) (in_v4 test)) (some_below (2 ^ 128) (in_v6 test)) (some_found (2 ^ 32) (in_v4 test) bits small e)
family_found test true bits small e = or_right (some_below (2 ^ 32) (in_v4 test)) (some_below (2 ^ 128) (in_v6 test)) (some_found (2 ^ 128) (in_v6 test) bits small e)

pub address_found : (test : Address → Bool) (addr : Address) → addr.bits < family_size addr.v6 → test addr ≡ true → some_address test ≡ true
address_found test addr small e = family_found test addr.v6 addr.bits small e

pub address_finds : (test : Address → Bool) → some_address test ≡ true → (addr : Address) × (addr.bits < family_size addr.v6) × (test addr ≡ true)
unfolding some_address
address_finds test h = elim (or_cases (some_below (2 ^ 32) (in_v4 test)) (some_below (2 ^ 128) (in_v6 test)) h) [
  | inl first ↦ (let found = some_finds (2 ^ 32) (in_v4 test) first in (record { v6 = false; bits = found.0 }, found.1, found.2))
  | inr second ↦ (let found = some_finds (2 ^ 128) (in_v6 test) second in (record { v6 = true; bits = found.0 }, found.1, found.2))
]
