-- What is known of an address that is given.
use Rattle.std.proofs.Common.{◌≡◌, ◌≢◌, ◌<◌, Bool, true, false, not, List, Option, Some, None, arith, ap, ◌∙◌, refl, inl, inr}
use Rattle.std.specs.Prelude.{◌↔◌, Contains}
use Rattle.std.specs.Option.{option_map}
use Rattle.std.proofs.Math.Pow.{pow_pos}
use Rattle.std.proofs.lemmas.Bool.{and_cases, and_from, and_parts, both_ways, eq-eqb, not-false, not-true, or_parts}
use Rattle.tail_base.proofs.Bools.{beq-from}
use Rattle.net_addr.specs.Bits.{Address, Block, size_of}
use Rattle.net_addr.specs.Blocks.{holds, is_within}
use Rattle.net_addr.proofs.BlockLemmas.{holds_from, holds_parts, within_is}
use Rattle.net_addr.proofs.PartLemmas.{map_some}
use Rattle.net_rows.specs.Damage.{address_eq}
use Rattle.net_addr.specs.Tailnet.{tailnet_v4, tailnet_v6}
use Rattle.settings.specs.Settings.{AreSettings}
use Rattle.net_rows.proofs.Members.{list_any_member}
use Rattle.settings.specs.declared.fields.SettingsFields.{SettingsFields}
use Rattle.net_rows.specs.declared.machine.Machine.{Machine}
use Rattle.allot.specs.Addresses.{IsFree, address_at, free_address, has_address, is_free, may_be_given}
use Rattle.allot.proofs.AddressLemmas.{free_at, free_bits}
use Rattle.allot.proofs.SearchLemmas.{least_from-passes, least_from-within, least_from-least, least_from-none}

mapped_none : {A B : Type 0} (f : A → B) (o : Option A) → option_map f o ≡ None → o ≡ None
mapped_none f None h = refl
mapped_none f (Some a) h = absurd (cc)

address_eq-from : (a b : Address) → a ≡ b → address_eq a b ≡ true
address_eq-from a b same =
    and_from _ _ (beq-from _ _ (ap (λ (x : Address). x.v6) same)) (eq-eqb _ _ (ap (λ (x : Address). x.bits) same))

differs : (a b : Address) → address_eq a b ≡ false → a ≢ b
differs a b fails same = both_ways (address_eq a b) fails (address_eq-from a b same)

free_is : (p : Block) (machines : List Machine) (a : Address) → holds p a ≡ true → is_free p machines a ≡ true → IsFree p machines a
free_is p machines a held free =
    let two = and_parts (may_be_given p a) (not (has_address machines a)) free in
    let nobody : (m : Machine) → Contains machines m → (address_eq m.v4 a ≡ false) × (address_eq m.v6 a ≡ false) =
    λ (m : Machine) (inside : Contains machines m). or_parts _ _ (list_any_member _ machines (not-true _ two.1) m inside) in
    record {
      held = held;
      given = two.0;
      v4_fresh = λ m inside. differs m.v4 a (nobody m inside).0;
      v6_fresh = λ m inside. differs m.v6 a (nobody m inside).1;
    }

-- the address that is found is free
pub address_fresh : (p : Block) (machines : List Machine) (a : Address) → free_address p machines ≡ Some a → IsFree p machines a
address_fresh p machines a h =
    let got = map_some (free_bits p machines) (address_at p) a h in
    let passes = least_from-passes (free_at p machines) (size_of p) p.base.bits got.0 got.1 in
    let within = least_from-within (free_at p machines) (size_of p) p.base.bits got.0 got.1 in
    let found = free_is p machines (address_at p got.0) (holds_from p (address_at p got.0) refl within.0 (omega arith)) passes in
    rw got.2 at found

-- an address that isn't free, but may be given, is a machine's
taken : (p : Block) (machines : List Machine) (b : Address) → may_be_given p b ≡ true → is_free p machines b ≡ false → has_address machines b ≡ true
taken p machines b given fails = elim (and_cases (may_be_given p b) (not (has_address machines b)) fails) [
  | inl bad ↦ absurd (both_ways (may_be_given p b) bad given)
  | inr here ↦ not-false (has_address machines b) here
]

-- an address of the prefix is that of its number
by_number : (p : Block) (b : Address) → p.base.v6 ≡ b.v6 → (test : Address → Bool) → test (address_at p b.bits) ≡ false → test b ≡ false
by_number p b family test h = rw family at h

-- machines have each smaller address that may be given
pub address_least : (p : Block) (machines : List Machine) (a : Address) → free_address p machines ≡ Some a
    → (b : Address) → holds p b ≡ true → may_be_given p b ≡ true → b.bits < a.bits → has_address machines b ≡ true
address_least p machines a h b held given less =
    let got = map_some (free_bits p machines) (address_at p) a h in
    let bits : got.0 ≡ a.bits = ap (λ (x : Address). x.bits) got.2 in
    let ends = holds_parts p b held in
    let fails = least_from-least (free_at p machines) (size_of p) p.base.bits got.0 got.1 b.bits ends.1 (omega arith) in
    taken p machines b given (by_number p b ends.0 (is_free p machines) fails)

-- where none is found, machines have all of them
pub address_none : (p : Block) (machines : List Machine) → free_address p machines ≡ None
    → (b : Address) → holds p b ≡ true → may_be_given p b ≡ true → has_address machines b ≡ true
address_none p machines h b held given =
    let some : 0 < size_of p = pow_pos _ in
    let ends = holds_parts p b held in
    let fails = least_from-none (free_at p machines) (size_of p) p.base.bits (mapped_none (address_at p) (free_bits p machines) h) b.bits ends.1 (omega (arith, ends.2)) in
    taken p machines b given (by_number p b ends.0 (is_free p machines) fails)

found_or_none : (p : Block) (machines : List Machine) (r : Option Address) → free_address p machines ≡ r
    → ((b : Address) → holds p b ≡ true → may_be_given p b ≡ true → has_address machines b ≡ true) → r ≡ None
found_or_none p machines None e all = refl
found_or_none p machines (Some a) e all =
    let got = map_some (free_bits p machines) (address_at p) a e in
    let passes = least_from-passes (free_at p machines) (size_of p) p.base.bits got.0 got.1 in
    let free = address_fresh p machines a e in
    let two = and_parts (may_be_given p (address_at p got.0)) (not (has_address machines (address_at p got.0))) passes in
    let has : has_address machines (address_at p got.0) ≡ true = ap (has_address machines) got.2 ∙ all a free.held free.given in
    absurd (both_ways _ (not-true _ two.1) has)

-- none is found exactly there
pub none_is : (p : Block) (machines : List Machine) → (free_address p machines ≡ None) ↔ ((b : Address) → holds p b ≡ true → may_be_given p b ≡ true → has_address machines b ≡ true)
none_is p machines = (address_none p machines, found_or_none p machines (free_address p machines) refl)

-- the address that is found in a prefix lies in the prefix around it
address_inside : (outer p : Block) (machines : List Machine) (a : Address) → is_within p outer ≡ true → free_address p machines ≡ Some a → holds outer a ≡ true
address_inside outer p machines a within h = (within_is p outer).0 within a (address_fresh p machines a h).held

-- an address of a set prefix is the tailnet's
pub v4_inside : (s : SettingsFields) (machines : List Machine) (a : Address) → AreSettings s → free_address s.prefix_v4 machines ≡ Some a → holds tailnet_v4 a ≡ true
v4_inside s machines a rules h = address_inside tailnet_v4 s.prefix_v4 machines a rules.prefix_v4 h

pub v6_inside : (s : SettingsFields) (machines : List Machine) (a : Address) → AreSettings s → free_address s.prefix_v6 machines ≡ Some a → holds tailnet_v6 a ≡ true
v6_inside s machines a rules h = address_inside tailnet_v6 s.prefix_v6 machines a rules.prefix_v6 h
