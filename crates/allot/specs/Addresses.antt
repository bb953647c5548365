-- Which address a new machine gets.
use Rattle.std.specs.Prelude.{◌≡◌, ◌≢◌, ◌+◌, ℕ, Contains, true, zero, suc, Bool, List, Option, Some, None, if◌then◌else◌, nat_le, ◌&&◌, ◌||◌, ◌==◌, not}
use Rattle.std.specs.List.{list_any}
use Rattle.std.specs.Option.{option_map}
use Rattle.net_addr.specs.Bits.{Address, Block, size_of}
use Rattle.net_addr.specs.Blocks.{holds, last_of}
use Rattle.net_rows.specs.Damage.{address_eq}
use Rattle.net_rows.specs.declared.machine.Machine.{Machine}
use Rattle.allot.specs.declared.addresses.TheConstants.{CHROMEOS_FIRST, CHROMEOS_LAST, SERVICE_V4, SERVICE_V6}
use Rattle.settings.specs.declared.fields.SettingsFields.{SettingsFields}

-- the addresses where clients answer MagicDNS, and those that ChromeOS gives its virtual machines
abbrev pub is_reserved : Address → Bool
is_reserved a =
    if a.v6 then a.bits == SERVICE_V6
    else a.bits == SERVICE_V4 || (nat_le CHROMEOS_FIRST a.bits && nat_le a.bits CHROMEOS_LAST)

-- the machine has the address
abbrev pub holds_address : Address → Machine → Bool
holds_address a m = address_eq m.v4 a || address_eq m.v6 a

-- a machine has the address
abbrev pub has_address : List Machine → Address → Bool
has_address machines a = list_any (holds_address a) machines

-- the address is neither the first nor the last of the prefix, and isn't reserved
abbrev pub may_be_given : Block → Address → Bool
may_be_given p a = not (a.bits == p.base.bits) && not (a.bits == last_of p) && not (is_reserved a)

-- The address may be given, and no machine has it.
abbrev pub is_free : Block → List Machine → Address → Bool
is_free p machines a = may_be_given p a && not (has_address machines a)

-- the same of an address of the prefix, machine by machine
pub record IsFree (p : Block) (machines : List Machine) (a : Address) : Type 0 where
  pub held : holds p a ≡ true
  pub given : may_be_given p a ≡ true
  pub v4_fresh : (m : Machine) → Contains machines m → m.v4 ≢ a
  pub v6_fresh : (m : Machine) → Contains machines m → m.v6 ≢ a

-- the least of so many numbers, from the first on, that passes the test
unfoldable pub least_from : (ℕ → Bool) → ℕ → ℕ → Option ℕ
least_from test zero n = None
least_from test (suc more) n = if test n then Some n else least_from test more (n + 1)

-- the address of this number in the prefix's family
abbrev pub address_at : Block → ℕ → Address
address_at p n = record { v6 = p.base.v6; bits = n }

-- the least address of the prefix that is free
abbrev pub free_address : Block → List Machine → Option Address
free_address p machines =
    option_map (address_at p) (least_from (λ n. is_free p machines (address_at p n)) (size_of p) p.base.bits)

-- the prefix that is set for a family
abbrev pub set_prefix : SettingsFields → Bool → Block
set_prefix settings v6 = if v6 then settings.prefix_v6 else settings.prefix_v4
