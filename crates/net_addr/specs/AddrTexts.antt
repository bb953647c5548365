-- Addresses as texts.
use Rattle.std.specs.Prelude.{List, ℕ, true, false, Option, ◌==◌, if◌then◌else◌}
use Rattle.std.specs.List.{list_any}
use Rattle.std.specs.Option.{option_map}
use Rattle.net_addr.specs.Bits.{Address}
use Rattle.net_addr.specs.GroupTexts.{v6_groups, groups_text}
use Rattle.net_addr.specs.GroupReads.{v6_of_text}
use Rattle.net_addr.specs.QuadTexts.{quad_text, quad_of_text}

-- the one text that is written of an address
abbrev pub addr_text : Address → List ℕ
addr_text addr = if addr.v6 then groups_text (v6_groups addr.bits) else quad_text addr.bits

-- the address that a text spells: an IPv6 address where there is a colon
abbrev pub addr_of_text : List ℕ → Option Address
addr_of_text text =
    if list_any (λ b. b == 58) text then option_map (λ bits. record { v6 = true; bits = bits }) (v6_of_text text)
    else option_map (λ bits. record { v6 = false; bits = bits }) (quad_of_text text)
