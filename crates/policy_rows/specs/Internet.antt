-- The public internet, as `autogroup:internet` has it.
use Rattle.std.specs.Prelude.{ℕ, ◌&&◌, Bool, true, false, not, List, [], ◌∷◌}
use Rattle.std.specs.List.{list_any}
use Rattle.net_addr.specs.Bits.{Address, Block}
use Rattle.net_addr.specs.Blocks.{holds}
use Rattle.net_addr.specs.Tailnet.{tailnet_v4}
use Rattle.policy_rows.specs.declared.internet.TheConstants.{GLOBAL_V6_BASE, GLOBAL_V6_LEN, PRIVATE_8_BASE, PRIVATE_8_LEN, PRIVATE_12_BASE, PRIVATE_12_LEN, PRIVATE_16_BASE, PRIVATE_16_LEN, LINK_LOCAL_BASE, LINK_LOCAL_LEN}

-- a prefix of IPv4
abbrev pub v4_net : ℕ → ℕ → Block
v4_net bits len = record { base = record { v6 = false; bits = bits }; len = len }

-- a prefix of IPv6
abbrev pub v6_net : ℕ → ℕ → Block
v6_net bits len = record { base = record { v6 = true; bits = bits }; len = len }

-- where the internet lies: 0.0.0.0/0 and 2000::/3
abbrev pub internet_nets : List Block
internet_nets = v4_net 0 0 ∷ v6_net GLOBAL_V6_BASE GLOBAL_V6_LEN ∷ []

-- what of it isn't public: 10.0.0.0/8, 172.16.0.0/12, 192.168.0.0/16, 169.254.0.0/16, 100.64.0.0/10
abbrev pub not_internet : List Block
not_internet =
    v4_net PRIVATE_8_BASE PRIVATE_8_LEN ∷ v4_net PRIVATE_12_BASE PRIVATE_12_LEN ∷ v4_net PRIVATE_16_BASE PRIVATE_16_LEN
    ∷ v4_net LINK_LOCAL_BASE LINK_LOCAL_LEN ∷ tailnet_v4 ∷ []

-- one of these holds the address, and none of those
abbrev pub is_internet : Address → Bool
is_internet addr = list_any (λ net. holds net addr) internet_nets && not (list_any (λ net. holds net addr) not_internet)
