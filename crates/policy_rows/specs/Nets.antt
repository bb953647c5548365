-- The addresses that a text names.
use Rattle.std.specs.Prelude.{ℕ, ◌-◌, ◌==◌, ◌&&◌, Bool, List, length, codes, nat_le, nat_eq, slice_range, Option, Some, None, option_and_then, if◌then◌else◌}
use Rattle.std.specs.List.{starts_with, ends_with}
use Rattle.std.specs.Option.{option_map, option_or}
use Rattle.std.specs.Result.{result_ok}
use Rattle.net_addr.specs.AddrTexts.{addr_of_text}
use Rattle.net_addr.specs.Bits.{Address, Block, family_bits}
use Rattle.net_addr.specs.Blocks.{prefix_of_addr}
use Rattle.net_addr.specs.PrefixTexts.{prefix_of_text}

-- the prefix has one address
abbrev pub is_one_address : Block → Bool
is_one_address net = net.len == family_bits net.base.v6

-- an address or a prefix
abbrev pub host_net : List ℕ → Option Block
host_net text = option_or (option_map prefix_of_addr (addr_of_text text)) (result_ok (prefix_of_text text))

-- the text stands in brackets
abbrev pub is_bracketed : List ℕ → Bool
is_bracketed text = nat_le 2 (length text) && starts_with nat_eq text (codes "[") && ends_with nat_eq text (codes "]")

-- an IPv6 address
abbrev pub v6_only : Address → Option Address
v6_only addr = if addr.v6 then Some addr else None

-- the IPv6 address that stands in brackets
abbrev pub bracketed : List ℕ → Option Address
bracketed text = if is_bracketed text then option_and_then v6_only (addr_of_text (slice_range text 1 (length text - 1))) else None

-- an address, in IPv6 optionally in brackets, or a prefix
abbrev pub net_of_text : List ℕ → Option Block
net_of_text text = option_or (option_map prefix_of_addr (bracketed text)) (host_net text)
