-- How addresses are stored.
use Rattle.std.specs.Prelude.{◌≡◌, ◌<◌, ◌/◌, ◌%◌, ◌^◌, ◌*◌, ◌+◌, ◌==◌, ℕ, pos, true, false, List, ◌++◌, length, take, drop, Option, Some, None, if◌then◌else◌}
use Rattle.std.specs.Int.{from_be_bytes, to_be_bytes, w64}
use Rattle.net_addr.specs.Bits.{Address, family_size}
use Rattle.net_addr.specs.AddrTexts.{addr_text}
use Rattle.store_rows.specs.declared.cell.Cell.{Cell}
use Rattle.store_rows.specs.declared.cell.Cell.TheVariants.{Blob, Number, Text}

-- the 16 bytes of an IPv6 address, the highest first
unfoldable pub v6_bytes : ℕ → List ℕ
v6_bytes bits = to_be_bytes w64 (bits / 2 ^ 64) ++ to_be_bytes w64 (bits % 2 ^ 64)

-- the number of 16 bytes, the highest first
unfoldable pub v6_in : List ℕ → Option ℕ
v6_in bytes =
    if length bytes == 16 then Some (from_be_bytes w64 (take 8 bytes) * 2 ^ 64 + from_be_bytes w64 (drop 8 bytes))
    else None

-- an IPv4 address is its number, an IPv6 address its 16 bytes
abbrev pub address_cell : Address → Cell
address_cell addr = if addr.v6 then Blob (v6_bytes addr.bits) else Number (pos addr.bits)

-- of an extra record the address is its text
abbrev pub address_text_cell : Address → Cell
address_text_cell addr = Text (addr_text addr)

-- its number is one of its family
abbrev pub IsAddress : Address → Type 0
IsAddress addr = addr.bits < family_size addr.v6

pub record IsV4 (addr : Address) : Type 0 where
  pub family : addr.v6 ≡ false
  pub number : IsAddress addr

pub record IsV6 (addr : Address) : Type 0 where
  pub family : addr.v6 ≡ true
  pub number : IsAddress addr
