-- What the fields of messages have as values.
use Rattle.std.specs.Prelude.{◌<◌, ◌^◌, ℕ}
use Rattle.net_addr.specs.Bits.{Address, family_size}
use Rattle.net_addr.specs.declared.endpoint.Endpoint.{Endpoint}

-- a number of 64 bits, as each number of a message is
abbrev pub FitsWord : ℕ → Type 0
FitsWord n = n < 2 ^ 64

-- the address's number is one of its family
abbrev pub IsTypedAddr : Address → Type 0
IsTypedAddr addr = addr.bits < family_size addr.v6

-- its address is one, and its port has 16 bits
pub record IsTypedEndpoint (e : Endpoint) : Type 0 where
  pub addr : IsTypedAddr e.addr
  pub port : e.port < 2 ^ 16
