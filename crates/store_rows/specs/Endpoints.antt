-- Which endpoints there are.
use Rattle.std.specs.Prelude.{◌<◌, ◌^◌}
use Rattle.net_addr.specs.Bits.{family_size}
use Rattle.net_addr.specs.declared.endpoint.Endpoint.{Endpoint}

-- the address's number is one of its family, and the port has 16 bits
pub record IsEndpoint (e : Endpoint) : Type 0 where
  pub addr : e.addr.bits < family_size e.addr.v6
  pub port : e.port < 2 ^ 16
