-- Which texts spell an endpoint.
use Rattle.std.specs.Prelude.{◌≡◌, ◌<◌, ℕ, Bool, true, false, List, ◌++◌, codes}
use Rattle.std.specs.Fmt.{decimal}
use Rattle.net_addr.specs.declared.endpoint.Endpoint.{Endpoint}
use Rattle.net_addr.specs.SpellsAddr.{SpellsAddr}

-- a text of an address before a port: an IPv6 address stands in brackets (RFC 3986 section 3.2.2, RFC 5952 section 6)
abbrev pub before_port : Bool → List ℕ → List ℕ
before_port true host = codes "[" ++ host ++ codes "]"
before_port false host = host

-- a text of the address, a colon, and the port in decimal
pub record SpellsEndpoint (text : List ℕ) (e : Endpoint) : Type 0 where
  pub host : List ℕ
  pub addr : SpellsAddr host e.addr
  pub port : e.port < 65536
  pub is : text ≡ before_port e.addr.v6 host ++ (codes ":" ++ decimal e.port)
