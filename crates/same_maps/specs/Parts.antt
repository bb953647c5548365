-- Whether two addresses with more to them are the same.
use Rattle.std.specs.Prelude.{ℕ, Bool, ◌&&◌, ◌==◌}
use Rattle.net_addr.specs.Bits.{Block}
use Rattle.net_addr.specs.declared.endpoint.Endpoint.{Endpoint}
use Rattle.net_rows.specs.Damage.{address_eq}

-- an address and a port
abbrev pub same_endpoint : Endpoint → Endpoint → Bool
same_endpoint a b = address_eq a.addr b.addr && a.port == b.port

-- a prefix
abbrev pub same_prefix : Block → Block → Bool
same_prefix a b = address_eq a.base b.base && a.len == b.len
