-- Whether a machine's row is as it was.
use Rattle.std.specs.Prelude.{◌≡◌, Bool, ◌&&◌, ◌==◌}
use Rattle.std.specs.Bool.{beq}
use Rattle.std.specs.Cmp.Lexicographic.{pointwise}
use Rattle.std.specs.Option.{option_eq}
use Rattle.std.specs.Ordering.{int_eq}
use Rattle.std.specs.Str.{bytes_eq}
use Rattle.net_addr.specs.Bits.{Block}
use Rattle.net_addr.specs.declared.endpoint.Endpoint.{Endpoint}
use Rattle.net_rows.specs.Damage.{address_eq}
use Rattle.net_rows.specs.declared.machine.Machine.{Machine}

-- they are one address and port
abbrev pub endpoint_eq : Endpoint → Endpoint → Bool
endpoint_eq a b = address_eq a.addr b.addr && a.port == b.port

-- they are one prefix
abbrev pub prefix_eq : Block → Block → Bool
prefix_eq a b = address_eq a.base b.base && a.len == b.len

-- the same path to it
abbrev pub same_path : Machine → Machine → Bool
same_path m r = pointwise endpoint_eq m.endpoints r.endpoints && bytes_eq m.disco.0 r.disco.0

-- the same of its host
abbrev pub same_host : Machine → Machine → Bool
same_host m r = bytes_eq m.host r.host && m.derp == r.derp && pointwise prefix_eq m.routes r.routes

-- what a machine tells of itself is as it was
abbrev pub same_told : Machine → Machine → Bool
same_told m r = same_path m r && same_host m r

-- it is registered as it was: its user, its node key, whether it is ephemeral, its expiry and its tags
abbrev pub same_registration : Machine → Machine → Bool
same_registration m r =
    m.user == r.user && bytes_eq m.node.0 r.node.0 && beq m.ephemeral r.ephemeral
    && option_eq int_eq m.expiry r.expiry && pointwise bytes_eq m.tags r.tags

-- what a renewed row takes anew is as it was
abbrev pub same_row : Machine → Machine → Bool
same_row m r = same_registration m r && same_told m r

-- The row keeps its id, machine key, name, addresses, approved routes, and the moment at which it was made.
pub record KeepsPlace (m r : Machine) : Type 0 where
  pub id : r.id ≡ m.id
  pub machine : r.machine ≡ m.machine
  pub name : r.name ≡ m.name
  pub v4 : r.v4 ≡ m.v4
  pub v6 : r.v6 ≡ m.v6
  pub approved : r.approved ≡ m.approved
  pub created : r.created ≡ m.created

-- The row keeps its user, node key, expiry and tags, and is ephemeral or not as it was.
pub record KeepsRegistration (m r : Machine) : Type 0 where
  pub user : r.user ≡ m.user
  pub node : r.node ≡ m.node
  pub ephemeral : r.ephemeral ≡ m.ephemeral
  pub expiry : r.expiry ≡ m.expiry
  pub tags : r.tags ≡ m.tags
