-- The row of a machine as a node (`tailcfg.Node`).
use Rattle.std.specs.Prelude.{ℕ, Bool, List, [], ◌∷◌, ◌++◌, length, codes, nat_lt, if◌then◌else◌}
use Rattle.net_addr.specs.Bits.{Block}
use Rattle.net_addr.specs.Blocks.{prefix_of_addr}
use Rattle.net_rows.specs.declared.machine.Machine.{Machine}
use Rattle.tailcfg.specs.declared.node_row.NodeRow.{NodeRow}
use Rattle.peer_view.specs.declared.node.NodeCopies.{NodeCopies}
use Rattle.peer_view.specs.declared.node.TheConstants.{TAGGED_OWNER}

-- the machine's two addresses
abbrev pub own_addresses : Machine → List Block
own_addresses m = prefix_of_addr m.v4 ∷ prefix_of_addr m.v6 ∷ []

abbrev pub is_tagged : Machine → Bool
is_tagged m = nat_lt 0 (length m.tags)

-- whom a machine is shown to belong to
abbrev pub owner_of : Machine → ℕ
owner_of m = if is_tagged m then TAGGED_OWNER else m.user

-- a machine's whole name: its label, a dot, the base domain, and a dot
abbrev pub full_name : List ℕ → List ℕ → List ℕ
full_name label domain = label ++ codes "." ++ domain ++ codes "."

-- what of its node is a copy, beside where packets may be sent
abbrev pub copies_of : List ℕ → Machine → NodeCopies
copies_of domain m = record {
  name = full_name m.name domain;
  host = m.host;
  addresses = own_addresses m;
  endpoints = m.endpoints;
  tags = m.tags;
}

-- the node of a machine, where packets may be sent through it, and whether it is online
abbrev pub node_of : List ℕ → List Block → Bool → Machine → NodeRow
node_of domain allowed online m = record {
  id = m.id;
  user = owner_of m;
  key = m.node;
  machine = m.machine;
  disco = m.disco;
  name = full_name m.name domain;
  host = m.host;
  addresses = own_addresses m;
  allowed = allowed;
  endpoints = m.endpoints;
  derp = m.derp;
  tags = m.tags;
  created = m.created;
  expiry = m.expiry;
  online = online;
}
