-- Machines as operators are shown them: keys in byte order, without spaces.
use Rattle.std.specs.Prelude.{ℕ, List, [], ◌∷◌, codes}
use Rattle.serde_json.specs.Data.{Data, string, boolean, object, Members, no_members, member}
use Rattle.serde_json.specs.Written.{compact_text}
use Rattle.net_addr.specs.Bits.{Address}
use Rattle.net_addr.specs.AddrTexts.{addr_text}
use Rattle.net_rows.specs.declared.machine.Machine.{Machine}
use Rattle.desk_state.specs.declared.lines.NodeLine.{NodeLine}
use Rattle.wire_write.specs.Parts.{number_data, array_data, prefix_data, time_data}

-- an address, without a length
unfoldable pub addr_data : Address → Data
addr_data a = string (addr_text a)

-- both addresses, IPv4 first
abbrev pub addresses_data : Machine → Data
addresses_data m = array_data addr_data (m.v4 ∷ m.v6 ∷ [])

-- the members from `live` on; the name is the label alone
abbrev pub live_members : NodeLine → Members
live_members l =
    member (codes "live") (boolean l.live) (
    member (codes "name") (string l.row.name) (
    member (codes "online") (boolean l.online) (
    member (codes "served") (array_data prefix_data l.served) (
    member (codes "tags") (array_data string l.row.tags) (
    member (codes "user") (string l.login) no_members)))))

-- a machine: its routes as it advertises them, as the operator approved them, and those in effect
unfoldable pub node_data : NodeLine → Data
node_data l = object (
    member (codes "addresses") (addresses_data l.row) (
    member (codes "advertised") (array_data prefix_data l.row.routes) (
    member (codes "approved") (array_data prefix_data l.row.approved) (
    member (codes "expiry") (time_data l.row.expiry) (
    member (codes "id") (number_data l.row.id) (live_members l))))))

abbrev pub node_text : NodeLine → List ℕ
node_text l = compact_text (node_data l)

-- machines in their order
unfoldable pub nodes_data : List NodeLine → Data
nodes_data ls = object (member (codes "nodes") (array_data node_data ls) no_members)

abbrev pub nodes_text : List NodeLine → List ℕ
nodes_text ls = compact_text (nodes_data ls)
