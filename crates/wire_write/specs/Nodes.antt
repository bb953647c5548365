-- Nodes, peer changes and profiles (`tailcfg.Node`, `PeerChange`, `UserProfile`) as JSON, keys in byte order.
use Rattle.std.specs.Prelude.{ℕ, ◌++◌, List, true, codes, Some, option_map}
use Rattle.std.specs.Fmt.{decimal}
use Rattle.serde_json.specs.Data.{Data, string, boolean, object, Members, no_members, member}
use Rattle.tailcfg.specs.declared.node_row.NodeRow.{NodeRow}
use Rattle.tailcfg.specs.declared.patch.Patch.{Patch}
use Rattle.tailcfg.specs.declared.profile.Profile.{Profile}
use Rattle.wire_write.specs.Parts.{number_data, array_data, some_member, node_key_data, machine_key_data, disco_key_data, prefix_data, endpoint_data, moment_data, time_data}

-- what is known of the host (`tailcfg.Hostinfo`)
abbrev pub host_data : List ℕ → Data
host_data name = object (member (codes "Hostname") (string name) no_members)

-- the members from `MachineAuthorized` on
abbrev pub named_members : NodeRow → Members
named_members r =
    member (codes "MachineAuthorized") (boolean true) (
    member (codes "Name") (string r.name) (
    member (codes "Online") (boolean r.online) (
    member (codes "StableID") (string (codes "n" ++ decimal r.id)) (
    member (codes "Tags") (array_data string r.tags) (
    member (codes "User") (number_data r.user) no_members)))))

-- the members from `Hostinfo` on
abbrev pub keyed_members : NodeRow → Members
keyed_members r =
    member (codes "Hostinfo") (host_data r.host) (
    member (codes "ID") (number_data r.id) (
    member (codes "Key") (node_key_data r.key) (
    member (codes "KeyExpiry") (time_data r.expiry) (
    member (codes "Machine") (machine_key_data r.machine) (named_members r)))))

-- all fields are always written
unfoldable pub node_data : NodeRow → Data
node_data r = object (
    member (codes "Addresses") (array_data prefix_data r.addresses) (
    member (codes "AllowedIPs") (array_data prefix_data r.allowed) (
    member (codes "Created") (moment_data r.created) (
    member (codes "DiscoKey") (disco_key_data r.disco) (
    member (codes "Endpoints") (array_data endpoint_data r.endpoints) (
    member (codes "HomeDERP") (number_data r.derp) (keyed_members r)))))))

-- what differs is written
unfoldable pub patch_data : Patch → Data
patch_data p = object (
    some_member (codes "DERPRegion") (option_map number_data p.derp) (
    some_member (codes "DiscoKey") (option_map disco_key_data p.disco) (
    some_member (codes "Endpoints") (option_map (array_data endpoint_data) p.endpoints) (
    some_member (codes "NodeID") (Some (number_data p.id)) (
    some_member (codes "Online") (option_map boolean p.online) no_members)))))

-- the profile of a user
unfoldable pub profile_data : Profile → Data
profile_data p = object (
    member (codes "DisplayName") (string p.display) (
    member (codes "ID") (number_data p.id) (
    member (codes "LoginName") (string p.login) no_members)))
