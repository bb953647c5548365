-- Responses of a map session (`tailcfg.MapResponse`) as JSON: keys in byte order, without spaces; what is
-- None or an empty list isn't written, but an empty packet filter is.
use Rattle.std.specs.Prelude.{ℕ, List, codes, option_map}
use Rattle.serde_json.specs.Data.{Data, string, object, Members, no_members}
use Rattle.serde_json.specs.Written.{compact_text}
use Rattle.tailcfg.specs.declared.response.Response.{Response}
use Rattle.wire_write.specs.Parts.{number_data, array_data, some_array, some_member}
use Rattle.wire_write.specs.Dns.{dns_data}
use Rattle.wire_write.specs.Filters.{rule_data}
use Rattle.wire_write.specs.Nodes.{node_data, patch_data, profile_data}

-- the members from `PeersChanged` on
unfoldable pub changed_members : Response → Members
changed_members r =
    some_member (codes "PeersChanged") (some_array node_data r.changed) (
    some_member (codes "PeersChangedPatch") (some_array patch_data r.patches) (
    some_member (codes "PeersRemoved") (some_array number_data r.removed) (
    some_member (codes "Seq") (option_map number_data r.seq) (
    some_member (codes "UserProfiles") (some_array profile_data r.profiles) no_members))))

-- the members from `Peers` on
unfoldable pub peer_members : Response → Members
peer_members r = some_member (codes "Peers") (some_array node_data r.peers) (changed_members r)

-- a response: the members before `Peers`, and those
unfoldable pub response_data : Response → Data
response_data r = object (
    some_member (codes "DNSConfig") (option_map dns_data r.dns) (
    some_member (codes "Domain") (option_map string r.domain) (
    some_member (codes "MapSessionHandle") (option_map string r.handle) (
    some_member (codes "Node") (option_map node_data r.node) (
    some_member (codes "PacketFilter") (option_map (array_data rule_data) r.filter) (peer_members r))))))

-- the text of a response
abbrev pub response_text : Response → List ℕ
response_text r = compact_text (response_data r)
