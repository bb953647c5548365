-- Nodes, peer changes and profiles (`tailcfg.Node`, `PeerChange`, `UserProfile`) as they are read. Keys that
-- aren't named are unread.
use Rattle.std.specs.Prelude.{ℕ, List, ◌++◌, Bool, Result, Ok, codes}
use Rattle.std.specs.Fmt.{decimal}
use Rattle.std.specs.Str.{bytes_eq}
use Rattle.serde_json.specs.Data.{Data}
use Rattle.net_addr.specs.EndpointTexts.{endpoint_of_text}
use Rattle.net_addr.specs.MomentReads.{moment_of_text}
use Rattle.tail_base.specs.Steps.{◌>>=◌, refuse_unless}
use Rattle.tail_base.specs.Tags.{tag_of}
use Rattle.tailcfg.specs.declared.node_row.NodeRow.{NodeRow}
use Rattle.tailcfg.specs.declared.patch.Patch.{Patch}
use Rattle.tailcfg.specs.declared.profile.Profile.{Profile}
use Rattle.response_read.specs.Members.{all_read, due, if_given}
use Rattle.response_read.specs.Values.{prefix_in, disco_key_in, expiry_at, truth_at, id_at, machine_key_in, node_key_in, spelled_at, words_at}
use Rattle.response_read.specs.declared.misfit.Misfit.{Misfit}
use Rattle.response_read.specs.declared.misfit.Misfit.TheVariants.{NotResponse}

-- the name in what is known of the host (`tailcfg.Hostinfo`)
abbrev pub host_name_at : Data → Result (List ℕ) Misfit
host_name_at = due (codes "Hostname") words_at

-- `StableID` is `n` and the id
abbrev pub stable_id_is : ℕ → Data → Result (Unit {0}) Misfit
stable_id_is id d = due (codes "StableID") words_at d >>= λ stable. refuse_unless (bytes_eq stable (codes "n" ++ decimal id)) NotResponse

-- `MachineAuthorized` is true
abbrev pub authorized_at : Data → Result (Unit {0}) Misfit
authorized_at d = due (codes "MachineAuthorized") truth_at d >>= λ authorized. refuse_unless authorized NotResponse

-- A node, of which each field is there. What needs no memory stands first, which changes nothing: a node is
-- read or not.
unfoldable pub node_at : Data → Result NodeRow Misfit
node_at d = do
  id ← due (codes "ID") id_at d
  user ← due (codes "User") id_at d
  key ← due (codes "Key") (spelled_at node_key_in) d
  machine ← due (codes "Machine") (spelled_at machine_key_in) d
  disco ← due (codes "DiscoKey") (spelled_at disco_key_in) d
  derp ← due (codes "HomeDERP") id_at d
  created ← due (codes "Created") (spelled_at moment_of_text) d
  expiry ← due (codes "KeyExpiry") expiry_at d
  online ← due (codes "Online") truth_at d
  _ ← authorized_at d
  _ ← stable_id_is id d
  name ← due (codes "Name") words_at d
  host ← due (codes "Hostinfo") host_name_at d
  addresses ← due (codes "Addresses") (all_read (spelled_at prefix_in)) d
  allowed ← due (codes "AllowedIPs") (all_read (spelled_at prefix_in)) d
  endpoints ← due (codes "Endpoints") (all_read (spelled_at endpoint_of_text)) d
  tags ← due (codes "Tags") (all_read (spelled_at tag_of)) d
  Ok (record { id = id; user = user; key = key; machine = machine; disco = disco; name = name; host = host; addresses = addresses; allowed = allowed; endpoints = endpoints; derp = derp; tags = tags; created = created; expiry = expiry; online = online })

-- a peer's id and any of what may differ
unfoldable pub peer_change_at : Data → Result Patch Misfit
peer_change_at d = do
  derp ← if_given (codes "DERPRegion") id_at d
  disco ← if_given (codes "DiscoKey") (spelled_at disco_key_in) d
  endpoints ← if_given (codes "Endpoints") (all_read (spelled_at endpoint_of_text)) d
  id ← due (codes "NodeID") id_at d
  online ← if_given (codes "Online") truth_at d
  Ok (record { id = id; derp = derp; disco = disco; endpoints = endpoints; online = online })

-- a user's profile, of which each field is there
unfoldable pub profile_at : Data → Result Profile Misfit
profile_at d = do
  display ← due (codes "DisplayName") words_at d
  id ← due (codes "ID") id_at d
  login ← due (codes "LoginName") words_at d
  Ok (record { id = id; login = login; display = display })
