-- The members of a response, as a list.
use Rattle.std.proofs.Common.{List, [], ◌∷◌, ℕ, Option}
use Rattle.std.specs.Prelude.{codes, option_map}
use Rattle.serde_json.specs.Data.{Data}
use Rattle.tailcfg.specs.declared.response.Response.{Response}
use Rattle.wire_write.specs.Nodes.{node_data, patch_data, profile_data}
use Rattle.wire_write.specs.Parts.{number_data, some_array}

abbrev pub from_profiles : Response → List (List ℕ × Option Data)
from_profiles r = (codes "UserProfiles", some_array profile_data r.profiles) ∷ []

abbrev pub from_seq : Response → List (List ℕ × Option Data)
from_seq r = (codes "Seq", option_map number_data r.seq) ∷ from_profiles r

abbrev pub from_removed : Response → List (List ℕ × Option Data)
from_removed r = (codes "PeersRemoved", some_array number_data r.removed) ∷ from_seq r

abbrev pub from_patches : Response → List (List ℕ × Option Data)
from_patches r = (codes "PeersChangedPatch", some_array patch_data r.patches) ∷ from_removed r

abbrev pub from_changed : Response → List (List ℕ × Option Data)
from_changed r = (codes "PeersChanged", some_array node_data r.changed) ∷ from_patches r

abbrev pub from_peers : Response → List (List ℕ × Option Data)
from_peers r = (codes "Peers", some_array node_data r.peers) ∷ from_changed r
