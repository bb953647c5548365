-- Nodes, peer changes and profiles are read back.
use Rattle.std.proofs.Common.{◌≡◌, ℤ, List, [], ◌∷◌, ◌++◌, Option, Some, None, refl, ap, ◌∙◌}
use Rattle.std.specs.Prelude.{codes, true, IfSome, Ok, option_map, ⊤}
use Rattle.std.specs.Fmt.{decimal}
use Rattle.std.specs.List.{AllByRecursion}
use Rattle.hex.specs.Hex.{IsBytes}
use Rattle.serde_json.specs.Data.{Data, boolean, string}
use Rattle.net_addr.specs.Bits.{IsBlock}
use Rattle.net_addr.specs.EndpointTexts.{endpoint_of_text}
use Rattle.net_addr.specs.MomentReads.{moment_of_text}
use Rattle.tail_base.specs.Steps.{◌>>=◌}
use Rattle.tail_base.specs.Tags.{tag_of}
use Rattle.tail_base.specs.declared.key.DiscoKey.{DiscoKey}
use Rattle.tailcfg.specs.declared.node_row.NodeRow.{NodeRow}
use Rattle.tailcfg.specs.declared.patch.Patch.{Patch}
use Rattle.tailcfg.specs.declared.profile.Profile.{Profile}
use Rattle.wire_json.specs.Body.{unless_null}
use Rattle.wire_write.specs.Nodes.{host_data, node_data, patch_data, profile_data}
use Rattle.wire_write.specs.Parts.{array_data, disco_key_data, endpoint_data, machine_key_data, moment_data, node_key_data, number_data, prefix_data, time_data}
use Rattle.response_values.specs.Nodes.{IsTypedNode, IsTypedPatch, IsTypedProfile}
use Rattle.response_values.specs.Values.{FitsWord, IsTypedEndpoint}
use Rattle.wire_laws.specs.Nodes.{IsWrittenNode}
use Rattle.wire_laws.proofs.FormLemmas.{everywhere}
use Rattle.wire_laws.proofs.MemberLemmas.{Named}
use Rattle.wire_laws.proofs.NodeForms.{always}
use Rattle.response_read.specs.Members.{all_read, due, fitting, if_given, if_there}
use Rattle.response_read.specs.Nodes.{authorized_at, host_name_at, node_at, peer_change_at, profile_at, stable_id_is}
use Rattle.response_read.specs.Values.{disco_key_in, expiry_at, id_at, machine_key_in, node_key_in, prefix_in, spelled_at, truth_at, words_at}
use Rattle.response_laws.specs.Sizes.{IsId, IsKeyLong, IsSizedNode, IsSizedPatch, IsSizedProfile, IsTag}
use Rattle.response_laws.proofs.Finding.{member_found}
use Rattle.response_laws.proofs.Reading.{Reads, arrays_read, number_reads, options_read, optional_read}
use Rattle.response_laws.proofs.Steps.{Back, arrays_back, options_back}
use Rattle.response_laws.proofs.ValueBack.{disco_keys_back, endpoints_back, ids_back, machine_keys_back, moments_back, node_keys_back, prefixes_back, tags_back, text_itself, times_back}

-- ---- profiles

profile_from : (d : Data) (p : Profile) → due (codes "DisplayName") words_at d ≡ Ok p.display → due (codes "ID") id_at d ≡ Ok p.id → due (codes "LoginName") words_at d ≡ Ok p.login → profile_at d ≡ Ok p
unfolding profile_at
profile_from d p display id login = rw (display, id, login)

pub profiles_back : Back profile_at profile_data IsSizedProfile
unfolding profile_data
profiles_back p h = profile_from (profile_data p) p refl (ids_back p.id h) refl

pub profiles_read : (p : Profile) → IsTypedProfile p → Reads (profile_data p)
unfolding profile_data
profiles_read p h = optional_read ((codes "DisplayName", Some (string p.display)) ∷ (codes "ID", Some (number_data p.id)) ∷ (codes "LoginName", Some (string p.login)) ∷ []) refl (refl, (number_reads p.id h, (refl, tt)))

-- ---- peer changes

change_from : (d : Data) (p : Patch) → if_given (codes "DERPRegion") id_at d ≡ Ok p.derp → if_given (codes "DiscoKey") (spelled_at disco_key_in) d ≡ Ok p.disco → if_given (codes "Endpoints") (all_read (spelled_at endpoint_of_text)) d ≡ Ok p.endpoints
    → due (codes "NodeID") id_at d ≡ Ok p.id → if_given (codes "Online") truth_at d ≡ Ok p.online → peer_change_at d ≡ Ok p
unfolding peer_change_at
change_from d p derp disco endpoints id online = rw (derp, disco, endpoints, id, online)

abbrev patch_list : Patch → List Named
patch_list p =
    (codes "DERPRegion", option_map number_data p.derp) ∷ (codes "DiscoKey", option_map disco_key_data p.disco)
    ∷ (codes "Endpoints", option_map (array_data endpoint_data) p.endpoints) ∷ (codes "NodeID", Some (number_data p.id))
    ∷ (codes "Online", option_map boolean p.online) ∷ []

-- the fields have values of their types
abbrev pub IsPatch : Patch → Type 0
IsPatch p = IsTypedPatch p × IsSizedPatch p

-- a key of 32 bytes
abbrev IsDiscoKey : DiscoKey → Type 0
IsDiscoKey key = IsKeyLong key.0 × IsBytes key.0

some_disco : (o : Option DiscoKey) → IfSome o (λ key. IsBytes key.0) → IfSome o (λ key. IsKeyLong key.0) → IfSome o IsDiscoKey
some_disco None h k = tt
some_disco (Some key) h k = (k, h)

disco_there : (key : DiscoKey) → unless_null (disco_key_data key) ≡ Some (disco_key_data key)
unfolding disco_key_data
disco_there key = refl

derp_back : (p : Patch) → IfSome p.derp IsId → if_given (codes "DERPRegion") id_at (patch_data p) ≡ Ok p.derp
unfolding patch_data
derp_back p h = ap (if_there id_at) (member_found (codes "DERPRegion") (patch_list p) refl) ∙ options_back id_at number_data IsId ids_back (λ n. refl) p.derp h

disco_back : (p : Patch) → IfSome p.disco IsDiscoKey → if_given (codes "DiscoKey") (spelled_at disco_key_in) (patch_data p) ≡ Ok p.disco
unfolding patch_data
disco_back p h =
    ap (if_there (spelled_at disco_key_in)) (member_found (codes "DiscoKey") (patch_list p) refl) ∙ options_back (spelled_at disco_key_in) disco_key_data IsDiscoKey (λ key k. disco_keys_back key k.0 k.1) disco_there p.disco h

points_back : (p : Patch) → IfSome p.endpoints (AllByRecursion IsTypedEndpoint) → if_given (codes "Endpoints") (all_read (spelled_at endpoint_of_text)) (patch_data p) ≡ Ok p.endpoints
unfolding patch_data
points_back p h =
    ap (if_there (all_read (spelled_at endpoint_of_text))) (member_found (codes "Endpoints") (patch_list p) refl)
    ∙ options_back (all_read (spelled_at endpoint_of_text)) (array_data endpoint_data) (AllByRecursion IsTypedEndpoint) (arrays_back (spelled_at endpoint_of_text) endpoint_data IsTypedEndpoint endpoints_back) (λ es. refl) p.endpoints h

id_back : (p : Patch) → IsId p.id → due (codes "NodeID") id_at (patch_data p) ≡ Ok p.id
unfolding patch_data
id_back p h = ap (λ (o : Option Data). fitting o >>= id_at) (member_found (codes "NodeID") (patch_list p) refl) ∙ ids_back p.id h

online_back : (p : Patch) → if_given (codes "Online") truth_at (patch_data p) ≡ Ok p.online
unfolding patch_data
online_back p = ap (if_there truth_at) (member_found (codes "Online") (patch_list p) refl) ∙ options_back truth_at boolean (λ b. ⊤) (λ b k. refl) (λ b. refl) p.online (always p.online)

pub patches_back : Back peer_change_at patch_data IsPatch
patches_back p h = change_from (patch_data p) p (derp_back p h.1.derp) (disco_back p (some_disco p.disco h.0.disco h.1.disco)) (points_back p h.0.endpoints) (id_back p h.1.id) (online_back p)

pub patches_read : (p : Patch) → IsTypedPatch p → Reads (patch_data p)
unfolding patch_data disco_key_data endpoint_data
patches_read p h =
    optional_read (patch_list p) refl (
      options_read number_data FitsWord number_reads p.derp h.derp,
      (
        options_read disco_key_data (λ key. IsBytes key.0) (λ key k. refl) p.disco h.disco,
        (
          options_read (array_data endpoint_data) (AllByRecursion IsTypedEndpoint) (arrays_read endpoint_data IsTypedEndpoint (λ e k. refl)) p.endpoints h.endpoints,
          (
            number_reads p.id h.id,
            (options_read boolean (λ x. ⊤) (λ x k. refl) p.online (always p.online), tt),
          ),
        ),
      ),
    )

-- ---- nodes

node_from : (d : Data) (r : NodeRow) → due (codes "ID") id_at d ≡ Ok r.id → due (codes "User") id_at d ≡ Ok r.user → due (codes "Key") (spelled_at node_key_in) d ≡ Ok r.key → due (codes "Machine") (spelled_at machine_key_in) d ≡ Ok r.machine
    → due (codes "DiscoKey") (spelled_at disco_key_in) d ≡ Ok r.disco → due (codes "HomeDERP") id_at d ≡ Ok r.derp → due (codes "Created") (spelled_at moment_of_text) d ≡ Ok r.created → due (codes "KeyExpiry") expiry_at d ≡ Ok r.expiry
    → due (codes "Online") truth_at d ≡ Ok r.online → authorized_at d ≡ Ok tt → stable_id_is r.id d ≡ Ok tt → due (codes "Name") words_at d ≡ Ok r.name → due (codes "Hostinfo") host_name_at d ≡ Ok r.host
    → due (codes "Addresses") (all_read (spelled_at prefix_in)) d ≡ Ok r.addresses → due (codes "AllowedIPs") (all_read (spelled_at prefix_in)) d ≡ Ok r.allowed → due (codes "Endpoints") (all_read (spelled_at endpoint_of_text)) d ≡ Ok r.endpoints
    → due (codes "Tags") (all_read (spelled_at tag_of)) d ≡ Ok r.tags → node_at d ≡ Ok r
unfolding node_at
node_from d r id user key machine disco derp created expiry online authorized stable name host addresses allowed endpoints tags =
    rw (id, user, key, machine, disco, derp, created, expiry, online, authorized, stable, name, host, addresses, allowed, endpoints, tags)

-- a node as it is written, of sizes of its types
abbrev pub IsNode : NodeRow → Type 0
IsNode r = IsWrittenNode r × IsSizedNode r

time_there : (o : Option ℤ) → unless_null (time_data o) ≡ Some (time_data o)
unfolding moment_data
time_there None = refl
time_there (Some t) = refl

expiry_due : (r : NodeRow) → IsWrittenNode r → due (codes "KeyExpiry") expiry_at (node_data r) ≡ Ok r.expiry
unfolding node_data
expiry_due r h = rw (time_there r.expiry) (times_back r.expiry h.0.expiry h.1)

stable_due : (r : NodeRow) → stable_id_is r.id (node_data r) ≡ Ok tt
unfolding node_data
stable_due r = rw (text_itself (codes "n" ++ decimal r.id))

key_due : (r : NodeRow) → IsNode r → due (codes "Key") (spelled_at node_key_in) (node_data r) ≡ Ok r.key
unfolding node_data node_key_data
key_due r h = node_keys_back r.key h.1.key h.0.0.key

machine_due : (r : NodeRow) → IsNode r → due (codes "Machine") (spelled_at machine_key_in) (node_data r) ≡ Ok r.machine
unfolding node_data machine_key_data
machine_due r h = machine_keys_back r.machine h.1.machine h.0.0.machine

disco_due : (r : NodeRow) → IsNode r → due (codes "DiscoKey") (spelled_at disco_key_in) (node_data r) ≡ Ok r.disco
unfolding node_data disco_key_data
disco_due r h = disco_keys_back r.disco h.1.disco h.0.0.disco

created_due : (r : NodeRow) → IsNode r → due (codes "Created") (spelled_at moment_of_text) (node_data r) ≡ Ok r.created
unfolding node_data moment_data
created_due r h = moments_back r.created h.0.0.created

pub nodes_back : Back node_at node_data IsNode
unfolding node_data
nodes_back r h =
    node_from (node_data r) r (ids_back r.id h.1.id) (ids_back r.user h.1.user) (key_due r h) (machine_due r h) (disco_due r h) (ids_back r.derp h.1.derp) (created_due r h) (expiry_due r h.0) refl refl (stable_due r) refl refl
    (arrays_back (spelled_at prefix_in) prefix_data IsBlock prefixes_back r.addresses h.0.0.addresses) (arrays_back (spelled_at prefix_in) prefix_data IsBlock prefixes_back r.allowed h.0.0.allowed)
    (arrays_back (spelled_at endpoint_of_text) endpoint_data IsTypedEndpoint endpoints_back r.endpoints h.0.0.endpoints) (arrays_back (spelled_at tag_of) string IsTag tags_back r.tags h.1.tags)

time_reads : (o : Option ℤ) → Reads (time_data o)
unfolding moment_data
time_reads None = refl
time_reads (Some t) = refl

pub nodes_read : (r : NodeRow) → IsTypedNode r → Reads (node_data r)
unfolding node_data disco_key_data endpoint_data prefix_data moment_data node_key_data machine_key_data
nodes_read r h =
    optional_read (
    (codes "Addresses", Some (array_data prefix_data r.addresses)) ∷ (codes "AllowedIPs", Some (array_data prefix_data r.allowed)) ∷ (codes "Created", Some (moment_data r.created))
    ∷ (codes "DiscoKey", Some (disco_key_data r.disco)) ∷ (codes "Endpoints", Some (array_data endpoint_data r.endpoints)) ∷ (codes "HomeDERP", Some (number_data r.derp)) ∷ (codes "Hostinfo", Some (host_data r.host))
    ∷ (codes "ID", Some (number_data r.id)) ∷ (codes "Key", Some (node_key_data r.key)) ∷ (codes "KeyExpiry", Some (time_data r.expiry)) ∷ (codes "Machine", Some (machine_key_data r.machine))
    ∷ (codes "MachineAuthorized", Some (boolean true)) ∷ (codes "Name", Some (string r.name)) ∷ (codes "Online", Some (boolean r.online)) ∷ (codes "StableID", Some (string (codes "n" ++ decimal r.id)))
    ∷ (codes "Tags", Some (array_data string r.tags)) ∷ (codes "User", Some (number_data r.user)) ∷ []
    ) refl (
      arrays_read prefix_data IsBlock (λ p k. refl) r.addresses h.addresses,
      (
        arrays_read prefix_data IsBlock (λ p k. refl) r.allowed h.allowed,
        (
          refl,
          (
            refl,
            (
              arrays_read endpoint_data IsTypedEndpoint (λ e k. refl) r.endpoints h.endpoints,
              (
                number_reads r.derp h.derp,
                (
                  refl,
                  (
                    number_reads r.id h.id,
                    (
                      refl,
                      (
                        time_reads r.expiry,
                        (
                          refl,
                          (
                            refl,
                            (
                              refl,
                              (
                                refl,
                                (
                                  refl,
                                  (
                                    arrays_read string (λ s. ⊤) (λ s k. refl) r.tags (everywhere r.tags),
                                    (number_reads r.user h.user, tt),
                                  ),
                                ),
                              ),
                            ),
                          ),
                        ),
                      ),
                    ),
                  ),
                ),
              ),
            ),
          ),
        ),
      ),
    )
