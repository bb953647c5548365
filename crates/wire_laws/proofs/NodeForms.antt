-- The forms of nodes, peer changes and profiles tell them.
use Rattle.std.proofs.Common.{◌≡◌, ℕ, ℤ, suc, List, Option, Some, None, refl}
use Rattle.std.specs.Prelude.{[], ◌∷◌, codes, IfSome, option_map, ⊤}
use Rattle.std.specs.List.{AllByRecursion}
use Rattle.hex.specs.Hex.{IsBytes}
use Rattle.serde_json.specs.Data.{boolean}
use Rattle.net_addr.specs.Bits.{IsBlock}
use Rattle.tailcfg.specs.declared.node_row.NodeRow.{NodeRow}
use Rattle.tailcfg.specs.declared.patch.Patch.{Patch}
use Rattle.tailcfg.specs.declared.profile.Profile.{Profile}
use Rattle.wire_write.specs.Nodes.{host_data, keyed_members, named_members, node_data, patch_data, profile_data}
use Rattle.wire_write.specs.Parts.{array_data, disco_key_data, endpoint_data, machine_key_data, moment_data, node_key_data, number_data, prefix_data, time_data}
use Rattle.response_values.specs.Nodes.{IsTypedNode, IsTypedPatch, IsTypedProfile}
use Rattle.response_values.specs.Values.{FitsWord, IsTypedEndpoint}
use Rattle.wire_laws.specs.Nodes.{IsWrittenNode}
use Rattle.wire_laws.specs.Trees.{HaveTrees, IsTree}
use Rattle.wire_laws.proofs.FormLemmas.{Grows, Tells, arrays_grow, arrays_tell, booleans_tell, members_tell, numbers_tell, objects_tell, options_grow, options_tell, strings_tell, texts_grow, texts_tell}
use Rattle.wire_laws.proofs.MemberLemmas.{Named, optional_grow, optional_tell}
use Rattle.wire_laws.proofs.ValueForms.{disco_keys_tell, endpoints_tell, machine_keys_tell, moments_tell, node_keys_tell, prefixes_tell, times_tell}

-- ---- profiles

pub profiles_tell : (a b : Profile) → profile_data a ≡ profile_data b → a ≡ b
unfolding profile_data
profiles_tell a b e =
    let display = members_tell _ _ _ _ _ (objects_tell _ _ e) in
    let id = members_tell _ _ _ _ _ display.1 in
    let login = members_tell _ _ _ _ _ id.1 in
    λ i. record {
      id = numbers_tell a.id b.id id.0 i;
      login = strings_tell a.login b.login login.0 i;
      display = strings_tell a.display b.display display.0 i;
    }

pub profiles_grow : (n : ℕ) → Grows profile_data IsTypedProfile (suc n)
unfolding profile_data
profiles_grow n p h = (tt, (h, (tt, tt)))

-- ---- peer changes

abbrev patch_list : Patch → List Named
patch_list p =
    (codes "DERPRegion", option_map number_data p.derp) ∷ (codes "DiscoKey", option_map disco_key_data p.disco)
    ∷ (codes "Endpoints", option_map (array_data endpoint_data) p.endpoints) ∷ (codes "NodeID", Some (number_data p.id))
    ∷ (codes "Online", option_map boolean p.online) ∷ []

some_number : (m n : ℕ) → Some (number_data m) ≡ Some (number_data n) → m ≡ n
some_number m n e = cc (e)

pub always : {X : Type 0} (o : Option X) → IfSome o (λ x. ⊤)
always None = tt
always (Some x) = tt

pub patches_tell : Tells patch_data IsTypedPatch
unfolding patch_data
patches_tell a b p q e =
    let same = optional_tell (patch_list a) (patch_list b) refl refl refl (objects_tell _ _ e) in
    let derp = options_tell number_data FitsWord (λ m n h k. numbers_tell m n) a.derp b.derp p.derp q.derp same.0 in
    let disco = options_tell disco_key_data (λ key. IsBytes key.0) disco_keys_tell a.disco b.disco p.disco q.disco same.1.0 in
    let endpoints = options_tell (array_data endpoint_data) (AllByRecursion IsTypedEndpoint) (arrays_tell endpoint_data IsTypedEndpoint endpoints_tell) a.endpoints b.endpoints p.endpoints q.endpoints same.1.1.0 in
    let online = options_tell boolean (λ x. ⊤) (λ x y h k. booleans_tell x y) a.online b.online (always a.online) (always b.online) same.1.1.1.1.0 in
    λ i. record {
      id = some_number a.id b.id same.1.1.1.0 i;
      derp = derp i;
      disco = disco i;
      endpoints = endpoints i;
      online = online i;
    }

pub patches_grow : (n : ℕ) → Grows patch_data IsTypedPatch (suc (suc n))
unfolding patch_data disco_key_data endpoint_data
patches_grow n p h =
    optional_grow (suc n) (patch_list p) (
      options_grow number_data FitsWord (suc n) (λ m k. k) p.derp h.derp,
      (
        options_grow disco_key_data (λ key. IsBytes key.0) (suc n) (λ key k. tt) p.disco h.disco,
        (
          options_grow (array_data endpoint_data) (AllByRecursion IsTypedEndpoint) (suc n) (arrays_grow endpoint_data IsTypedEndpoint n (λ e k. tt)) p.endpoints h.endpoints,
          (
            h.id,
            (options_grow boolean (λ x. ⊤) (suc n) (λ x k. tt) p.online (always p.online), tt),
          ),
        ),
      ),
    )

-- ---- nodes

host_tells : (s t : List ℕ) → host_data s ≡ host_data t → s ≡ t
host_tells s t e = strings_tell s t (members_tell _ _ _ _ _ (objects_tell _ _ e)).0

-- what the members from `MachineAuthorized` on tell
record SameNames (a b : NodeRow) : Type 0 where
  name : a.name ≡ b.name
  online : a.online ≡ b.online
  tags : a.tags ≡ b.tags
  user : a.user ≡ b.user

names_tell : (a b : NodeRow) → named_members a ≡ named_members b → SameNames a b
names_tell a b e =
    let authorized = members_tell _ _ _ _ _ e in
    let name = members_tell _ _ _ _ _ authorized.1 in
    let online = members_tell _ _ _ _ _ name.1 in
    let stable = members_tell _ _ _ _ _ online.1 in
    let tags = members_tell _ _ _ _ _ stable.1 in
    let user = members_tell _ _ _ _ _ tags.1 in
    record {
      name = strings_tell a.name b.name name.0;
      online = booleans_tell a.online b.online online.0;
      tags = texts_tell a.tags b.tags tags.0;
      user = numbers_tell a.user b.user user.0;
    }

-- what those from `Hostinfo` on tell
record SameKeys (a b : NodeRow) : Type 0 where
  host : a.host ≡ b.host
  id : a.id ≡ b.id
  key : a.key ≡ b.key
  expiry : a.expiry ≡ b.expiry
  machine : a.machine ≡ b.machine
  rest : SameNames a b

keys_tell : (a b : NodeRow) → IsWrittenNode a → IsWrittenNode b → keyed_members a ≡ keyed_members b → SameKeys a b
keys_tell a b p q e =
    let host = members_tell _ _ _ _ _ e in
    let id = members_tell _ _ _ _ _ host.1 in
    let key = members_tell _ _ _ _ _ id.1 in
    let expiry = members_tell _ _ _ _ _ key.1 in
    let machine = members_tell _ _ _ _ _ expiry.1 in
    record {
      host = host_tells a.host b.host host.0;
      id = numbers_tell a.id b.id id.0;
      key = node_keys_tell a.key b.key p.0.key q.0.key key.0;
      expiry = times_tell a.expiry b.expiry p.0.expiry q.0.expiry p.1 q.1 expiry.0;
      machine = machine_keys_tell a.machine b.machine p.0.machine q.0.machine machine.0;
      rest = names_tell a b machine.1;
    }

pub nodes_tell : Tells node_data IsWrittenNode
unfolding node_data
nodes_tell a b p q e =
    let addresses = members_tell _ _ _ _ _ (objects_tell _ _ e) in
    let allowed = members_tell _ _ _ _ _ addresses.1 in
    let created = members_tell _ _ _ _ _ allowed.1 in
    let disco = members_tell _ _ _ _ _ created.1 in
    let endpoints = members_tell _ _ _ _ _ disco.1 in
    let derp = members_tell _ _ _ _ _ endpoints.1 in
    let keys = keys_tell a b p q derp.1 in
    λ i. record {
      id = keys.id i;
      user = keys.rest.user i;
      key = keys.key i;
      machine = keys.machine i;
      disco = disco_keys_tell a.disco b.disco p.0.disco q.0.disco disco.0 i;
      name = keys.rest.name i;
      host = keys.host i;
      addresses = arrays_tell prefix_data IsBlock prefixes_tell a.addresses b.addresses p.0.addresses q.0.addresses addresses.0 i;
      allowed = arrays_tell prefix_data IsBlock prefixes_tell a.allowed b.allowed p.0.allowed q.0.allowed allowed.0 i;
      endpoints = arrays_tell endpoint_data IsTypedEndpoint endpoints_tell a.endpoints b.endpoints p.0.endpoints q.0.endpoints endpoints.0 i;
      derp = numbers_tell a.derp b.derp derp.0 i;
      tags = keys.rest.tags i;
      created = moments_tell a.created b.created p.0.created q.0.created created.0 i;
      expiry = keys.expiry i;
      online = keys.rest.online i;
    }

time_grows : (n : ℕ) (t : Option ℤ) → IsTree n (time_data t)
unfolding moment_data
time_grows n None = tt
time_grows n (Some t) = tt

names_grow : (n : ℕ) (r : NodeRow) → IsTypedNode r → HaveTrees (suc n) (named_members r)
names_grow n r h = (tt, (tt, (tt, (tt, (texts_grow n r.tags, (h.user, tt))))))

keys_grow : (n : ℕ) (r : NodeRow) → IsTypedNode r → HaveTrees (suc n) (keyed_members r)
unfolding node_key_data machine_key_data
keys_grow n r h = ((tt, tt), (h.id, (tt, (time_grows (suc n) r.expiry, (tt, names_grow n r h)))))

pub nodes_grow : (n : ℕ) → Grows node_data IsWrittenNode (suc (suc n))
unfolding node_data disco_key_data endpoint_data prefix_data moment_data
nodes_grow n r h = (
  arrays_grow prefix_data IsBlock n (λ p k. tt) r.addresses h.0.addresses,
  (
    arrays_grow prefix_data IsBlock n (λ p k. tt) r.allowed h.0.allowed,
    (
      tt,
      (
        tt,
        (
          arrays_grow endpoint_data IsTypedEndpoint n (λ e k. tt) r.endpoints h.0.endpoints,
          (h.0.derp, keys_grow n r h.0),
        ),
      ),
    ),
  ),
)
