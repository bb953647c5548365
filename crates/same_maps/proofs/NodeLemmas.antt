-- Nodes and profiles are the same exactly where they are equal.
use Rattle.std.proofs.Common.{◌≡◌, ℕ, ℤ, Bool, true, ◌==◌, List, Option, Some, None, refl, ap, ◌∙◌, sym}
use Rattle.std.proofs.lemmas.Bool.{eqb-true, eq-eqb, and_parts, and_from}
use Rattle.std.proofs.lemmas.Bool.Decides.{Decides-int_eq}
use Rattle.std.specs.Bool.{beq}
use Rattle.std.specs.Cmp.Lexicographic.{pointwise}
use Rattle.std.specs.Option.{option_eq}
use Rattle.std.specs.Ordering.{int_eq}
use Rattle.std.specs.Prelude.{◌↔◌}
use Rattle.std.specs.Str.{bytes_eq}
use Rattle.tail_base.specs.declared.key.DiscoKey.{DiscoKey}
use Rattle.tail_base.specs.declared.key.MachineKey.{MachineKey}
use Rattle.tail_base.specs.declared.key.NodeKey.{NodeKey}
use Rattle.tail_base.proofs.Bools.{all3, all4, all5, all6, and3, and4, and5, and6, beq-true, beq-from, bytes_eq-true, bytes_eq-from}
use Rattle.net_addr.specs.Bits.{Block}
use Rattle.net_addr.specs.declared.endpoint.Endpoint.{Endpoint}
use Rattle.tailcfg.specs.declared.node_row.NodeRow.{NodeRow}
use Rattle.tailcfg.specs.declared.profile.Profile.{Profile}
use Rattle.same_maps.specs.Nodes.{same_contact, same_fixed, same_identity, same_node_row, same_profile, same_standing}
use Rattle.same_maps.specs.Parts.{same_endpoint, same_prefix}
use Rattle.same_maps.proofs.PartLemmas.{endpoint_itself, endpoints_equal, list_itself, lists_equal, prefix_itself, prefixes_equal}

pub disco_keys_equal : (a b : DiscoKey) → bytes_eq a.0 b.0 ≡ true → a ≡ b
disco_keys_equal a b h = ap (λ (x : List ℕ). record a { 0 = x }) (bytes_eq-true a.0 b.0 h)

node_keys_equal : (a b : NodeKey) → bytes_eq a.0 b.0 ≡ true → a ≡ b
node_keys_equal a b h = ap (λ (x : List ℕ). record a { 0 = x }) (bytes_eq-true a.0 b.0 h)

machine_keys_equal : (a b : MachineKey) → bytes_eq a.0 b.0 ≡ true → a ≡ b
machine_keys_equal a b h = ap (λ (x : List ℕ). record a { 0 = x }) (bytes_eq-true a.0 b.0 h)

expiries_equal : (a b : Option ℤ) → option_eq int_eq a b ≡ true → a ≡ b
expiries_equal None None h = refl
expiries_equal None (Some y) h = absurd (cc)
expiries_equal (Some x) None h = absurd (cc)
expiries_equal (Some x) (Some y) h = ap Some ((Decides-int_eq x y).0 h)

expiry_itself : (a : Option ℤ) → option_eq int_eq a a ≡ true
expiry_itself None = refl
expiry_itself (Some x) = (Decides-int_eq x x).1 refl

-- two nodes agree in all that a patch can't give
pub record AreFixed (a b : NodeRow) : Type 0 where
  pub id : a.id ≡ b.id
  pub user : a.user ≡ b.user
  pub key : a.key ≡ b.key
  pub machine : a.machine ≡ b.machine
  pub name : a.name ≡ b.name
  pub host : a.host ≡ b.host
  pub addresses : a.addresses ≡ b.addresses
  pub allowed : a.allowed ≡ b.allowed
  pub tags : a.tags ≡ b.tags
  pub created : a.created ≡ b.created
  pub expiry : a.expiry ≡ b.expiry

pub fixed_of : (a b : NodeRow) → same_fixed a b ≡ true → AreFixed a b
fixed_of a b h =
    let halves = and_parts (same_identity a b) (same_standing a b) h in
    let one = all6 (a.id == b.id) (a.user == b.user) (bytes_eq a.key.0 b.key.0) (bytes_eq a.machine.0 b.machine.0) (bytes_eq a.name b.name) (bytes_eq a.host b.host) halves.0 in
    let two = all5 (pointwise same_prefix a.addresses b.addresses) (pointwise same_prefix a.allowed b.allowed) (pointwise bytes_eq a.tags b.tags) (int_eq a.created b.created) (option_eq int_eq a.expiry b.expiry) halves.1 in
    record {
      id = eqb-true a.id b.id one.0;
      user = eqb-true a.user b.user one.1;
      key = node_keys_equal a.key b.key one.2;
      machine = machine_keys_equal a.machine b.machine one.3;
      name = bytes_eq-true a.name b.name one.4;
      host = bytes_eq-true a.host b.host one.5;
      addresses = lists_equal same_prefix prefixes_equal a.addresses b.addresses two.0;
      allowed = lists_equal same_prefix prefixes_equal a.allowed b.allowed two.1;
      tags = lists_equal bytes_eq bytes_eq-true a.tags b.tags two.2;
      created = (Decides-int_eq a.created b.created).0 two.3;
      expiry = expiries_equal a.expiry b.expiry two.4;
    }

-- and in all that it can
pub record AreReached (a b : NodeRow) : Type 0 where
  pub endpoints : a.endpoints ≡ b.endpoints
  pub derp : a.derp ≡ b.derp
  pub disco : a.disco ≡ b.disco
  pub online : a.online ≡ b.online

contact_of : (a b : NodeRow) → same_contact a b ≡ true → AreReached a b
contact_of a b h =
    let all = all4 (pointwise same_endpoint a.endpoints b.endpoints) (a.derp == b.derp) (bytes_eq a.disco.0 b.disco.0) (beq a.online b.online) h in
    record {
      endpoints = lists_equal same_endpoint endpoints_equal a.endpoints b.endpoints all.0;
      derp = eqb-true a.derp b.derp all.1;
      disco = disco_keys_equal a.disco b.disco all.2;
      online = beq-true a.online b.online all.3;
    }

-- nodes that agree in each field are one
pub one_node : (a b : NodeRow) → AreFixed a b → AreReached a b → a ≡ b
one_node a b f r = λ i. record {
  id = f.id i;
  user = f.user i;
  key = f.key i;
  machine = f.machine i;
  disco = r.disco i;
  name = f.name i;
  host = f.host i;
  addresses = f.addresses i;
  allowed = f.allowed i;
  endpoints = r.endpoints i;
  derp = r.derp i;
  tags = f.tags i;
  created = f.created i;
  expiry = f.expiry i;
  online = r.online i;
}

pub nodes_equal : (a b : NodeRow) → same_node_row a b ≡ true → a ≡ b
nodes_equal a b h =
    let halves = and_parts (same_fixed a b) (same_contact a b) h in
    one_node a b (fixed_of a b halves.0) (contact_of a b halves.1)

identity_itself : (a : NodeRow) → same_identity a a ≡ true
identity_itself a =
    and6 (a.id == a.id) (a.user == a.user) (bytes_eq a.key.0 a.key.0) (bytes_eq a.machine.0 a.machine.0) (bytes_eq a.name a.name) (bytes_eq a.host a.host)
    (eq-eqb a.id a.id refl) (eq-eqb a.user a.user refl) (bytes_eq-from a.key.0 a.key.0 refl) (bytes_eq-from a.machine.0 a.machine.0 refl) (bytes_eq-from a.name a.name refl) (bytes_eq-from a.host a.host refl)

standing_itself : (a : NodeRow) → same_standing a a ≡ true
standing_itself a =
    and5 (pointwise same_prefix a.addresses a.addresses) (pointwise same_prefix a.allowed a.allowed) (pointwise bytes_eq a.tags a.tags) (int_eq a.created a.created) (option_eq int_eq a.expiry a.expiry)
    (list_itself same_prefix prefix_itself a.addresses) (list_itself same_prefix prefix_itself a.allowed) (list_itself bytes_eq (λ (x : List ℕ). bytes_eq-from x x refl) a.tags)
    ((Decides-int_eq a.created a.created).1 refl) (expiry_itself a.expiry)

contact_itself : (a : NodeRow) → same_contact a a ≡ true
contact_itself a =
    and4 (pointwise same_endpoint a.endpoints a.endpoints) (a.derp == a.derp) (bytes_eq a.disco.0 a.disco.0) (beq a.online a.online)
    (list_itself same_endpoint endpoint_itself a.endpoints) (eq-eqb a.derp a.derp refl) (bytes_eq-from a.disco.0 a.disco.0 refl) (beq-from a.online a.online refl)

pub node_itself : (a : NodeRow) → same_node_row a a ≡ true
node_itself a =
    and_from (same_fixed a a) (same_contact a a)
    (and_from (same_identity a a) (same_standing a a) (identity_itself a) (standing_itself a)) (contact_itself a)

pub same_nodes : (a b : NodeRow) → same_node_row a b ≡ true ↔ (a ≡ b)
same_nodes a b = (nodes_equal a b, λ e. ap (λ (x : NodeRow). same_node_row a x) (sym e) ∙ node_itself a)

pub profiles_equal : (a b : Profile) → same_profile a b ≡ true → a ≡ b
profiles_equal a b h =
    let all = all3 (a.id == b.id) (bytes_eq a.login b.login) (bytes_eq a.display b.display) h in
    λ i. record {
      id = eqb-true a.id b.id all.0 i;
      login = bytes_eq-true a.login b.login all.1 i;
      display = bytes_eq-true a.display b.display all.2 i;
    }

pub profile_itself : (a : Profile) → same_profile a a ≡ true
profile_itself a =
    and3 (a.id == a.id) (bytes_eq a.login a.login) (bytes_eq a.display a.display)
    (eq-eqb a.id a.id refl) (bytes_eq-from a.login a.login refl) (bytes_eq-from a.display a.display refl)

pub same_profiles : (a b : Profile) → same_profile a b ≡ true ↔ (a ≡ b)
same_profiles a b = (profiles_equal a b, λ e. ap (λ (x : Profile). same_profile a x) (sym e) ∙ profile_itself a)
