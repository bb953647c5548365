-- A row passes the tests of sameness exactly if it is the row that it was.
use Rattle.std.proofs.Common.{◌≡◌, ℕ, ℤ, Bool, true, ◌==◌, List, [], ◌∷◌, Option, Some, None, refl, sym, ap, ◌∙◌}
use Rattle.std.proofs.lemmas.Bool.{eqb-true, eq-eqb, and_parts, and_from}
use Rattle.std.proofs.lemmas.Bool.Decides.{Decides-int_eq}
use Rattle.std.specs.Bool.{beq}
use Rattle.std.specs.Cmp.Lexicographic.{pointwise}
use Rattle.std.specs.Option.{option_eq}
use Rattle.std.specs.Ordering.{int_eq}
use Rattle.std.specs.Str.{bytes_eq}
use Rattle.tail_base.specs.declared.key.DiscoKey.{DiscoKey}
use Rattle.tail_base.specs.declared.key.NodeKey.{NodeKey}
use Rattle.net_addr.specs.Bits.{Address, Block}
use Rattle.net_addr.specs.declared.endpoint.Endpoint.{Endpoint}
use Rattle.net_rows.specs.Damage.{address_eq}
use Rattle.net_rows.specs.declared.machine.Machine.{Machine}
use Rattle.tail_base.proofs.Bools.{all3, all5, and3, and5, beq-true, beq-from, bytes_eq-true, bytes_eq-from}
use Rattle.net_rows.proofs.Stands.{address_of, address_is}
use Rattle.desk_state.specs.Same.{KeepsPlace, KeepsRegistration, endpoint_eq, prefix_eq, same_host, same_path, same_registration, same_row, same_told}

-- a test that passes for equal things alone does so for lists of them
lists_of : {A : Type 0} (test : A → A → Bool) → ((a b : A) → test a b ≡ true → a ≡ b) → (xs ys : List A) → pointwise test xs ys ≡ true → xs ≡ ys
lists_of test of [] [] h = refl
lists_of test of [] (y ∷ ys) h = absurd (cc)
lists_of test of (x ∷ xs) [] h = absurd (cc)
lists_of test of (x ∷ xs) (y ∷ ys) h =
    let passes = and_parts (test x y) (pointwise test xs ys) h in
    let first : x ≡ y = of x y passes.0 in
    let rest : xs ≡ ys = lists_of test of xs ys passes.1 in
    cc

lists_is : {A : Type 0} (test : A → A → Bool) → ((a : A) → test a a ≡ true) → (xs : List A) → pointwise test xs xs ≡ true
lists_is test is [] = refl
lists_is test is (x ∷ xs) = and_from (test x x) (pointwise test xs xs) (is x) (lists_is test is xs)

endpoint_of : (a b : Endpoint) → endpoint_eq a b ≡ true → a ≡ b
endpoint_of a b h =
    let passes = and_parts (address_eq a.addr b.addr) (a.port == b.port) h in
    ap (λ (x : Address). record a { addr = x }) (address_of a.addr b.addr passes.0) ∙ ap (λ (n : ℕ). record b { port = n }) (eqb-true a.port b.port passes.1)

endpoint_is : (a : Endpoint) → endpoint_eq a a ≡ true
endpoint_is a = and_from (address_eq a.addr a.addr) (a.port == a.port) (address_is a.addr a.addr refl) (eq-eqb a.port a.port refl)

prefix_of : (a b : Block) → prefix_eq a b ≡ true → a ≡ b
prefix_of a b h =
    let passes = and_parts (address_eq a.base b.base) (a.len == b.len) h in
    ap (λ (x : Address). record a { base = x }) (address_of a.base b.base passes.0) ∙ ap (λ (n : ℕ). record b { len = n }) (eqb-true a.len b.len passes.1)

prefix_is : (a : Block) → prefix_eq a a ≡ true
prefix_is a = and_from (address_eq a.base a.base) (a.len == a.len) (address_is a.base a.base refl) (eq-eqb a.len a.len refl)

-- the same routes pass
pub routes_is : (routes : List Block) → pointwise prefix_eq routes routes ≡ true
routes_is routes = lists_is prefix_eq prefix_is routes

disco_of : (a b : DiscoKey) → a.0 ≡ b.0 → a ≡ b
disco_of a b e = ap (λ (x : List ℕ). record a { 0 = x }) e

node_of : (a b : NodeKey) → a.0 ≡ b.0 → a ≡ b
node_of a b e = ap (λ (x : List ℕ). record a { 0 = x }) e

expiry_of : (a b : Option ℤ) → option_eq int_eq a b ≡ true → a ≡ b
expiry_of None None h = refl
expiry_of None (Some y) h = absurd (cc)
expiry_of (Some x) None h = absurd (cc)
expiry_of (Some x) (Some y) h = ap Some ((Decides-int_eq x y).0 h)

expiry_is : (a : Option ℤ) → option_eq int_eq a a ≡ true
expiry_is None = refl
expiry_is (Some x) = (Decides-int_eq x x).1 refl

-- what the machine tells of itself stays
record KeepsTold (m r : Machine) : Type 0 where
  pub endpoints : r.endpoints ≡ m.endpoints
  pub disco : r.disco ≡ m.disco
  pub host : r.host ≡ m.host
  pub derp : r.derp ≡ m.derp
  pub routes : r.routes ≡ m.routes

told_of : (m r : Machine) → same_told m r ≡ true → KeepsTold m r
told_of m r h =
    let halves = and_parts (same_path m r) (same_host m r) h in
    let path = and_parts (pointwise endpoint_eq m.endpoints r.endpoints) (bytes_eq m.disco.0 r.disco.0) halves.0 in
    let host = all3 (bytes_eq m.host r.host) (m.derp == r.derp) (pointwise prefix_eq m.routes r.routes) halves.1 in
    record {
      endpoints = sym (lists_of endpoint_eq endpoint_of m.endpoints r.endpoints path.0);
      disco = sym (disco_of m.disco r.disco (bytes_eq-true m.disco.0 r.disco.0 path.1));
      host = sym (bytes_eq-true m.host r.host host.0);
      derp = sym (eqb-true m.derp r.derp host.1);
      routes = sym (lists_of prefix_eq prefix_of m.routes r.routes host.2);
    }

registration_of : (m r : Machine) → same_registration m r ≡ true → KeepsRegistration m r
registration_of m r h =
    let all = all5 (m.user == r.user) (bytes_eq m.node.0 r.node.0) (beq m.ephemeral r.ephemeral) (option_eq int_eq m.expiry r.expiry) (pointwise bytes_eq m.tags r.tags) h in
    record {
      user = sym (eqb-true m.user r.user all.0);
      node = sym (node_of m.node r.node (bytes_eq-true m.node.0 r.node.0 all.1));
      ephemeral = sym (beq-true m.ephemeral r.ephemeral all.2);
      expiry = sym (expiry_of m.expiry r.expiry all.3);
      tags = sym (lists_of bytes_eq bytes_eq-true m.tags r.tags all.4);
    }

-- rows that agree in each field are one
one_row : (m r : Machine) → KeepsPlace m r → KeepsRegistration m r → KeepsTold m r → r ≡ m
one_row m r place registration told = λ i. record {
  id = place.id i;
  user = registration.user i;
  machine = place.machine i;
  node = registration.node i;
  disco = told.disco i;
  host = told.host i;
  name = place.name i;
  v4 = place.v4 i;
  v6 = place.v6 i;
  endpoints = told.endpoints i;
  derp = told.derp i;
  routes = told.routes i;
  approved = place.approved i;
  tags = registration.tags i;
  ephemeral = registration.ephemeral i;
  expiry = registration.expiry i;
  created = place.created i;
}

pub told_stays : (m r : Machine) → KeepsPlace m r → KeepsRegistration m r → same_told m r ≡ true → r ≡ m
told_stays m r place registration h = one_row m r place registration (told_of m r h)

pub row_stays : (m r : Machine) → KeepsPlace m r → same_row m r ≡ true → r ≡ m
row_stays m r place h =
    let halves = and_parts (same_registration m r) (same_told m r) h in
    one_row m r place (registration_of m r halves.0) (told_of m r halves.1)

told_same : (m : Machine) → same_told m m ≡ true
told_same m =
    and_from (same_path m m) (same_host m m)
    (and_from (pointwise endpoint_eq m.endpoints m.endpoints) (bytes_eq m.disco.0 m.disco.0) (lists_is endpoint_eq endpoint_is m.endpoints) (bytes_eq-from m.disco.0 m.disco.0 refl))
    (and3 (bytes_eq m.host m.host) (m.derp == m.derp) (pointwise prefix_eq m.routes m.routes) (bytes_eq-from m.host m.host refl) (eq-eqb m.derp m.derp refl) (lists_is prefix_eq prefix_is m.routes))

registration_same : (m : Machine) → same_registration m m ≡ true
registration_same m =
    and5 (m.user == m.user) (bytes_eq m.node.0 m.node.0) (beq m.ephemeral m.ephemeral) (option_eq int_eq m.expiry m.expiry) (pointwise bytes_eq m.tags m.tags)
    (eq-eqb m.user m.user refl) (bytes_eq-from m.node.0 m.node.0 refl) (beq-from m.ephemeral m.ephemeral refl) (expiry_is m.expiry)
    (lists_is bytes_eq (λ (x : List ℕ). bytes_eq-from x x refl) m.tags)

pub told_kept : (m r : Machine) → r ≡ m → same_told m r ≡ true
told_kept m r e = ap (λ (x : Machine). same_told m x) e ∙ told_same m

pub row_kept : (m r : Machine) → r ≡ m → same_row m r ≡ true
row_kept m r e = ap (λ (x : Machine). same_row m x) e ∙ and_from (same_registration m m) (same_told m m) (registration_same m) (told_same m)
