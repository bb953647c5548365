-- Tests that pass for equal things alone.
use Rattle.std.proofs.Common.{◌≡◌, ℕ, Bool, true, ◌==◌, List, [], ◌∷◌, refl, ap, ◌∙◌}
use Rattle.std.proofs.lemmas.Bool.{eqb-true, eq-eqb, and_parts, and_from}
use Rattle.std.specs.Cmp.Lexicographic.{pointwise}
use Rattle.net_addr.specs.Bits.{Address, Block}
use Rattle.net_addr.specs.declared.endpoint.Endpoint.{Endpoint}
use Rattle.net_rows.specs.Damage.{address_eq}
use Rattle.net_rows.proofs.Stands.{address_of, address_is}
use Rattle.same_maps.specs.Parts.{same_endpoint, same_prefix}

-- of lists, as of their elements
pub lists_equal : {A : Type 0} (test : A → A → Bool) → ((a b : A) → test a b ≡ true → a ≡ b) → (xs ys : List A) → pointwise test xs ys ≡ true → xs ≡ ys
lists_equal test of [] [] h = refl
lists_equal test of [] (y ∷ ys) h = absurd (cc)
lists_equal test of (x ∷ xs) [] h = absurd (cc)
lists_equal test of (x ∷ xs) (y ∷ ys) h =
    let passes = and_parts (test x y) (pointwise test xs ys) h in
    let first : x ≡ y = of x y passes.0 in
    let rest : xs ≡ ys = lists_equal test of xs ys passes.1 in
    cc

pub list_itself : {A : Type 0} (test : A → A → Bool) → ((a : A) → test a a ≡ true) → (xs : List A) → pointwise test xs xs ≡ true
list_itself test is [] = refl
list_itself test is (x ∷ xs) = and_from (test x x) (pointwise test xs xs) (is x) (list_itself test is xs)

pub address_itself : (a : Address) → address_eq a a ≡ true
address_itself a = address_is a a refl

pub endpoints_equal : (a b : Endpoint) → same_endpoint a b ≡ true → a ≡ b
endpoints_equal a b h =
    let passes = and_parts (address_eq a.addr b.addr) (a.port == b.port) h in
    λ i. record { addr = address_of a.addr b.addr passes.0 i; port = eqb-true a.port b.port passes.1 i }

pub endpoint_itself : (a : Endpoint) → same_endpoint a a ≡ true
endpoint_itself a = and_from (address_eq a.addr a.addr) (a.port == a.port) (address_itself a.addr) (eq-eqb a.port a.port refl)

pub prefixes_equal : (a b : Block) → same_prefix a b ≡ true → a ≡ b
prefixes_equal a b h =
    let passes = and_parts (address_eq a.base b.base) (a.len == b.len) h in
    λ i. record { base = address_of a.base b.base passes.0 i; len = eqb-true a.len b.len passes.1 i }

pub prefix_itself : (a : Block) → same_prefix a a ≡ true
prefix_itself a = and_from (address_eq a.base a.base) (a.len == a.len) (address_itself a.base) (eq-eqb a.len a.len refl)
