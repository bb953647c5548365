-- Laws of approved routes, and of what is served.
use Rattle.std.proofs.Common.{◌≡◌, ◌&&◌, ◌||◌, ◌∙◌, ℕ, Bool, true, false, List, [], ◌∷◌, ap, arith, eqb, inl, inr, refl, subst, sym}
use Rattle.std.specs.Prelude.{Contains, Option, Some, None, filter, not}
use Rattle.std.specs.Bool.{beq}
use Rattle.std.specs.List.{list_any}
use Rattle.std.proofs.lemmas.Bool.{and_from, and_parts, and_right, both_ways, cases_Bool, eq-eqb, eqb-true, false_from_ne_true, not-true, or_cases, or_parts}
use Rattle.tail_base.proofs.Bools.{beq-from, beq-true}
use Rattle.net_addr.specs.Bits.{Address, Block}
use Rattle.net_addr.specs.Blocks.{holds, overlap}
use Rattle.net_addr.specs.Routes.{sorted_routes}
use Rattle.net_addr.specs.Tailnet.{tailnet_v4, tailnet_v6}
use Rattle.net_addr.proofs.BlockLemmas.{holds_parts, overlap_means}
use Rattle.net_rows.specs.Damage.{address_eq}
use Rattle.net_rows.specs.declared.machine.Machine.{Machine}
use Rattle.net_rows.proofs.Members.{list_any_found, list_any_is, list_any_member}
use Rattle.policy_rows.specs.Internet.{internet_nets, is_internet, not_internet, v4_net, v6_net}
use Rattle.policy_rows.specs.declared.internet.TheConstants.{GLOBAL_V6_BASE, GLOBAL_V6_LEN}
use Rattle.policy_rows.specs.declared.policy.Policy.{Policy}
use Rattle.range_sets.specs.Sets.{some_holds}
use Rattle.policy_sites.specs.Approvals.{approved_of, approves, is_approved, is_exit, some_approver, some_exit_approver}
use Rattle.policy_sites.specs.Exits.{both_exits, has_route, is_exit_route, route_eq}
use Rattle.policy_sites.specs.Serving.{machine_serves}
use Rattle.policy_sites.specs.Tailnets.{is_tailnet, overlaps_tailnet}

abbrev block : Bool → ℕ → ℕ → Block
block v6 bits len = record { base = record { v6 = v6; bits = bits }; len = len }

same_block : (a b : Bool) (m n k l : ℕ) → a ≡ b → m ≡ n → k ≡ l → block a m k ≡ block b n l
same_block a b m n k l p q r = rw (p, q, r) refl

route_eq-true : (p q : Block) → route_eq p q ≡ true → p ≡ q
route_eq-true p q h =
    let parts = and_parts (address_eq p.base q.base) (eqb p.len q.len) h in
    let base = and_parts (beq p.base.v6 q.base.v6) (eqb p.base.bits q.base.bits) parts.0 in
    same_block p.base.v6 q.base.v6 p.base.bits q.base.bits p.len q.len (beq-true p.base.v6 q.base.v6 base.0)
    (eqb-true p.base.bits q.base.bits base.1) (eqb-true p.len q.len parts.1)

route_eq-self : (p : Block) → route_eq p p ≡ true
route_eq-self p =
    let base = and_from (beq p.base.v6 p.base.v6) (eqb p.base.bits p.base.bits) (beq-from p.base.v6 p.base.v6 refl) (eq-eqb p.base.bits p.base.bits refl) in
    and_from (address_eq p.base p.base) (eqb p.len p.len) base (eq-eqb p.len p.len refl)

-- a route of the list is there, and the other way round
route_there : (routes : List Block) (r : Block) → Contains routes r → has_route routes r ≡ true
route_there routes r inside = list_any_is (λ q. route_eq q r) routes r inside (route_eq-self r)

route_of : (routes : List Block) (r : Block) → has_route routes r ≡ true → Contains routes r
route_of routes r there =
    let found = list_any_found (λ q. route_eq q r) routes there in
    subst (λ (q : Block). Contains routes q) (route_eq-true found.0 r found.2) found.1

-- of the elements that pass a test some is the one where it is there and passes
kept_any : {T : Type 0} (test is : T → Bool) (b : Bool) → ((x : T) → is x ≡ true → test x ≡ b) → (xs : List T)
    → list_any is (filter test xs) ≡ (list_any is xs && b)
kept_any test is b same [] = refl
kept_any test is b same (x ∷ xs) =
    let rest = kept_any test is b same xs in
    elim (cases_Bool (test x)) [
      | inl passes ↦ elim (cases_Bool (is x)) [
        | inl found ↦ let e : b ≡ true = sym (same x found) ∙ passes in rw (passes, found) (sym e)
        | inr lost ↦ rw (passes, lost) rest
      ]
      | inr fails ↦ elim (cases_Bool (is x)) [
        | inl found ↦ let e : b ≡ false = sym (same x found) ∙ fails in rw (fails, found) (rest ∙ (and_right (list_any is xs) b e ∙ sym e))
        | inr lost ↦ rw (fails, lost) rest
      ]
    ]

same_any : {T : Type 0} (f g : T → Bool) → ((x : T) → f x ≡ g x) → (xs : List T) → list_any f xs ≡ list_any g xs
same_any f g same [] = refl
same_any f g same (x ∷ xs) = rw (same x, same_any f g same xs) refl

-- other advertised routes are the same to an approver
approver_apart : (policy : Option Policy) (login : List ℕ) (m : Machine) (routes : List Block) (r : Block)
    → some_approver policy login (record m { routes = routes }) r ≡ some_approver policy login m r
approver_apart None login m routes r = refl
approver_apart (Some policy) login m routes r =
    same_any (approves policy.groups login (record m { routes = routes }) r) (approves policy.groups login m r) (λ approver. refl) policy.route_approvers

exit_approver_apart : (policy : Option Policy) (login : List ℕ) (m : Machine) (routes : List Block)
    → some_exit_approver policy login (record m { routes = routes }) ≡ some_exit_approver policy login m
exit_approver_apart None login m routes = refl
exit_approver_apart (Some policy) login m routes = refl

approval_apart : (policy : Option Policy) (login : List ℕ) (m : Machine) (routes : List Block) (r : Block)
    → is_approved policy login (record m { routes = routes }) r ≡ is_approved policy login m r
approval_apart policy login m routes r =
    ap (λ (b : Bool). not (is_exit_route r) && not (overlaps_tailnet r) && (has_route m.approved r || b)) (approver_apart policy login m routes r)

and_true : (a b : Bool) → b ≡ true → (a && b) ≡ a
and_true true b e = e
and_true false b e = refl

pub exit_again : (policy : Option Policy) (login : List ℕ) (m : Machine) (routes : List Block) → is_exit policy login m ≡ true
    → is_exit policy login (record m { routes = routes }) ≡ both_exits routes
exit_again policy login m routes h =
    let passes = (and_parts (both_exits m.routes) (both_exits m.approved || some_exit_approver policy login m) h).1 in
    ap (λ (b : Bool). both_exits routes && (both_exits m.approved || b)) (exit_approver_apart policy login m routes)
    ∙ and_true (both_exits routes) (both_exits m.approved || some_exit_approver policy login m) passes

-- an address of a route is not in a prefix that the route doesn't overlap
none_shared : (r t : Block) (addr : Address) → overlap r t ≡ false → holds r addr ≡ true → holds t addr ≡ false
none_shared r t addr apart here =
    false_from_ne_true (holds t addr) (λ there. both_ways (overlap r t) apart ((overlap_means (overlap r t) r t refl).1 (addr, here, there)))

no_tailnet : (addr : Address) → holds tailnet_v4 addr ≡ false → holds tailnet_v6 addr ≡ false → is_tailnet addr ≡ false
no_tailnet addr p q = rw (p, q) refl

internet_v4 : (addr : Address) → is_internet addr ≡ true → holds tailnet_v4 addr ≡ false
internet_v4 addr h =
    let parts = and_parts (list_any (λ net. holds net addr) internet_nets) (not (list_any (λ net. holds net addr) not_internet)) h in
    list_any_member (λ net. holds net addr) not_internet (not-true (list_any (λ net. holds net addr) not_internet) parts.1) tailnet_v4 (4, omega arith, refl)

-- 2000::/3 ends below the addresses of tailnets
global_below : (addr : Address) → holds (v6_net GLOBAL_V6_BASE GLOBAL_V6_LEN) addr ≡ true → holds tailnet_v6 addr ≡ true → ⊥
global_below addr h t =
    let a = holds_parts (v6_net GLOBAL_V6_BASE GLOBAL_V6_LEN) addr h in
    let b = holds_parts tailnet_v6 addr t in
    omega arith

other_family : (addr : Address) → holds (v4_net 0 0) addr ≡ true → holds tailnet_v6 addr ≡ true → ⊥
other_family addr h t =
    let a = (holds_parts (v4_net 0 0) addr h).0 in
    let b = (holds_parts tailnet_v6 addr t).0 in
    let bad : false ≡ true = a ∙ sym b in
    absurd (cc)

internet_v6 : (addr : Address) → is_internet addr ≡ true → holds tailnet_v6 addr ≡ true → ⊥
internet_v6 addr h t =
    let parts = and_parts (list_any (λ net. holds net addr) internet_nets) (not (list_any (λ net. holds net addr) not_internet)) h in
    elim (or_cases (holds (v4_net 0 0) addr) (holds (v6_net GLOBAL_V6_BASE GLOBAL_V6_LEN) addr || false) parts.0) [
      | inl v4 ↦ other_family addr v4 t
      | inr more ↦ elim (or_cases (holds (v6_net GLOBAL_V6_BASE GLOBAL_V6_LEN) addr) false more) [
        | inl v6 ↦ global_below addr v6 t
        | inr none ↦ absurd (cc)
      ]
    ]

pub internet_outside : (addr : Address) → is_internet addr ≡ true → is_tailnet addr ≡ false
internet_outside addr h =
    no_tailnet addr (internet_v4 addr h) (false_from_ne_true (holds tailnet_v6 addr) (λ t. internet_v6 addr h t))

no_more : (a e : Bool) → (a || false || e && false) ≡ a
no_more true true = refl
no_more true false = refl
no_more false true = refl
no_more false false = refl

alone : (a s e i : Bool) → s ≡ false → i ≡ false → (a || s || e && i) ≡ a
alone a s e i p q = rw (p, q) (no_more a e)

-- given that the routes in order are those that were given
module _ (kept : (test : Block → Bool) (routes : List Block) → list_any test (sorted_routes routes) ≡ list_any test routes) where
  approved_any : (policy : Option Policy) (login : List ℕ) (m : Machine) (r : Block)
      → has_route (approved_of policy login m) r ≡ (has_route m.routes r && is_approved policy login m r)
  approved_any policy login m r =
      kept (λ q. route_eq q r) (filter (is_approved policy login m) m.routes)
      ∙ kept_any (is_approved policy login m) (λ q. route_eq q r) (is_approved policy login m r)
      (λ x e. ap (is_approved policy login m) (route_eq-true x r e)) m.routes

  pub apart : (policy : Option Policy) (login : List ℕ) (m : Machine) (routes : List Block) (r : Block)
      → has_route (approved_of policy login (record m { routes = routes })) r ≡ (has_route routes r && is_approved policy login m r)
  apart policy login m routes r =
      approved_any policy login (record m { routes = routes }) r ∙ ap (λ (b : Bool). has_route routes r && b) (approval_apart policy login m routes r)

  approved_parts : (policy : Option Policy) (login : List ℕ) (m : Machine) (r : Block) → Contains (approved_of policy login m) r
      → (has_route m.routes r ≡ true) × (is_approved policy login m r ≡ true)
  approved_parts policy login m r inside =
      and_parts (has_route m.routes r) (is_approved policy login m r) (sym (approved_any policy login m r) ∙ route_there (approved_of policy login m) r inside)

  pub advertised : (policy : Option Policy) (login : List ℕ) (m : Machine) (r : Block) → Contains (approved_of policy login m) r → Contains m.routes r
  advertised policy login m r inside = route_of m.routes r (approved_parts policy login m r inside).0

  pub again : (policy : Option Policy) (login : List ℕ) (m : Machine) (routes : List Block) (r : Block) → has_route (approved_of policy login m) r ≡ true
      → has_route (approved_of policy login (record m { routes = routes })) r ≡ has_route routes r
  again policy login m routes r h =
      let passes = (and_parts (has_route m.routes r) (is_approved policy login m r) (sym (approved_any policy login m r) ∙ h)).1 in
      apart policy login m routes r ∙ and_true (has_route routes r) (is_approved policy login m r) passes

  pub outside : (policy : Option Policy) (login : List ℕ) (m : Machine) (r : Block) → Contains (approved_of policy login m) r → overlaps_tailnet r ≡ false
  outside policy login m r inside =
      let tests = and_parts (not (is_exit_route r) && not (overlaps_tailnet r)) (has_route m.approved r || some_approver policy login m r) (approved_parts policy login m r inside).1 in
      not-true (overlaps_tailnet r) (and_parts (not (is_exit_route r)) (not (overlaps_tailnet r)) tests.0).1

  pub addresses_outside : (policy : Option Policy) (login : List ℕ) (m : Machine) (addr : Address)
      → some_holds (approved_of policy login m) addr ≡ true → is_tailnet addr ≡ false
  addresses_outside policy login m addr h =
      let found = list_any_found (λ r. holds r addr) (approved_of policy login m) h in
      let apart = or_parts (overlap found.0 tailnet_v4) (overlap found.0 tailnet_v6) (outside policy login m found.0 found.1) in
      no_tailnet addr (none_shared found.0 tailnet_v4 addr apart.0 found.2) (none_shared found.0 tailnet_v6 addr apart.1 found.2)

  pub own_alone : (policy : Option Policy) (login : List ℕ) (m : Machine) (addr : Address) → is_tailnet addr ≡ true
      → machine_serves policy login m addr ≡ (address_eq m.v4 addr || address_eq m.v6 addr)
  own_alone policy login m addr h =
      alone (address_eq m.v4 addr || address_eq m.v6 addr) (some_holds (approved_of policy login m) addr) (is_exit policy login m) (is_internet addr)
      (false_from_ne_true (some_holds (approved_of policy login m) addr) (λ s. both_ways (is_tailnet addr) (addresses_outside policy login m addr s) h))
      (false_from_ne_true (is_internet addr) (λ i. both_ways (is_tailnet addr) (internet_outside addr i) h))
