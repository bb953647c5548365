-- In tables that keep their rules an address has at most one site, and none where a site serves it beside its own.
use Rattle.std.proofs.Common.{◌≡◌, ◌&&◌, ℕ, Bool, true, false, List, [], ◌∷◌, ap, sym, ◌∙◌, inl, inr, subst}
use Rattle.std.specs.Prelude.{Contains, Option, Some, None, filter, map}
use Rattle.std.proofs.lemmas.Bool.{and_parts, both_ways, cases_Bool, false_from_ne_true, or_cases, or_left, or_right}
use Rattle.net_addr.specs.Bits.{Address}
use Rattle.net_addr.specs.Blocks.{holds}
use Rattle.net_addr.specs.Tailnet.{tailnet_v4, tailnet_v6}
use Rattle.net_addr.proofs.BlockLemmas.{holds_parts}
use Rattle.net_rows.specs.Damage.{address_eq, damage}
use Rattle.net_rows.specs.Shelf.{IsAscending, row_at}
use Rattle.net_rows.specs.Sound.{AreMachines, MachineKeeps}
use Rattle.net_rows.specs.declared.machine.Machine.{Machine}
use Rattle.net_rows.specs.declared.rows.Rows.{Rows}
use Rattle.net_rows.specs.declared.user.User.{User}
use Rattle.policy_rows.specs.Internet.{is_internet}
use Rattle.policy_rows.specs.declared.policy.Policy.{Policy}
use Rattle.net_rows.proofs.Members.{cut_member, first_member, no_member, rest_member}
use Rattle.net_rows.proofs.RowAt.{row_at_is}
use Rattle.net_rows.proofs.Sounds.{sound_of}
use Rattle.net_rows.proofs.Stands.{address_of}
use Rattle.range_sets.specs.Sets.{some_holds}
use Rattle.policy_sites.specs.Owners.{machine_login}
use Rattle.policy_sites.specs.Tailnets.{is_tailnet}
use Rattle.policy_sites.proofs.LawLemmas.{addresses_outside, internet_outside}
use Rattle.policy_sites.specs.Sites.{AreServedApart, AreDistinct, is_among, serves_beyond, site_has, site_of, sites_of}
use Rattle.policy_sites.specs.declared.site.Site.{Site}
use Rattle.policy_sites.proofs.RouteLemmas.{kept}

-- what a mapped list has comes from an element
pub map_member : {A B : Type 0} (f : A → B) (xs : List A) (b : B) → Contains (map f xs) b → (a : A) × Contains xs a × (f a ≡ b)
map_member f [] b m = absurd (no_member b m)
map_member {A} {B} f (x ∷ xs) b m =
    elim (cut_member (f x) (map f xs) b m) [
      | inl e ↦ (x, first_member x xs, sym e)
      | inr r ↦ let rest = map_member f xs b r in (rest.0, rest_member x xs rest.0 rest.1, rest.2)
    ]

filter_member : {A : Type 0} (test : A → Bool) (xs : List A) (a : A) → Contains (filter test xs) a → Contains xs a
filter_member test [] a m = absurd (no_member a m)
filter_member {A} test (x ∷ xs) a m =
    elim (cases_Bool (test x)) [
      | inl passes ↦ elim (cut_member x (filter test xs) a (rw passes at m)) [
        | inl e ↦ rw e (first_member x xs)
        | inr r ↦ rest_member x xs a (filter_member test xs a r)
      ]
      | inr fails ↦ rest_member x xs a (filter_member test xs a (rw fails at m))
    ]

-- rows of one id are one
same_row : (machines : List Machine) (a b : Machine) → IsAscending (λ r. r.id) machines → Contains machines a → Contains machines b → a.id ≡ b.id → a ≡ b
same_row machines a b h m n same =
    let id : Machine → ℕ = λ r. r.id in
    let left : row_at id machines a.id ≡ Some a = row_at_is id machines a h m in
    let right : row_at id machines b.id ≡ Some b = row_at_is id machines b h n in
    let one : Some a ≡ Some b = sym left ∙ (ap (λ (k : ℕ). row_at id machines k) same ∙ right) in
    cc

-- no machine's IPv4 address is another's IPv6 address
families_differ : (a b : Address) → holds tailnet_v4 a ≡ true → holds tailnet_v6 b ≡ true → a ≡ b → ⊥
families_differ a b h k same =
    let first : false ≡ a.v6 = (holds_parts tailnet_v4 a h).0 in
    let second : true ≡ b.v6 = (holds_parts tailnet_v6 b k).0 in
    cc

same_machine : (policy : Option Policy) (users : List User) (machines : List Machine) (next : ℕ) → AreMachines users machines next → (addr : Address) (a b : Machine) → Contains machines a → Contains machines b
    → site_has addr (site_of policy users a) ≡ true → site_has addr (site_of policy users b) ≡ true → a ≡ b
same_machine policy users machines next sound addr a b m n h k =
    let ka = sound.keeps a m in
    let kb = sound.keeps b n in
    elim (or_cases (address_eq a.v4 addr) (address_eq a.v6 addr) h) [
      | inl p ↦ elim (or_cases (address_eq b.v4 addr) (address_eq b.v6 addr) k) [
        | inl q ↦ same_row machines a b sound.ascend m n (sound.v4 a b m n (address_of a.v4 addr p ∙ sym (address_of b.v4 addr q)))
        | inr q ↦ absurd (families_differ a.v4 b.v6 ka.v4 kb.v6 (address_of a.v4 addr p ∙ sym (address_of b.v6 addr q)))
      ]
      | inr p ↦ elim (or_cases (address_eq b.v4 addr) (address_eq b.v6 addr) k) [
        | inl q ↦ absurd (families_differ b.v4 a.v6 kb.v4 ka.v6 (address_of b.v4 addr q ∙ sym (address_of a.v6 addr p)))
        | inr q ↦ same_row machines a b sound.ascend m n (sound.v6 a b m n (address_of a.v6 addr p ∙ sym (address_of b.v6 addr q)))
      ]
    ]

-- the machine whose site it is
machine_at : (policy : Option Policy) (rows : Rows) (live : List ℕ) (s : Site) → Contains (sites_of policy rows live) s → (m : Machine) × Contains rows.machines m × (site_of policy rows.users m ≡ s)
machine_at policy rows live s h =
    let found = map_member (site_of policy rows.users) (filter (is_among live) rows.machines) s h in
    (found.0, filter_member (is_among live) rows.machines found.0 found.1, found.2)

pub one_site : (policy : Option Policy) (rows : Rows) (live : List ℕ) → damage rows ≡ None → AreDistinct (sites_of policy rows live)
one_site policy rows live sound addr a b m n h k =
    let p = machine_at policy rows live a m in
    let q = machine_at policy rows live b n in
    let ha : site_has addr (site_of policy rows.users p.0) ≡ true = subst (λ (s : Site). site_has addr s ≡ true) (sym p.2) h in
    let hb : site_has addr (site_of policy rows.users q.0) ≡ true = subst (λ (s : Site). site_has addr s ≡ true) (sym q.2) k in
    let same : p.0 ≡ q.0 = same_machine policy rows.users rows.machines rows.next.machine (sound_of rows sound).machines addr p.0 q.0 p.1 q.1 ha hb in
    sym p.2 ∙ (ap (site_of policy rows.users) same ∙ q.2)

-- ---- what sites serve beside their own addresses

-- it is no address of tailnets
beyond_outside : (policy : Option Policy) (users : List User) (m : Machine) (addr : Address) → serves_beyond (site_of policy users m) addr ≡ true → is_tailnet addr ≡ false
beyond_outside policy users m addr h =
    let site = site_of policy users m in
    elim (or_cases (some_holds site.approved addr) (site.exit && is_internet addr) h) [
      | inl route ↦ addresses_outside kept policy (machine_login users m) m addr route
      | inr public ↦ internet_outside addr (and_parts site.exit (is_internet addr) public).1
    ]

own_inside : (policy : Option Policy) (users : List User) (m : Machine) (addr : Address) → MachineKeeps users m → site_has addr (site_of policy users m) ≡ true → is_tailnet addr ≡ true
own_inside policy users m addr keeps h =
    elim (or_cases (address_eq m.v4 addr) (address_eq m.v6 addr) h) [
      | inl p ↦ or_left (holds tailnet_v4 addr) (holds tailnet_v6 addr) (ap (holds tailnet_v4) (sym (address_of m.v4 addr p)) ∙ keeps.v4)
      | inr q ↦ or_right (holds tailnet_v4 addr) (holds tailnet_v6 addr) (ap (holds tailnet_v6) (sym (address_of m.v6 addr q)) ∙ keeps.v6)
    ]

pub sites_apart : (policy : Option Policy) (rows : Rows) (live : List ℕ) → damage rows ≡ None → AreServedApart (sites_of policy rows live)
sites_apart policy rows live sound addr a b m n h =
    let p = machine_at policy rows live a m in
    let q = machine_at policy rows live b n in
    let beyond : serves_beyond (site_of policy rows.users p.0) addr ≡ true = subst (λ (s : Site). serves_beyond s addr ≡ true) (sym p.2) h in
    let outside = beyond_outside policy rows.users p.0 addr beyond in
    let keeps = (sound_of rows sound).machines.keeps q.0 q.1 in
    let apart : site_has addr (site_of policy rows.users q.0) ≡ false = false_from_ne_true (site_has addr (site_of policy rows.users q.0)) (λ has. both_ways (is_tailnet addr) outside (own_inside policy rows.users q.0 addr keeps has)) in
    subst (λ (s : Site). site_has addr s ≡ false) q.2 apart
