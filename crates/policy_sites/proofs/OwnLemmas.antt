-- A site's own two addresses, and what selectors cover of them.
use Rattle.std.proofs.Common.{◌≡◌, ◌<◌, ◌&&◌, ◌==◌, ◌||◌, ◌⊎◌, Bool, true, false, List, refl, ap, sym, ◌∙◌, inl, inr}
use Rattle.std.specs.Prelude.{Contains}
use Rattle.std.specs.Bool.{beq}
use Rattle.std.proofs.lemmas.Bool.{and_from, eq-eqb, or_cases, or_left, or_right}
use Rattle.tail_base.proofs.Bools.{beq-from}
use Rattle.net_addr.specs.Bits.{Address, family_size}
use Rattle.net_addr.proofs.SearchLemmas.{address_found}
use Rattle.net_rows.specs.Damage.{address_eq}
use Rattle.net_rows.proofs.Stands.{address_of}
use Rattle.policy_rows.specs.declared.group.Group.{Group}
use Rattle.policy_rows.specs.declared.selector.Selector.{Selector}
use Rattle.policy_rows.specs.declared.selector.Selector.TheVariants as sel
use Rattle.policy_sites.specs.Beyond.{covers_free, covers_into}
use Rattle.policy_sites.specs.ByRule.{covers_served, covers_site, site_end}
use Rattle.policy_sites.specs.Covers.{covers}
use Rattle.policy_sites.specs.Ends.{end_at, free_end}
use Rattle.policy_sites.specs.Sites.{AreServedApart, AreDistinct, serves, serves_beyond, site_has}
use Rattle.policy_sites.specs.declared.end.End.{End}
use Rattle.policy_sites.specs.declared.site.Site.{Site}
use Rattle.policy_sites.proofs.EndLemmas.{beyond_end, own_end, served_cases}

pub own_address : (a : Address) → address_eq a a ≡ true
own_address a = and_from (beq a.v6 a.v6) (a.bits == a.bits) (beq-from a.v6 a.v6 refl) (eq-eqb a.bits a.bits refl)

pub has_v4 : (b : Site) → site_has b.v4 b ≡ true
has_v4 b = or_left (address_eq b.v4 b.v4) (address_eq b.v6 b.v4) (own_address b.v4)

pub has_v6 : (b : Site) → site_has b.v6 b ≡ true
has_v6 b = or_right (address_eq b.v4 b.v6) (address_eq b.v6 b.v6) (own_address b.v6)

-- an address that a site has is one of its two
pub own_two : (b : Site) (addr : Address) → site_has addr b ≡ true → (b.v4 ≡ addr) ⊎ (b.v6 ≡ addr)
own_two b addr h =
    elim (or_cases (address_eq b.v4 addr) (address_eq b.v6 addr) h) [
      | inl p ↦ inl (address_of b.v4 addr p)
      | inr q ↦ inr (address_of b.v6 addr q)
    ]

-- what covers one of a machine's own addresses covers one of its own ends
covered_own : (groups : List Group) (sites : List Site) (m : Site) (selector : Selector) (addr : Address) → AreDistinct sites → Contains sites m → site_has addr m ≡ true
    → covers groups selector (end_at sites addr) ≡ true → covers_site groups m selector ≡ true
covered_own groups sites m selector addr distinct inside has covered =
    let f : Address → Bool = λ y. covers groups selector (site_end m y) in
    let here : f addr ≡ true = ap (λ (e : End). covers groups selector e) (sym (own_end sites distinct addr m inside has)) ∙ covered in
    elim (own_two m addr has) [
      | inl e ↦ or_left (f m.v4) (f m.v6 || false) (ap f e ∙ here)
      | inr e ↦ or_right (f m.v4) (f m.v6 || false) (or_left (f m.v6) false (ap f e ∙ here))
    ]

-- an end that nobody holds is covered by its address alone
free_covers : (groups : List Group) (selector : Selector) (addr : Address) → covers groups selector (free_end addr) ≡ covers_free selector addr
free_covers groups sel.All addr = refl
free_covers groups (sel.Net net) addr = refl
free_covers groups (sel.User login) addr = refl
free_covers groups (sel.Group name) addr = refl
free_covers groups (sel.Tagged tag) addr = refl
free_covers groups sel.Member addr = refl
free_covers groups sel.AllTagged addr = refl
free_covers groups sel.Internet addr = refl
free_covers groups sel.OwnDevices addr = refl

-- what covers an address that the machine serves covers something that it serves, seen from the machine alone
pub covered_served : (groups : List Group) (sites : List Site) (m : Site) (selector : Selector) (addr : Address) → AreDistinct sites → AreServedApart sites → Contains sites m
    → addr.bits < family_size addr.v6 → serves m addr ≡ true → covers groups selector (end_at sites addr) ≡ true → covers_served groups m selector ≡ true
covered_served groups sites m selector addr distinct apart inside small served covered =
    elim (served_cases m addr served) [
      | inl own ↦ or_left (covers_site groups m selector) (covers_into (serves_beyond m) selector) (covered_own groups sites m selector addr distinct inside own covered)
      | inr beyond ↦
          let free : covers_free selector addr ≡ true = sym (free_covers groups selector addr) ∙ (ap (λ (e : End). covers groups selector e) (sym (beyond_end sites apart addr m inside beyond)) ∙ covered) in
          or_right (covers_site groups m selector) (covers_into (serves_beyond m) selector)
          (address_found (λ y. serves_beyond m y && covers_free selector y) addr small (and_from (serves_beyond m addr) (covers_free selector addr) beyond free))
    ]
