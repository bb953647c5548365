-- The addresses that prefixes hold, as lists of prefixes grow.
use Rattle.std.proofs.Common.{◌≡◌, ◌+◌, ℕ, Bool, true, false, ◌&&◌, ◌||◌, List, [], ◌∷◌, ◌++◌, arith, eqb, leb, refl, ap, sym, ◌∙◌, subst}
use Rattle.std.specs.Prelude.{Option, Some, None}
use Rattle.std.proofs.Math.Bool.{or-false, or_assoc}
use Rattle.std.specs.Bool.{beq}
use Rattle.std.specs.List.{find, list_any}
use Rattle.std.specs.Option.{option_map, option_map_or}
use Rattle.std.proofs.lemmas.Bool.{and_from, and_parts, both_ways, false_from_ne_true}
use Rattle.std.proofs.lemmas.Bool.Decides.{nat_tests}
use Rattle.net_addr.specs.Bits.{Address, Block}
use Rattle.net_addr.specs.Blocks.{holds, prefix_of_addr}
use Rattle.net_rows.specs.Damage.{address_eq}
use Rattle.range_sets.specs.Sets.{some_holds}
use Rattle.policy_rows.specs.declared.group.Group.{Group}
use Rattle.policy_rows.specs.declared.selector.Selector.{Selector}
use Rattle.policy_sites.specs.Covers.{is_held, names_holder}
use Rattle.policy_sites.specs.Ends.{end_at, holder_of}
use Rattle.policy_sites.specs.ByRule.{site_named}
use Rattle.policy_sites.specs.Sites.{AreDistinct, site_has}
use Rattle.policy_sites.specs.declared.site.Site.{Site}
use Rattle.tail_base.proofs.Bools.{same_tests}
use Rattle.net_rows.proofs.Members.{find_member, find_none, list_any_found, list_any_is}

pub some_holds-push : (ps : List Block) (p : Block) (addr : Address) → some_holds (ps ++ p ∷ []) addr ≡ (some_holds ps addr || holds p addr)
some_holds-push [] p addr = or-false (holds p addr)
some_holds-push (q ∷ ps) p addr = ap (λ b. holds q addr || b) (some_holds-push ps p addr) ∙ sym (or_assoc (holds q addr) (some_holds ps addr) (holds p addr))

one_number : (a x : ℕ) → (leb a x && leb x (a + 0)) ≡ eqb a x
one_number a x = grind (arith, nat_tests)

one_at : (same : Bool) (a x : ℕ) → (same && leb a x && leb x (a + 0)) ≡ (same && eqb a x)
one_at true a x = one_number a x
one_at false a x = refl

-- the prefix of one address holds it alone
one_held : (v6 : Bool) (bits : ℕ) (addr : Address) → holds (prefix_of_addr (record { v6 = v6; bits = bits })) addr ≡ address_eq (record { v6 = v6; bits = bits }) addr
one_held true bits addr = one_at (beq true addr.v6) bits addr.bits
one_held false bits addr = one_at (beq false addr.v6) bits addr.bits

pub address_held : (a addr : Address) → holds (prefix_of_addr a) addr ≡ address_eq a addr
address_held a addr = one_held a.v6 a.bits addr

held_found : (groups : List Group) (selector : Selector) (addr : Address) (sites : List Site) → AreDistinct sites → (o : Option Site) → find (site_has addr) sites ≡ o
    → list_any (site_named groups selector addr) sites ≡ option_map_or (names_holder groups selector) (option_map holder_of o) false
held_found groups selector addr sites h None e =
    false_from_ne_true (list_any (site_named groups selector addr) sites) (λ found.
    let x = list_any_found (site_named groups selector addr) sites found in
    let p = and_parts (site_has addr x.0) (names_holder groups selector (holder_of x.0)) x.2 in
    both_ways (site_has addr x.0) (find_none (site_has addr) sites e x.0 x.1) p.0)
held_found groups selector addr sites h (Some y) e =
    let at = find_member (site_has addr) sites y e in
    same_tests (list_any (site_named groups selector addr) sites) (names_holder groups selector (holder_of y))
    (λ found.
    let x = list_any_found (site_named groups selector addr) sites found in
    let p = and_parts (site_has addr x.0) (names_holder groups selector (holder_of x.0)) x.2 in
    let same : x.0 ≡ y = h addr x.0 y x.1 at.0 p.0 at.1 in
    subst (λ (z : Site). names_holder groups selector (holder_of z) ≡ true) same p.1)
    (λ named. list_any_is (site_named groups selector addr) sites y at.0 (and_from (site_has addr y) (names_holder groups selector (holder_of y)) at.1 named))

-- of the sites that have the address and whose holders are named there is one exactly where the
-- address's holder is named
pub sites_held : (groups : List Group) (selector : Selector) (addr : Address) (sites : List Site) → AreDistinct sites
    → list_any (site_named groups selector addr) sites ≡ is_held groups selector (end_at sites addr)
sites_held groups selector addr sites h = held_found groups selector addr sites h (find (site_has addr) sites) refl

pub ruleset set_steps = (some_holds-push, address_held, sites_held, or_assoc, or-false)
