-- The addresses of a machine's own.
use Rattle.std.proofs.Common.{◌≡◌, ◌<◌, ◌+◌, ◌&&◌, ◌||◌, ℕ, Bool, true, false, List, ◌∷◌, length, add-one, drop, drop-cons, get_or, refl, ap, sym, ◌∙◌, subst}
use Rattle.std.specs.Prelude.{Option, Some, None}
use Rattle.std.specs.List.{find, list_any}
use Rattle.std.specs.Option.{option_map, option_map_or}
use Rattle.std.proofs.lemmas.Bool.{and_from, and_parts, both_ways, false_from_ne_true}
use Rattle.net_addr.specs.Bits.{Address, Block}
use Rattle.range_sets.specs.Sets.{some_holds}
use Rattle.tail_base.proofs.Bools.{same_tests}
use Rattle.net_rows.proofs.Members.{find_member, find_none, list_any_found, list_any_is}
use Rattle.policy_sites.specs.Covers.{is_own}
use Rattle.policy_sites.specs.Ends.{holder_of}
use Rattle.policy_sites.specs.Sites.{AreDistinct, site_has}
use Rattle.policy_sites.specs.declared.end.Holder.{Holder}
use Rattle.policy_sites.specs.declared.site.Site.{Site}
use Rattle.std.proofs.Math.Bool.{or-false, or_assoc}
use Rattle.policy_sites.proofs.SetLemmas.{address_held, some_holds-push}
use Rattle.filter_compile.specs.Filters.{is_of_own, own_site_has}

held_found : (test : Holder → Bool) (addr : Address) (sites : List Site) → AreDistinct sites → (o : Option Site) → find (site_has addr) sites ≡ o
    → list_any (λ site. site_has addr site && test (holder_of site)) sites ≡ option_map_or test (option_map holder_of o) false
held_found test addr sites h None e =
    let tried : Site → Bool = λ site. site_has addr site && test (holder_of site) in
    false_from_ne_true (list_any tried sites) (λ found.
    let x = list_any_found tried sites found in
    let p = and_parts (site_has addr x.0) (test (holder_of x.0)) x.2 in
    both_ways (site_has addr x.0) (find_none (site_has addr) sites e x.0 x.1) p.0)
held_found test addr sites h (Some y) e =
    let tried : Site → Bool = λ site. site_has addr site && test (holder_of site) in
    let at = find_member (site_has addr) sites y e in
    same_tests (list_any tried sites) (test (holder_of y))
    (λ found.
    let x = list_any_found tried sites found in
    let p = and_parts (site_has addr x.0) (test (holder_of x.0)) x.2 in
    let same : x.0 ≡ y = h addr x.0 y x.1 at.0 p.0 at.1 in
    subst (λ (z : Site). test (holder_of z) ≡ true) same p.1)
    (λ named. list_any_is tried sites y at.0 (and_from (site_has addr y) (test (holder_of y)) at.1 named))

-- one of the machine's own has the address exactly where the address's holder is one of them
pub own_held : (sites : List Site) (m : Site) (addr : Address) → AreDistinct sites → list_any (own_site_has m addr) sites ≡ is_of_own sites m addr
own_held sites m addr h = held_found (λ holder. is_own holder (holder_of m)) addr sites h (find (site_has addr) sites) refl

-- one more site
pub sites_more : (m : Site) (addr : Address) (sites : List Site) (i : ℕ) (site : Site) (out new : List Block) (all : Bool) → i < length sites → site ≡ get_or sites i site
    → some_holds new addr ≡ (some_holds out addr || own_site_has m addr site) → (some_holds out addr || list_any (own_site_has m addr) (drop i sites)) ≡ all
    → (some_holds new addr || list_any (own_site_has m addr) (drop (i + 1) sites)) ≡ all
sites_more m addr sites i site out new all lt is put told =
    let front : drop i sites ≡ get_or sites i site ∷ drop (i + 1) sites = rw (add-one, drop-cons sites i site) refl in
    let cut : drop i sites ≡ site ∷ drop (i + 1) sites = front ∙ ap (λ (z : Site). z ∷ drop (i + 1) sites) (sym is) in
    let rest = list_any (own_site_has m addr) (drop (i + 1) sites) in
    ap (λ (b : Bool). b || rest) put ∙ (or_assoc (some_holds out addr) (own_site_has m addr site) rest
    ∙ (ap (λ (zs : List Site). some_holds out addr || list_any (own_site_has m addr) zs) (sym cut) ∙ told))

pub ruleset own_steps = (some_holds-push, address_held, own_held, or_assoc, or-false)
