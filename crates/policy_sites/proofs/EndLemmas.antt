-- The end at a site's own address, and at one that a site serves beside its own.
use Rattle.std.proofs.Common.{◌≡◌, ◌||◌, ◌⊎◌, Bool, true, false, List, refl, ap, sym, ◌∙◌}
use Rattle.std.specs.Prelude.{Contains, Option, Some, None}
use Rattle.std.specs.List.{find}
use Rattle.std.specs.Option.{option_map, option_map_or}
use Rattle.std.proofs.Math.Bool.{or_assoc}
use Rattle.std.proofs.lemmas.Bool.{both_ways, or_cases, or_right}
use Rattle.net_addr.specs.Bits.{Address}
use Rattle.net_rows.proofs.Members.{find_member, find_none, find_nothing}
use Rattle.policy_sites.specs.Covers.{joins_own}
use Rattle.policy_sites.specs.Ends.{end_at, free_end, holder_of}
use Rattle.policy_sites.specs.Sites.{AreServedApart, AreDistinct, serves, serves_beyond, site_has}
use Rattle.policy_sites.specs.declared.end.End.{End}
use Rattle.policy_sites.specs.declared.end.Holder.{Holder}
use Rattle.policy_sites.specs.declared.site.Site.{Site}

found_own : (sites : List Site) → AreDistinct sites → (addr : Address) (site : Site) → Contains sites site → site_has addr site ≡ true
    → (o : Option Site) → find (site_has addr) sites ≡ o → option_map holder_of o ≡ Some (holder_of site)
found_own sites h addr site inside has None e = absurd (both_ways (site_has addr site) (find_none (site_has addr) sites e site inside) has)
found_own sites h addr site inside has (Some y) e =
    let at = find_member (site_has addr) sites y e in
    let same : y ≡ site = h addr y site at.0 inside at.1 has in
    ap (λ (z : Site). Some (holder_of z)) same

pub own_end : (sites : List Site) → AreDistinct sites → (addr : Address) (site : Site) → Contains sites site → site_has addr site ≡ true
    → end_at sites addr ≡ record { addr = Some addr; holder = Some (holder_of site) }
own_end sites h addr site inside has =
    ap (λ (o : Option Holder). record { addr = Some addr; holder = o }) (found_own sites h addr site inside has (find (site_has addr) sites) refl)

pub beyond_end : (sites : List Site) → AreServedApart sites → (addr : Address) (site : Site) → Contains sites site → serves_beyond site addr ≡ true → end_at sites addr ≡ free_end addr
beyond_end sites h addr site inside beyond =
    let nobody = find_nothing (site_has addr) sites (λ other there. h addr site other inside there beyond) in
    λ i. record { addr = Some addr; holder = option_map holder_of (nobody i) }

-- what a site serves is its own address, or beside its own
pub served_split : (site : Site) (addr : Address) → serves site addr ≡ (site_has addr site || serves_beyond site addr)
served_split site addr = or_assoc (site_has addr site) _ _

pub served_cases : (site : Site) (addr : Address) → serves site addr ≡ true → (site_has addr site ≡ true) ⊎ (serves_beyond site addr ≡ true)
served_cases site addr h = or_cases (site_has addr site) (serves_beyond site addr) (sym (served_split site addr) ∙ h)

pub serves_own : (site : Site) (addr : Address) → site_has addr site ≡ true → serves site addr ≡ true
serves_own site addr h = served_split site addr ∙ ap (λ (b : Bool). b || serves_beyond site addr) h

pub serves_more : (site : Site) (addr : Address) → serves_beyond site addr ≡ true → serves site addr ≡ true
serves_more site addr h = served_split site addr ∙ or_right (site_has addr site) (serves_beyond site addr) h

-- `autogroup:self` joins nobody to an end that nobody holds
pub joins_nobody : (s : End) (addr : Address) → joins_own s (free_end addr) ≡ false
joins_nobody s addr = go s.holder
  where
    go : (o : Option Holder) → option_map_or (λ a. false) o false ≡ false
    go None = refl
    go (Some a) = refl
