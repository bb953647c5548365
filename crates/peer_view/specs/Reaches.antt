-- Which machines reach which.
use Rattle.std.specs.Prelude.{◌==◌, ℕ, Bool, false, List, Option}
use Rattle.std.specs.List.{find, list_any}
use Rattle.std.specs.Option.{option_map_or}
use Rattle.policy_rows.specs.declared.group.Group.{Group}
use Rattle.policy_rows.specs.declared.policy.Policy.{Policy}
use Rattle.policy_rows.specs.declared.rule.Rule.{Rule}
use Rattle.policy_sites.specs.ByRule.{site_addresses, site_reaches}
use Rattle.policy_sites.specs.Ends.{end_at}
use Rattle.policy_sites.specs.Reach.{reaches_into}
use Rattle.policy_sites.specs.Sites.{serves}
use Rattle.policy_sites.specs.declared.site.Site.{Site}

-- Some flow from an address of one to an address that the other serves is granted.
abbrev pub reaches : Option Policy → List Site → Site → Site → Bool
reaches policy sites a b = list_any (λ x. reaches_into policy sites (serves b) (end_at sites x)) (site_addresses a)

-- the site of an id
abbrev pub site_with : List Site → ℕ → Option Site
site_with sites id = find (λ site. site.id == id) sites

-- the same of ids; an id without a site reaches nobody, and is reached by nobody
abbrev pub id_reaches : List Group → List Rule → List Site → ℕ → ℕ → Bool
id_reaches groups rules sites a b =
    option_map_or (λ x. option_map_or (site_reaches groups rules x) (site_with sites b) false) (site_with sites a) false
