-- Whether sites that were made earlier are still those of the live machines.
use Rattle.std.specs.Prelude.{◌≡◌, ◌==◌, ◌&&◌, ℕ, Bool, List, ◌∷◌, length, Option, Some, None, Contains, filter, map}
use Rattle.std.specs.Cmp.Lexicographic.{pointwise}
use Rattle.std.specs.Str.{bytes_eq}
use Rattle.net_rows.specs.Damage.{address_eq}
use Rattle.net_rows.specs.Rows.{user_with}
use Rattle.net_rows.specs.declared.machine.Machine.{Machine}
use Rattle.net_rows.specs.declared.user.User.{User}
use Rattle.policy_rows.specs.declared.policy.Policy.{Policy}
use Rattle.policy_sites.specs.Approvals.{approved_of, is_exit}
use Rattle.policy_sites.specs.Exits.{route_eq}
use Rattle.policy_sites.specs.Sites.{is_among, site_of}
use Rattle.policy_sites.specs.declared.site.Site.{Site}

-- the sites of those of the machines that are live, whose ids these are
abbrev pub live_sites : Option Policy → List User → List ℕ → List Machine → List Site
live_sites policy users live machines = map (site_of policy users) (filter (is_among live) machines)

-- the login is the user's; that of no user is empty
abbrev pub has_login_of : List ℕ → Option User → Bool
has_login_of login None = length login == 0
has_login_of login (Some user) = bytes_eq login user.login

abbrev pub same_place : Site → Machine → Bool
same_place site m = site.id == m.id && site.user == m.user && address_eq site.v4 m.v4 && address_eq site.v6 m.v6

-- the routes that the machine advertises, and those that the operator approved, are as the site keeps them
abbrev pub same_routes : Site → Machine → Bool
same_routes site m = pointwise route_eq site.routes m.routes && pointwise route_eq site.by_operator m.approved

-- the site is the machine's
abbrev pub same_site : List User → Site → Machine → Bool
same_site users site m =
    same_place site m && has_login_of site.login (user_with users m.user) && pointwise bytes_eq site.tags m.tags && same_routes site m

-- the policy approves that of the site which it approves of each machine with the login, tags and routes
-- that the site keeps
pub record IsApproved (policy : Option Policy) (site : Site) : Type 0 where
  pub approved : (m : Machine) → site.tags ≡ m.tags → site.routes ≡ m.routes → site.by_operator ≡ m.approved
      → site.approved ≡ approved_of policy site.login m
  pub exit : (m : Machine) → site.tags ≡ m.tags → site.routes ≡ m.routes → site.by_operator ≡ m.approved
      → site.exit ≡ is_exit policy site.login m

-- it does so of each site
abbrev pub AreApproved : Option Policy → List Site → Type 0
AreApproved policy sites = (site : Site) → Contains sites site → IsApproved policy site

-- Behind the site of a machine, if it is live, stand those of the machines behind it: where the sites behind are these,
-- all are. It is so whatever policy approves what the sites say.
pub record IsBehind (users : List User) (live : List ℕ) (m : Machine) (sites rest : List Site) : Type 0 where
  pub approved : (policy : Option Policy) → AreApproved policy sites → AreApproved policy rest
  pub fits : (policy : Option Policy) (more : List Machine) → AreApproved policy sites
      → rest ≡ live_sites policy users live more → sites ≡ live_sites policy users live (m ∷ more)
