-- Sites: what policies see of the live machines.
use Rattle.std.specs.Prelude.{◌≡◌, ◌==◌, ◌&&◌, ◌||◌, ℕ, Bool, true, false, List, Option, Contains, filter, map}
use Rattle.std.specs.List.{list_any}
use Rattle.net_addr.specs.Bits.{Address}
use Rattle.net_rows.specs.Damage.{address_eq}
use Rattle.net_rows.specs.declared.machine.Machine.{Machine}
use Rattle.net_rows.specs.declared.rows.Rows.{Rows}
use Rattle.net_rows.specs.declared.user.User.{User}
use Rattle.policy_rows.specs.Internet.{is_internet}
use Rattle.policy_rows.specs.declared.policy.Policy.{Policy}
use Rattle.range_sets.specs.Sets.{some_holds}
use Rattle.policy_sites.specs.Approvals.{approved_of, is_exit}
use Rattle.policy_sites.specs.Owners.{machine_login}
use Rattle.policy_sites.specs.Serving.{serves_with}
use Rattle.policy_sites.specs.declared.site.Site.{Site}

-- what policies see of a machine, and what a policy, or none, approves of it
abbrev pub site_of : Option Policy → List User → Machine → Site
site_of policy users m = record {
  id = m.id;
  user = m.user;
  login = machine_login users m;
  v4 = m.v4;
  v6 = m.v6;
  tags = m.tags;
  routes = m.routes;
  by_operator = m.approved;
  approved = approved_of policy (machine_login users m) m;
  exit = is_exit policy (machine_login users m) m;
}

-- the id is one of the listed
abbrev pub is_listed : List ℕ → ℕ → Bool
is_listed ids id = list_any (λ other. other == id) ids

-- the machine is one of the live ones, whose ids these are
abbrev pub is_among : List ℕ → Machine → Bool
is_among live m = is_listed live m.id

-- the sites of the live machines, by id, which is the tables' order
abbrev pub sites_of : Option Policy → Rows → List ℕ → List Site
sites_of policy rows live = map (site_of policy rows.users) (filter (is_among live) rows.machines)

-- the address is one of the site's two
abbrev pub site_has : Address → Site → Bool
site_has addr site = address_eq site.v4 addr || address_eq site.v6 addr

-- what a machine serves: its own two addresses, its approved routes, and as an exit node the internet
abbrev pub serves : Site → Address → Bool
serves site addr = serves_with site.v4 site.v6 site.approved site.exit addr

-- what it serves of that beside its own addresses
abbrev pub serves_beyond : Site → Address → Bool
serves_beyond site addr = some_holds site.approved addr || site.exit && is_internet addr

-- an address has at most one site
abbrev pub AreDistinct : List Site → Type 0
AreDistinct sites = (addr : Address) (a b : Site) → Contains sites a → Contains sites b
    → site_has addr a ≡ true → site_has addr b ≡ true → a ≡ b

-- no site has an address that some site serves beside its own
abbrev pub AreServedApart : List Site → Type 0
AreServedApart sites = (addr : Address) (a b : Site) → Contains sites a → Contains sites b
    → serves_beyond a addr ≡ true → site_has addr b ≡ false
