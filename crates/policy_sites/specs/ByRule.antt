-- What a rule says of two machines, seen from these alone.
use Rattle.std.specs.Prelude.{◌<◌, ◌&&◌, ◌||◌, Bool, false, List, [], ◌∷◌, Option, Some, None}
use Rattle.std.specs.List.{list_any}
use Rattle.net_addr.specs.Bits.{Address, Block, family_size}
use Rattle.net_addr.specs.Blocks.{holds}
use Rattle.policy_rows.specs.Internet.{is_internet}
use Rattle.policy_rows.specs.declared.group.Group.{Group}
use Rattle.policy_rows.specs.declared.rule.Rule.{Rule}
use Rattle.policy_rows.specs.declared.selector.Selector.{Selector}
use Rattle.policy_sites.specs.Beyond.{covers_into}
use Rattle.policy_sites.specs.Covers.{covers, is_own, is_own_devices, names_holder}
use Rattle.policy_sites.specs.Ends.{holder_of}
use Rattle.policy_sites.specs.Sites.{serves_beyond, site_has}
use Rattle.policy_sites.specs.declared.end.End.{End}
use Rattle.policy_sites.specs.declared.site.Site.{Site}

-- a machine's own addresses
abbrev pub site_addresses : Site → List Address
site_addresses site = site.v4 ∷ site.v6 ∷ []

-- the end that an address of the machine is
abbrev pub site_end : Site → Address → End
site_end site addr = record { addr = Some addr; holder = Some (holder_of site) }

-- the site has the address, and the selector names its holder
abbrev pub site_named : List Group → Selector → Address → Site → Bool
site_named groups selector addr site = site_has addr site && names_holder groups selector (holder_of site)

-- the selector covers one of the machine's own ends
abbrev pub covers_site : List Group → Site → Selector → Bool
covers_site groups site selector = list_any (λ x. covers groups selector (site_end site x)) (site_addresses site)

-- the selector covers something that the machine serves: one of its own ends, or an address beside these, of which no
-- machine has one
abbrev pub covers_served : List Group → Site → Selector → Bool
covers_served groups site selector = covers_site groups site selector || covers_into (serves_beyond site) selector

-- by its sources, the machine may send by the rule
abbrev pub sends : List Group → Rule → Site → Bool
sends groups r site = list_any (covers_site groups site) r.sources

-- by its destinations, the rule lets anybody whom it lets send through to something that the machine serves;
-- `autogroup:self` covers no end alone
abbrev pub takes : List Group → Rule → Site → Bool
takes groups r site = list_any (λ entry. covers_served groups site entry.to) r.dests

-- Where a machine may send to besides to machines: into a route, or, without one, into the internet.
abbrev pub target_of : Option Block → Address → Bool
target_of None addr = is_internet addr
target_of (Some route) addr = holds route addr

-- by the rule the machine sends to some address of the set, of which no machine has one
abbrev pub sends_into : List Group → (Address → Bool) → Site → Rule → Bool
sends_into groups target site r = sends groups r site && list_any (λ entry. covers_into target entry.to) r.dests

-- it does so by some rule
abbrev pub site_sends_into : List Group → List Rule → (Address → Bool) → Site → Bool
site_sends_into groups rules target site = list_any (sends_into groups target site) rules

-- `autogroup:self` is a destination of the rule
abbrev pub has_own_devices : Rule → Bool
has_own_devices r = list_any (λ entry. is_own_devices entry.to) r.dests

-- `autogroup:self` is a destination of the rule, and both machines are untagged and of one login
abbrev pub joins_own_by : Rule → Site → Site → Bool
joins_own_by r a b = has_own_devices r && is_own (holder_of a) (holder_of b)

-- by the rule one may send and the other takes, or `autogroup:self` joins them
abbrev pub lets_through : List Group → Site → Site → Rule → Bool
lets_through groups a b r = sends groups r a && (takes groups r b || joins_own_by r a b)

-- Some rule lets one through to the other: all of it is seen from the two machines alone.
abbrev pub site_reaches : List Group → List Rule → Site → Site → Bool
site_reaches groups rules a b = list_any (lets_through groups a b) rules

-- The same of two machines' flags, rule by rule: by some rule one sends and the other takes, or its destination
-- `autogroup:self` joins them. The first word is whether the machines are own devices of one login.
abbrev pub flags_let : Bool → List Rule → List Bool → List Bool → Bool
flags_let own [] sends takes = false
flags_let own (r ∷ rules) [] takes = false
flags_let own (r ∷ rules) (s ∷ sends) [] = false
flags_let own (r ∷ rules) (s ∷ sends) (t ∷ takes) = s && (t || has_own_devices r && own) || flags_let own rules sends takes

-- what is true of each site by its types: its addresses are numbers of their families
pub record IsSoundSite (site : Site) : Type 0 where
  pub v4 : site.v4.bits < family_size site.v4.v6
  pub v6 : site.v6.bits < family_size site.v6.v6
