-- Which selectors cover addresses that no machine has.
use Rattle.std.specs.Prelude.{◌&&◌, Bool, true, false, []}
use Rattle.net_addr.specs.Bits.{Address, Block}
use Rattle.net_addr.specs.Blocks.{holds}
use Rattle.net_addr.specs.Searches.{some_address}
use Rattle.policy_rows.specs.Internet.{is_internet}
use Rattle.policy_rows.specs.declared.selector.Selector.{Selector}
use Rattle.policy_rows.specs.declared.selector.Selector.TheVariants as sel
use Rattle.policy_sites.specs.Covers.{covers}
use Rattle.policy_sites.specs.Ends.{free_end}

-- The selector covers an address that no machine has. Groups don't matter: they name those who have one.
abbrev pub covers_free : Selector → Address → Bool
covers_free selector addr = covers [] selector (free_end addr)

-- what a selector covers by address: what is so of a prefix, what of the internet, and `*` all
abbrev pub met_by : (Block → Bool) → Bool → Selector → Bool
met_by net_met internet_met sel.All = true
met_by net_met internet_met (sel.Net net) = net_met net
met_by net_met internet_met (sel.User login) = false
met_by net_met internet_met (sel.Group name) = false
met_by net_met internet_met (sel.Tagged tag) = false
met_by net_met internet_met sel.Member = false
met_by net_met internet_met sel.AllTagged = false
met_by net_met internet_met sel.Internet = internet_met
met_by net_met internet_met sel.OwnDevices = false

-- some address is one of the route's and one of the prefix's
abbrev pub shares_net : Block → Block → Bool
shares_net route net = some_address (λ addr. holds route addr && holds net addr)

-- some address is one of the route's and one of the internet
abbrev pub shares_internet : Block → Bool
shares_internet route = some_address (λ addr. holds route addr && is_internet addr)

-- it covers some address of a set of which no machine has one
abbrev pub covers_into : (Address → Bool) → Selector → Bool
covers_into target selector = some_address (λ addr. target addr && covers_free selector addr)
