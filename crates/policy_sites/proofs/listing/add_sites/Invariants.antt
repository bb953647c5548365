use Rattle.std.proofs.Common.{◌≡◌, ◌||◌, drop}
use Rattle.std.specs.List.{list_any}
use Rattle.net_addr.specs.Bits.{Address}
use Rattle.range_sets.specs.Sets.{some_holds}
use Rattle.policy_sites.specs.ByRule.{site_named}
use Rattle.policy_sites.proofs.listing.add_sites.Given as goal

abbrev pub invariant-loop-site : goal.invariant-loop-site
invariant-loop-site l =
    (addr : Address) → (some_holds l.out addr || list_any (site_named l.groups l.selector addr) (drop l.site-index l.sites))
    ≡ (some_holds l.fn.out addr || list_any (site_named l.groups l.selector addr) l.sites)
