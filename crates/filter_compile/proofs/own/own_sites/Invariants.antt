use Rattle.std.proofs.Common.{◌≡◌, ◌||◌, drop}
use Rattle.std.specs.List.{list_any}
use Rattle.net_addr.specs.Bits.{Address}
use Rattle.range_sets.specs.Sets.{some_holds}
use Rattle.filter_compile.specs.Filters.{own_site_has}
use Rattle.filter_compile.proofs.own.own_sites.Given as goal

abbrev pub invariant-loop-site : goal.invariant-loop-site
invariant-loop-site l =
    (addr : Address) → (some_holds l.out addr || list_any (own_site_has l.machine addr) (drop l.site-index l.sites)) ≡ list_any (own_site_has l.machine addr) l.sites
