-- What is made once of the machine of a filter.
use Rattle.std.specs.Prelude.{◌≡◌, ◌<◌, ◌&&◌, ℕ, List, length, slice_index_or}
use Rattle.net_addr.specs.Bits.{Address}
use Rattle.range_sets.specs.Canonical.{canonical}
use Rattle.range_sets.specs.Sets.{has}
use Rattle.policy_sites.specs.Sites.{serves, site_has}
use Rattle.policy_sites.specs.declared.site.Site.{Site}
use Rattle.filter_compile.specs.Filters.{is_of_own}
use Rattle.filter_compile.specs.declared.holdings.Holdings.{Holdings}

-- where it stands, what it serves, the addresses of its own, and what it serves of its own addresses
pub record HoldingsFit (sites : List Site) (m : Site) (h : Holdings) : Type 0 where
  pub inside : h.place < length sites
  pub there : (s : Site) → slice_index_or sites h.place s ≡ m
  pub served : (addr : Address) → has h.served addr ≡ serves m addr
  pub own : (addr : Address) → has h.own addr ≡ is_of_own sites m addr
  pub addresses : h.addresses ≡ canonical (λ addr. site_has addr m && serves m addr)
