use Rattle.std.proofs.Common.{◌≡◌, false, take}
use Rattle.std.specs.Prelude.{Contains}
use Rattle.net_rows.specs.Damage.{address_eq}
use Rattle.policy_sites.specs.declared.site.Site.{Site}
use Rattle.filter_compile.proofs.holdings.place_of.Given as goal

abbrev pub invariant-loop-place : goal.invariant-loop-place
invariant-loop-place l = (site : Site) → Contains (take l.place l.sites) site → address_eq site.v4 l.machine.v4 ≡ false
