-- The parts of filter rules.
use Rattle.std.specs.Prelude.{◌==◌, ◌||◌, ℕ, Bool, true, false, List, [], ◌∷◌, flat_map, length, map, if◌then◌else◌}
use Rattle.net_addr.specs.Bits.{Address, Block}
use Rattle.port_sets.specs.declared.range.PortRange.{PortRange}
use Rattle.range_sets.specs.Canonical.{canonical}
use Rattle.policy_rows.specs.declared.selector.Selector.{Selector}
use Rattle.policy_rows.specs.declared.selector.Selector.TheVariants as sel
use Rattle.tailcfg.specs.declared.filter.DestRange.{DestRange}
use Rattle.tailcfg.specs.declared.filter.FilterRule.{FilterRule}
use Rattle.tailcfg.specs.declared.filter.Sources.{Sources}
use Rattle.tailcfg.specs.declared.filter.Sources.TheVariants as src

-- `*`
abbrev pub is_all : Selector → Bool
is_all sel.All = true
is_all (sel.Net net) = false
is_all (sel.User login) = false
is_all (sel.Group name) = false
is_all (sel.Tagged tag) = false
is_all sel.Member = false
is_all sel.AllTagged = false
is_all sel.Internet = false
is_all sel.OwnDevices = false

-- no address is a source
abbrev pub is_nobody : Sources → Bool
is_nobody src.Any = false
is_nobody (src.Only prefixes) = length prefixes == 0

-- a filter rule; it is left out if it has no source or no destination
abbrev pub rule_or_none : List ℕ → Sources → List DestRange → List FilterRule
rule_or_none protos sources dests =
    if length dests == 0 || is_nobody sources then []
    else record { sources = sources; dests = dests; protos = protos } ∷ []

-- a prefix with each of the ranges of ports
abbrev pub with_ports : List PortRange → Block → List DestRange
with_ports ports to = map (λ range. record { to = to; ports = range }) ports

-- the canonical prefixes of a set, each with each of the ranges of ports
abbrev pub dest_ranges : List PortRange → (Address → Bool) → List DestRange
dest_ranges ports held = flat_map (with_ports ports) (canonical held)
