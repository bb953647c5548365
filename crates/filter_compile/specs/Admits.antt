-- Which flows a packet filter admits.
use Rattle.std.specs.Prelude.{◌≡◌, ◌==◌, ◌<◌, ◌&&◌, ◌||◌, ℕ, Bool, true, not, List}
use Rattle.std.specs.List.{list_any}
use Rattle.net_addr.specs.Bits.{Address, family_size}
use Rattle.net_addr.specs.Blocks.{holds}
use Rattle.port_sets.specs.Protocols.{is_ported}
use Rattle.port_sets.specs.Ranges.{in_piece}
use Rattle.range_sets.specs.Sets.{some_holds}
use Rattle.tailcfg.specs.declared.filter.DestRange.{DestRange}
use Rattle.tailcfg.specs.declared.filter.FilterRule.{FilterRule}
use Rattle.tailcfg.specs.declared.filter.Sources.{Sources}
use Rattle.tailcfg.specs.declared.filter.Sources.TheVariants as src
use Rattle.policy_sites.specs.Ends.{end_at}
use Rattle.policy_eval.specs.Expansion.{Expansion}
use Rattle.policy_sites.specs.Grants.{some_rule_grants}
use Rattle.policy_sites.specs.Sites.{serves}
use Rattle.policy_sites.specs.declared.site.Site.{Site}

-- the sources are `*`, or one of their prefixes holds the address
abbrev pub source_admits : Sources → Address → Bool
source_admits src.Any x = true
source_admits (src.Only prefixes) x = some_holds prefixes x

-- the destination holds the address, and the port if the protocol has ports
abbrev pub dest_admits : Address → ℕ → ℕ → DestRange → Bool
dest_admits y proto port dest = holds dest.to y && (not (is_ported proto) || in_piece port dest.ports)

-- the rule has the protocol, the source, and a destination that holds the flow's
abbrev pub rule_admits : Address → Address → ℕ → ℕ → FilterRule → Bool
rule_admits x y proto port rule =
    list_any (λ p. p == proto) rule.protos && source_admits rule.sources x && list_any (dest_admits y proto port) rule.dests

-- One of the filter's rules admits the flow from x to y.
abbrev pub admits : List FilterRule → Address → Address → ℕ → ℕ → Bool
admits filter x y proto port = list_any (rule_admits x y proto port) filter

-- The filter admits exactly the flows to what the machine serves that the rules grant between the two ends.
abbrev pub AdmitsGranted : Expansion → Site → List FilterRule → Type 0
AdmitsGranted x m filter = (source dest : Address) (proto port : ℕ)
    → source.bits < family_size source.v6 → dest.bits < family_size dest.v6
    → admits filter source dest proto port
    ≡ (serves m dest && some_rule_grants x.groups x.rules (end_at x.sites source) (end_at x.sites dest) proto port)
