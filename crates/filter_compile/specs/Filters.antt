-- The packet filter of a machine: what the rules in force let through to what it serves.
use Rattle.std.specs.Prelude.{◌&&◌, Bool, false, List, [], ◌++◌, Option, flat_map, if◌then◌else◌}
use Rattle.std.specs.List.{list_any}
use Rattle.std.specs.Option.{option_map_or}
use Rattle.net_addr.specs.Bits.{Address, Block}
use Rattle.port_sets.specs.Protocols.{members}
use Rattle.range_sets.specs.Canonical.{canonical}
use Rattle.policy_rows.specs.declared.dest.Dest.{Dest}
use Rattle.policy_rows.specs.declared.group.Group.{Group}
use Rattle.policy_rows.specs.declared.policy.Policy.{Policy}
use Rattle.policy_rows.specs.declared.rule.Rule.{Rule}
use Rattle.tailcfg.specs.declared.filter.DestRange.{DestRange}
use Rattle.tailcfg.specs.declared.filter.FilterRule.{FilterRule}
use Rattle.tailcfg.specs.declared.filter.Sources.{Sources}
use Rattle.tailcfg.specs.declared.filter.Sources.TheVariants as src
use Rattle.policy_sites.specs.Covers.{is_own, is_own_devices}
use Rattle.policy_sites.specs.Ends.{end_at, holder_of}
use Rattle.policy_eval.specs.Expansion.{entry_covers, source_covers}
use Rattle.policy_sites.specs.Grants.{groups_of, rules_of}
use Rattle.policy_sites.specs.Sites.{serves, site_has}
use Rattle.policy_sites.specs.declared.site.Site.{Site}
use Rattle.filter_compile.specs.Parts.{dest_ranges, is_all, rule_or_none, with_ports}

-- a rule's sources: `*`, if it is one of them, and else the addresses that they cover
abbrev pub sources_of : List Group → List Site → Rule → Sources
sources_of groups sites r = if list_any is_all r.sources then src.Any else src.Only (canonical (source_covers groups sites r))

-- what a destination covers of that which the machine serves, with its ports; `autogroup:self`, which
-- takes a source, covers nothing here
abbrev pub entry_dests : List Group → List Site → Site → Dest → List DestRange
entry_dests groups sites m entry = dest_ranges entry.ports (λ addr. entry_covers groups sites entry addr && serves m addr)

-- the filter rule of a rule, without its destinations `autogroup:self`
abbrev pub plain_rule : List Group → List Site → Site → Rule → List FilterRule
plain_rule groups sites m r = rule_or_none (members r.protos) (sources_of groups sites r) (flat_map (entry_dests groups sites m) r.dests)

-- the site has the address, and is the machine's own
abbrev pub own_site_has : Site → Address → Site → Bool
own_site_has m addr site = site_has addr site && is_own (holder_of site) (holder_of m)

-- the machine and the address's holder are untagged, and of one login
abbrev pub is_of_own : List Site → Site → Address → Bool
is_of_own sites m addr = option_map_or (λ holder. is_own holder (holder_of m)) (end_at sites addr).holder false

-- the sources of a rule for the machine as `autogroup:self`: of the addresses that they cover those of its own
abbrev pub own_source_covers : List Group → List Site → Site → Rule → Address → Bool
own_source_covers groups sites m r addr = source_covers groups sites r addr && is_of_own sites m addr

-- the prefixes with the ports of a destination that is `autogroup:self`
abbrev pub own_ranges : List Block → Dest → List DestRange
own_ranges prefixes entry = if is_own_devices entry.to then flat_map (with_ports entry.ports) prefixes else []

-- what the machine serves of its own addresses, with the ports of a destination that is `autogroup:self`
abbrev pub own_dests : Site → Dest → List DestRange
own_dests m entry = if is_own_devices entry.to then dest_ranges entry.ports (λ addr. site_has addr m && serves m addr) else []

-- the filter rule of a rule's destinations `autogroup:self`; its sources are never `*`
abbrev pub own_rule : List Group → List Site → Site → Rule → List FilterRule
own_rule groups sites m r =
    rule_or_none (members r.protos) (src.Only (canonical (own_source_covers groups sites m r))) (flat_map (own_dests m) r.dests)

-- the filter rules of a rule
abbrev pub rule_filter : List Group → List Site → Site → Rule → List FilterRule
rule_filter groups sites m r = plain_rule groups sites m r ++ own_rule groups sites m r

-- those of rules, in their order
abbrev pub rules_filter : List Group → List Rule → List Site → Site → List FilterRule
rules_filter groups rules sites m = flat_map (rule_filter groups sites m) rules

-- The packet filter of a machine under a policy, or none.
abbrev pub filter_of : Option Policy → List Site → Site → List FilterRule
filter_of policy sites m = rules_filter (groups_of policy) (rules_of policy) sites m
