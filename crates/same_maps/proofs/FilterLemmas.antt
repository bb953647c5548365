-- Packet filters are the same exactly where they are equal.
use Rattle.std.proofs.Common.{◌≡◌, ℕ, Bool, true, false, ◌==◌, List, refl, ap, ◌∙◌, sym}
use Rattle.std.proofs.lemmas.Bool.{eqb-true, eq-eqb, and_parts, and_from}
use Rattle.std.specs.Cmp.Lexicographic.{pointwise}
use Rattle.std.specs.Prelude.{◌↔◌}
use Rattle.std.specs.Str.{bytes_eq}
use Rattle.port_sets.specs.declared.range.PortRange.{PortRange}
use Rattle.tail_base.proofs.Bools.{all3, and3, bytes_eq-true, bytes_eq-from}
use Rattle.tailcfg.specs.declared.filter.DestRange.{DestRange}
use Rattle.tailcfg.specs.declared.filter.FilterRule.{FilterRule}
use Rattle.tailcfg.specs.declared.filter.Sources.{Sources}
use Rattle.tailcfg.specs.declared.filter.Sources.TheVariants.{Any, Only}
use Rattle.same_maps.specs.Filters.{same_dest, same_filter, same_port_range, same_rule, same_sources}
use Rattle.same_maps.specs.Parts.{same_prefix}
use Rattle.same_maps.proofs.PartLemmas.{list_itself, lists_equal, prefix_itself, prefixes_equal}

sources_equal : (a b : Sources) → same_sources a b ≡ true → a ≡ b
sources_equal Any Any h = refl
sources_equal Any (Only qs) h = absurd (cc)
sources_equal (Only ps) Any h = absurd (cc)
sources_equal (Only ps) (Only qs) h = ap Only (lists_equal same_prefix prefixes_equal ps qs h)

sources_itself : (a : Sources) → same_sources a a ≡ true
sources_itself Any = refl
sources_itself (Only ps) = list_itself same_prefix prefix_itself ps

port_ranges_equal : (a b : PortRange) → same_port_range a b ≡ true → a ≡ b
port_ranges_equal a b h =
    let both = and_parts (a.first == b.first) (a.last == b.last) h in
    λ i. record { first = eqb-true a.first b.first both.0 i; last = eqb-true a.last b.last both.1 i }

dests_equal : (a b : DestRange) → same_dest a b ≡ true → a ≡ b
dests_equal a b h =
    let both = and_parts (same_prefix a.to b.to) (same_port_range a.ports b.ports) h in
    λ i. record { to = prefixes_equal a.to b.to both.0 i; ports = port_ranges_equal a.ports b.ports both.1 i }

dest_itself : (a : DestRange) → same_dest a a ≡ true
dest_itself a =
    and_from (same_prefix a.to a.to) (same_port_range a.ports a.ports) (prefix_itself a.to)
    (and_from (a.ports.first == a.ports.first) (a.ports.last == a.ports.last) (eq-eqb a.ports.first a.ports.first refl) (eq-eqb a.ports.last a.ports.last refl))

rules_equal : (a b : FilterRule) → same_rule a b ≡ true → a ≡ b
rules_equal a b h =
    let all = all3 (same_sources a.sources b.sources) (pointwise same_dest a.dests b.dests) (bytes_eq a.protos b.protos) h in
    λ i. record {
      sources = sources_equal a.sources b.sources all.0 i;
      dests = lists_equal same_dest dests_equal a.dests b.dests all.1 i;
      protos = bytes_eq-true a.protos b.protos all.2 i;
    }

rule_itself : (a : FilterRule) → same_rule a a ≡ true
rule_itself a =
    and3 (same_sources a.sources a.sources) (pointwise same_dest a.dests a.dests) (bytes_eq a.protos a.protos)
    (sources_itself a.sources) (list_itself same_dest dest_itself a.dests) (bytes_eq-from a.protos a.protos refl)

pub filters_equal : (a b : List FilterRule) → same_filter a b ≡ true → a ≡ b
filters_equal a b h = lists_equal same_rule rules_equal a b h

pub filter_itself : (a : List FilterRule) → same_filter a a ≡ true
filter_itself a = list_itself same_rule rule_itself a

pub same_filters : (a b : List FilterRule) → same_filter a b ≡ true ↔ (a ≡ b)
same_filters a b = (filters_equal a b, λ e. ap (λ (x : List FilterRule). same_filter a x) (sym e) ∙ filter_itself a)
