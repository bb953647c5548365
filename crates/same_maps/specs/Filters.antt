-- Whether two packet filters are the same.
use Rattle.std.specs.Prelude.{ℕ, Bool, false, true, List, ◌&&◌, ◌==◌}
use Rattle.std.specs.Cmp.Lexicographic.{pointwise}
use Rattle.std.specs.Str.{bytes_eq}
use Rattle.port_sets.specs.declared.range.PortRange.{PortRange}
use Rattle.tailcfg.specs.declared.filter.DestRange.{DestRange}
use Rattle.tailcfg.specs.declared.filter.FilterRule.{FilterRule}
use Rattle.tailcfg.specs.declared.filter.Sources.{Sources}
use Rattle.tailcfg.specs.declared.filter.Sources.TheVariants.{Any, Only}
use Rattle.same_maps.specs.Parts.{same_prefix}

-- every address on both sides, or the same prefixes
abbrev pub same_sources : Sources → Sources → Bool
same_sources Any Any = true
same_sources Any (Only qs) = false
same_sources (Only ps) Any = false
same_sources (Only ps) (Only qs) = pointwise same_prefix ps qs

abbrev pub same_port_range : PortRange → PortRange → Bool
same_port_range a b = a.first == b.first && a.last == b.last

abbrev pub same_dest : DestRange → DestRange → Bool
same_dest a b = same_prefix a.to b.to && same_port_range a.ports b.ports

abbrev pub same_rule : FilterRule → FilterRule → Bool
same_rule a b = same_sources a.sources b.sources && pointwise same_dest a.dests b.dests && bytes_eq a.protos b.protos

-- rule by rule
abbrev pub same_filter : List FilterRule → List FilterRule → Bool
same_filter a b = pointwise same_rule a b
