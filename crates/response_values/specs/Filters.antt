-- Rules of packet filters whose fields have values of their types.
use Rattle.std.specs.Prelude.{⊤}
use Rattle.std.specs.List.{AllByRecursion}
use Rattle.net_addr.specs.Bits.{IsBlock}
use Rattle.tailcfg.specs.declared.filter.DestRange.{DestRange}
use Rattle.tailcfg.specs.declared.filter.FilterRule.{FilterRule}
use Rattle.tailcfg.specs.declared.filter.Sources.{Sources}
use Rattle.tailcfg.specs.declared.filter.Sources.TheVariants.{Any, Only}
use Rattle.response_values.specs.Values.{FitsWord}

-- a prefix, and numbers of ports
pub record IsTypedDest (d : DestRange) : Type 0 where
  pub to : IsBlock d.to
  pub first : FitsWord d.ports.first
  pub last : FitsWord d.ports.last

-- every address, or prefixes
abbrev pub AreTypedSources : Sources → Type 0
AreTypedSources Any = ⊤
AreTypedSources (Only ps) = AllByRecursion IsBlock ps

-- The fields have values of their types.
pub record IsTypedRule (r : FilterRule) : Type 0 where
  pub sources : AreTypedSources r.sources
  pub dests : AllByRecursion IsTypedDest r.dests
  pub protos : AllByRecursion FitsWord r.protos
