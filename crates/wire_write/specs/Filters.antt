-- Packet filters (`tailcfg.FilterRule`) as JSON, keys in byte order.
use Rattle.std.specs.Prelude.{ℕ, List, [], ◌∷◌, ◌==◌, if◌then◌else◌, codes}
use Rattle.serde_json.specs.Data.{Data, string, object, no_members, member}
use Rattle.net_addr.specs.Bits.{Block, family_bits}
use Rattle.net_addr.specs.AddrTexts.{addr_text}
use Rattle.net_addr.specs.PrefixTexts.{prefix_text}
use Rattle.port_sets.specs.declared.range.PortRange.{PortRange}
use Rattle.tailcfg.specs.declared.filter.DestRange.{DestRange}
use Rattle.tailcfg.specs.declared.filter.FilterRule.{FilterRule}
use Rattle.tailcfg.specs.declared.filter.Sources.{Sources}
use Rattle.tailcfg.specs.declared.filter.Sources.TheVariants.{Any, Only}
use Rattle.wire_write.specs.Parts.{number_data, array_data}

-- a prefix of one address is written without its length
abbrev pub span_text : Block → List ℕ
span_text p = if p.len == family_bits p.base.v6 then addr_text p.base else prefix_text p

-- that text as JSON
unfoldable pub span_data : Block → Data
span_data p = string (span_text p)

-- a range of ports (`tailcfg.PortRange`)
unfoldable pub ports_data : PortRange → Data
ports_data r = object (
    member (codes "First") (number_data r.first) (
    member (codes "Last") (number_data r.last) no_members))

-- addresses and ports (`tailcfg.NetPortRange`)
unfoldable pub dest_data : DestRange → Data
dest_data d = object (
    member (codes "IP") (span_data d.to) (
    member (codes "Ports") (ports_data d.ports) no_members))

-- the sources, of which `*` is every address
unfoldable pub sources_data : Sources → Data
sources_data Any = array_data string (codes "*" ∷ [])
sources_data (Only ps) = array_data span_data ps

-- all fields are always written
unfoldable pub rule_data : FilterRule → Data
rule_data r = object (
    member (codes "DstPorts") (array_data dest_data r.dests) (
    member (codes "IPProto") (array_data number_data r.protos) (
    member (codes "SrcIPs") (sources_data r.sources) no_members)))
