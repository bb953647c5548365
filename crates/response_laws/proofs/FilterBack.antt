-- Rules of packet filters are read back.
use Rattle.std.proofs.Common.{◌≡◌, ◌<◌, ◌-◌, ◌^◌, ℕ, true, false, List, [], ◌∷◌, Some, refl, arith}
use Rattle.std.specs.Prelude.{nat_lt, codes, Ok, map}
use Rattle.std.specs.List.{AllByRecursion}
use Rattle.std.proofs.lemmas.Bool.{and_from}
use Rattle.std.proofs.lemmas.Bool.Decides.{nat_tests}
use Rattle.serde_json.specs.Data.{Data}
use Rattle.serde_json.specs.View.{items_of}
use Rattle.net_addr.specs.Bits.{Block, IsBlock}
use Rattle.port_sets.specs.declared.range.PortRange.{PortRange}
use Rattle.tailcfg.specs.declared.filter.DestRange.{DestRange}
use Rattle.tailcfg.specs.declared.filter.FilterRule.{FilterRule}
use Rattle.tailcfg.specs.declared.filter.Sources.{Sources}
use Rattle.tailcfg.specs.declared.filter.Sources.TheVariants.{Any, Only}
use Rattle.wire_json.specs.Body.{unless_null}
use Rattle.wire_write.specs.Filters.{dest_data, ports_data, rule_data, sources_data, span_data}
use Rattle.wire_write.specs.Parts.{array_data, number_data}
use Rattle.response_values.specs.Filters.{AreTypedSources, IsTypedDest, IsTypedRule}
use Rattle.response_values.specs.Values.{FitsWord}
use Rattle.response_read.specs.Filters.{climb_from, dest_range_at, filter_rule_at, is_only_star, port_range_at, protos_at, sources_at, span_in}
use Rattle.response_read.specs.Members.{all_read, due, each_read}
use Rattle.response_read.specs.Values.{octet_at, port_at, spelled_at}
use Rattle.response_laws.specs.Sizes.{IsPort, IsSizedDest, IsSizedRule}
use Rattle.response_laws.specs.Told.{DoProtosRise, Rise}
use Rattle.response_laws.proofs.Reading.{Reads, arrays_read, number_reads, optional_read}
use Rattle.response_laws.proofs.Steps.{Back, arrays_back}
use Rattle.response_laws.proofs.ValueBack.{count_back, ports_back, spans_back, star_apart}

-- ---- ports and destinations

range_from : (d : Data) (r : PortRange) → due (codes "First") port_at d ≡ Ok r.first → due (codes "Last") port_at d ≡ Ok r.last → port_range_at d ≡ Ok r
unfolding port_range_at
range_from d r first last = rw (first, last)

ranges_back : (r : PortRange) → IsPort r.first → IsPort r.last → port_range_at (ports_data r) ≡ Ok r
unfolding ports_data
ranges_back r first last = range_from (ports_data r) r (ports_back r.first first) (ports_back r.last last)

dest_from : (d : Data) (x : DestRange) → due (codes "IP") (spelled_at span_in) d ≡ Ok x.to → due (codes "Ports") port_range_at d ≡ Ok x.ports → dest_range_at d ≡ Ok x
unfolding dest_range_at
dest_from d x to ports = rw (to, ports)

-- the fields have values of their types
abbrev pub IsDest : DestRange → Type 0
IsDest d = IsTypedDest d × IsSizedDest d

dests_back : Back dest_range_at dest_data IsDest
unfolding dest_data span_data ports_data
dests_back x h = dest_from (dest_data x) x (spans_back x.to h.0.to) (ranges_back x.ports h.1.0 h.1.1)

-- ---- sources

one_alone : (p : Block) (ps : List Block) → IsBlock p → is_only_star (items_of (map span_data (p ∷ ps))) ≡ false
unfolding span_data
one_alone p [] h = star_apart p h
one_alone p (q ∷ ps) h = refl

not_star : (ps : List Block) → AllByRecursion IsBlock ps → is_only_star (items_of (map span_data ps)) ≡ false
not_star [] h = refl
not_star (p ∷ ps) h = one_alone p ps h.0

sources_back : (s : Sources) → AreTypedSources s → sources_at (sources_data s) ≡ Ok s
unfolding sources_data
sources_back Any h = refl
sources_back (Only ps) h = rw (not_star ps h, arrays_back (spelled_at span_in) span_data IsBlock spans_back ps h)

-- ---- protocols

less_is : (m n : ℕ) → m < n → nat_lt m n ≡ true
less_is m n h = grind (arith, nat_tests)

climbs : (low : ℕ) (ns : List ℕ) → Rise low ns → climb_from low ns ≡ true
climbs low [] h = refl
climbs low (n ∷ ns) h = and_from (nat_lt low n) (climb_from n ns) (less_is low n h.0) (climbs n ns h.2)

octets_back : (low : ℕ) (ns : List ℕ) → Rise low ns → each_read octet_at (items_of (map number_data ns)) ≡ Ok ns
octets_back low [] h = refl
octets_back low (n ∷ ns) h = rw (count_back (2 ^ 8 - 1) n h.1, octets_back n ns h.2)

protos_back : (ns : List ℕ) → Rise 0 ns → protos_at (array_data number_data ns) ≡ Ok ns
protos_back ns h = rw (octets_back 0 ns h, climbs 0 ns h)

-- ---- rules

rule_from : (d : Data) (r : FilterRule) → due (codes "DstPorts") (all_read dest_range_at) d ≡ Ok r.dests → due (codes "IPProto") protos_at d ≡ Ok r.protos → due (codes "SrcIPs") sources_at d ≡ Ok r.sources
    → filter_rule_at d ≡ Ok r
unfolding filter_rule_at
rule_from d r dests protos sources = rw (dests, protos, sources)

-- each destination, by its type and its size
both : (ds : List DestRange) → AllByRecursion IsTypedDest ds → AllByRecursion IsSizedDest ds → AllByRecursion IsDest ds
both [] h k = tt
both (d ∷ ds) h k = ((h.0, k.0), both ds h.1 k.1)

-- the fields have values of their types, and the protocols rise
abbrev pub IsRule : FilterRule → Type 0
IsRule r = IsTypedRule r × IsSizedRule r × DoProtosRise r

-- a list of sources isn't `null`
sources_there : (s : Sources) → unless_null (sources_data s) ≡ Some (sources_data s)
unfolding sources_data
sources_there Any = refl
sources_there (Only ps) = refl

sources_due : (r : FilterRule) → AreTypedSources r.sources → due (codes "SrcIPs") sources_at (rule_data r) ≡ Ok r.sources
unfolding rule_data
sources_due r h = rw (sources_there r.sources) (sources_back r.sources h)

pub rules_back : Back filter_rule_at rule_data IsRule
unfolding rule_data
rules_back r h =
    rule_from (rule_data r) r (arrays_back dest_range_at dest_data IsDest dests_back r.dests (both r.dests h.0.dests h.1)) (protos_back r.protos h.2) (sources_due r h.0.sources)

-- ---- what is written is read again

ports_read : (r : PortRange) → FitsWord r.first → FitsWord r.last → Reads (ports_data r)
unfolding ports_data
ports_read r first last =
    optional_read ((codes "First", Some (number_data r.first)) ∷ (codes "Last", Some (number_data r.last)) ∷ []) refl (number_reads r.first first, (number_reads r.last last, tt))

dests_read : (d : DestRange) → IsTypedDest d → Reads (dest_data d)
unfolding dest_data span_data
dests_read d h =
    optional_read ((codes "IP", Some (span_data d.to)) ∷ (codes "Ports", Some (ports_data d.ports)) ∷ []) refl (refl, (ports_read d.ports h.first h.last, tt))

sources_read : (s : Sources) → AreTypedSources s → Reads (sources_data s)
unfolding sources_data span_data
sources_read Any h = refl
sources_read (Only ps) h = arrays_read span_data IsBlock (λ p k. refl) ps h

pub rules_read : (r : FilterRule) → IsTypedRule r → Reads (rule_data r)
unfolding rule_data
rules_read r h =
    optional_read ((codes "DstPorts", Some (array_data dest_data r.dests)) ∷ (codes "IPProto", Some (array_data number_data r.protos)) ∷ (codes "SrcIPs", Some (sources_data r.sources)) ∷ []) refl (
      arrays_read dest_data IsTypedDest dests_read r.dests h.dests,
      (
        arrays_read number_data FitsWord number_reads r.protos h.protos,
        (sources_read r.sources h.sources, tt),
      ),
    )
