-- The forms of filter rules tell them.
use Rattle.std.proofs.Common.{◌≡◌, ℕ, suc, List, [], ◌∷◌, refl, sym, ap}
use Rattle.std.specs.Prelude.{codes}
use Rattle.std.specs.List.{AllByRecursion}
use Rattle.serde_json.specs.Data.{string}
use Rattle.net_addr.specs.Bits.{Block, IsBlock}
use Rattle.port_sets.specs.declared.range.PortRange.{PortRange}
use Rattle.tailcfg.specs.declared.filter.Sources.{Sources}
use Rattle.tailcfg.specs.declared.filter.Sources.TheVariants.{Any, Only}
use Rattle.wire_write.specs.Filters.{dest_data, ports_data, rule_data, sources_data, span_data, span_text}
use Rattle.wire_write.specs.Parts.{array_data, number_data}
use Rattle.response_values.specs.Filters.{AreTypedSources, IsTypedDest, IsTypedRule}
use Rattle.response_values.specs.Values.{FitsWord}
use Rattle.wire_laws.specs.Trees.{IsTree}
use Rattle.wire_laws.proofs.FormLemmas.{Grows, Tells, arrays_grow, arrays_tell, members_tell, numbers_tell, objects_tell}
use Rattle.wire_laws.proofs.ValueForms.{no_star, spans_tell}

ports_tell : (a b : PortRange) → ports_data a ≡ ports_data b → a ≡ b
unfolding ports_data
ports_tell a b e =
    let first = members_tell _ _ _ _ _ (objects_tell _ _ e) in
    let last = members_tell _ _ _ _ _ first.1 in
    λ i. record { first = numbers_tell a.first b.first first.0 i; last = numbers_tell a.last b.last last.0 i }

dests_tell : Tells dest_data IsTypedDest
unfolding dest_data
dests_tell a b p q e =
    let to = members_tell _ _ _ _ _ (objects_tell _ _ e) in
    let ports = members_tell _ _ _ _ _ to.1 in
    λ i. record { to = spans_tell a.to b.to p.to q.to to.0 i; ports = ports_tell a.ports b.ports ports.0 i }

-- `*` alone is no list of prefixes
star_alone : (ps : List Block) → AllByRecursion IsBlock ps → array_data string (codes "*" ∷ []) ≡ array_data span_data ps → ⊥
unfolding span_data
star_alone [] h e = cc (e)
star_alone (p ∷ ps) h e =
    let first : codes "*" ≡ span_text p = cc (e) in
    no_star p h.0 first

sources_tell : (a b : Sources) → AreTypedSources a → AreTypedSources b → sources_data a ≡ sources_data b → a ≡ b
unfolding sources_data
sources_tell Any Any p q e = refl
sources_tell Any (Only qs) p q e = absurd (star_alone qs q e)
sources_tell (Only ps) Any p q e = absurd (star_alone ps p (sym e))
sources_tell (Only ps) (Only qs) p q e = ap Only (arrays_tell span_data IsBlock spans_tell ps qs p q e)

pub rules_tell : Tells rule_data IsTypedRule
unfolding rule_data
rules_tell a b p q e =
    let dests = members_tell _ _ _ _ _ (objects_tell _ _ e) in
    let protos = members_tell _ _ _ _ _ dests.1 in
    let sources = members_tell _ _ _ _ _ protos.1 in
    λ i. record {
      sources = sources_tell a.sources b.sources p.sources q.sources sources.0 i;
      dests = arrays_tell dest_data IsTypedDest dests_tell a.dests b.dests p.dests q.dests dests.0 i;
      protos = arrays_tell number_data FitsWord (λ m n h k. numbers_tell m n) a.protos b.protos p.protos q.protos protos.0 i;
    }

dests_grow : (n : ℕ) → Grows dest_data IsTypedDest (suc (suc n))
unfolding dest_data ports_data span_data
dests_grow n d h = (tt, ((h.first, (h.last, tt)), tt))

sources_grow : (n : ℕ) (s : Sources) → AreTypedSources s → IsTree (suc n) (sources_data s)
unfolding sources_data span_data
sources_grow n Any h = (tt, tt)
sources_grow n (Only ps) h = arrays_grow span_data IsBlock n (λ p k. tt) ps h

pub rules_grow : (n : ℕ) → Grows rule_data IsTypedRule (suc (suc (suc (suc n))))
unfolding rule_data
rules_grow n r h = (
  arrays_grow dest_data IsTypedDest (suc (suc n)) (dests_grow n) r.dests h.dests,
  (
    arrays_grow number_data FitsWord (suc (suc n)) (λ m k. k) r.protos h.protos,
    (sources_grow (suc (suc n)) r.sources h.sources, tt),
  ),
)
