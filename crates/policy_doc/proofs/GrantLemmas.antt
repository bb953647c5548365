-- What holds of the rules that grants give.
use Rattle.std.proofs.Common.{◌≡◌, ◌+◌, ◌≤◌, ℕ, Bool, true, false, ◌||◌, List, [], ◌∷◌, ◌++◌, Option, Some, None, Ok, length, map, leb, ltb, arith, refl, ap, ◌∙◌}
use Rattle.std.specs.Prelude.{codes, not}
use Rattle.std.specs.List.{list_all, list_any}
use Rattle.std.specs.Str.{bytes_eq}
use Rattle.std.proofs.lemmas.Bool.{and_from, leb-true, lt-ltb}
use Rattle.std.proofs.lemmas.List.{length-append, length-map}
use Rattle.std.proofs.lemmas.List.Folds.{list_all-append, list_all-map}
use Rattle.serde_json.specs.Data.{Data, Items, no_items, item}
use Rattle.serde_json.specs.Find.{as_array, as_object, as_str}
use Rattle.tail_base.proofs.StepLemmas.{bind_parts, check_parts, due_parts}
use Rattle.port_sets.specs.declared.range.PortRange.{PortRange}
use Rattle.port_sets.specs.PortTexts.{is_comma, ports_of_text}
use Rattle.port_sets.proofs.ReadLemmas.{read_ports}
use Rattle.policy_rows.specs.declared.code.PolicyCode.TheVariants as code
use Rattle.policy_rows.specs.declared.dest.Dest.{Dest}
use Rattle.policy_rows.specs.declared.flow.Flow.{Flow}
use Rattle.policy_rows.specs.declared.names.Names.{Names}
use Rattle.policy_rows.specs.declared.rule.Rule.{Rule}
use Rattle.policy_rows.specs.declared.selector.Selector.{Selector}
use Rattle.policy_rows.specs.Dests.{needs_star, ports_at}
use Rattle.policy_rows.specs.Faults.{fault_at, indexed, under}
use Rattle.policy_rows.specs.Flows.{flow_at, flow_ports, protocol_part}
use Rattle.policy_rows.specs.Selectors.{is_source}
use Rattle.policy_doc.specs.declared.limits.TheConstants.{ENTRY_LIMIT, LIST_LIMIT, RULE_LIMIT}
use Rattle.policy_doc.specs.Grants.{dests_to, flow_text, flows_at, flows_due, grant_at, grants_at, grants_onto, rule_of_flow, selector_text, with_grants}
use Rattle.policy_doc.specs.Keys.{keys_of, section}
use Rattle.policy_doc.specs.Rules.{list_due, source_text}
use Rattle.policy_doc.specs.Sound.{has_entry, is_every_port}
use Rattle.policy_doc.specs.Walks.{items_count}
use Rattle.policy_doc.proofs.KnownLemmas.{selector_known}
use Rattle.policy_doc.proofs.RowLemmas.{IsRule, due_all, due_short, every_if, ports_read, source_text_read}
use Rattle.policy_doc.proofs.StepLemmas.{each_all, each_count, ok_has}

-- ---- flows

-- ports there are, and all where the protocol has none
record IsFlow (flow : Flow) : Type 0 where
  every : (not (needs_star flow.protos) || is_every_port flow.ports) ≡ true
  some : ltb 0 (length flow.ports) ≡ true

flow_read : (place text : List ℕ) (flow : Flow) → flow_at place text ≡ Ok flow → IsFlow flow
unfolding flow_at
flow_read place text flow e =
    let proto = bind_parts (protocol_part place text) _ flow e in
    let single = check_parts (not (list_any is_comma (flow_ports text))) (fault_at code.BadPorts place) _ flow proto.2 in
    let ports = bind_parts (ports_at code.BadPorts place (flow_ports text)) _ flow single.1 in
    let star = check_parts (not (needs_star proto.0) || bytes_eq (flow_ports text) (codes "*")) (fault_at code.PortsForProto place) _ flow ports.2 in
    let found = ports_read code.BadPorts place (ports_of_text (flow_ports text)) ports.0 ports.1 in
    ok_has IsFlow (record { protos = proto.0; ports = ports.0 }) flow (record {
      every = every_if (needs_star proto.0) (flow_ports text) ports.0 found star.0;
      some = lt-ltb 0 (length ports.0) (read_ports (flow_ports text) ports.0 found).some;
    }) star.1

flow_text_read : (names : Names) (place : List ℕ) (d : Data) (flow : Flow) → flow_text names place d ≡ Ok flow → IsFlow flow
unfolding flow_text
flow_text_read names place d flow e =
    let text = due_parts (fault_at code.WrongShape place) (as_str d) _ flow e in
    flow_read place text.0 flow text.2

flows_all : (Q : Flow → Bool) → ((flow : Flow) → IsFlow flow → Q flow ≡ true) → (names : Names) (behind : ℕ) (place : List ℕ) (o : Option Data) (flows : List Flow)
    → flows_due names behind place o ≡ Ok flows → list_all Q flows ≡ true
unfolding flows_at
flows_all Q h names behind place None flows e = absurd (cc)
flows_all Q h names behind place (Some d) flows e =
    let shape = due_parts (fault_at code.WrongShape place) (as_array d) _ flows e in
    let short = check_parts (leb (items_count shape.0) LIST_LIMIT) (fault_at code.TooMany place) _ flows shape.2 in
    let room = check_parts (leb (behind + items_count shape.0) RULE_LIMIT) (fault_at code.TooMany place) _ flows short.1 in
    each_all Q (flow_text names) (λ at x flow f. h flow (flow_text_read names at x flow f)) place 0 shape.0 flows room.1

-- with the rules before they are no more than there may be
flows_short : (names : Names) (behind : ℕ) (place : List ℕ) (o : Option Data) (flows : List Flow) → flows_due names behind place o ≡ Ok flows → behind + length flows ≤ RULE_LIMIT
unfolding flows_at
flows_short names behind place None flows e = absurd (cc)
flows_short names behind place (Some d) flows e =
    let shape = due_parts (fault_at code.WrongShape place) (as_array d) _ flows e in
    let short = check_parts (leb (items_count shape.0) LIST_LIMIT) (fault_at code.TooMany place) _ flows shape.2 in
    let room = check_parts (leb (behind + items_count shape.0) RULE_LIMIT) (fault_at code.TooMany place) _ flows short.1 in
    let few = leb-true (behind + items_count shape.0) RULE_LIMIT room.0 in
    let count = each_count (flow_text names) place 0 shape.0 flows room.1 in
    omega (arith, few, count)

-- ---- the rule of a flow

selector_text_known : (names : Names) (place : List ℕ) (d : Data) (s : Selector) → selector_text names place d ≡ Ok s → has_entry names.groups names.tags s ≡ true
unfolding selector_text
selector_text_known names place d s e =
    let text = due_parts (fault_at code.WrongShape place) (as_str d) _ s e in
    selector_known names place text.0 s text.2

-- what the ports have, each destination with them has
dests_have : (Q : List PortRange → Bool) (ports : List PortRange) (tos : List Selector) → Q ports ≡ true → list_all (λ x. Q x.ports) (dests_to ports tos) ≡ true
dests_have Q ports [] h = refl
dests_have Q ports (to ∷ tos) h = and_from (Q ports) _ h (dests_have Q ports tos h)

every_dest : (only_all : Bool) (ports : List PortRange) (tos : List Selector) → (not only_all || is_every_port ports) ≡ true → (not only_all || list_all (λ x. is_every_port x.ports) (dests_to ports tos)) ≡ true
every_dest true ports tos h = dests_have is_every_port ports tos h
every_dest false ports tos h = refl

-- sources and destinations of an entry
record AreEnds (names : Names) (sources tos : List Selector) : Type 0 where
  sources_known : list_all (has_entry names.groups names.tags) sources ≡ true
  sources_fit : list_all is_source sources ≡ true
  sources_end : leb (length sources) LIST_LIMIT ≡ true
  tos_known : list_all (has_entry names.groups names.tags) tos ≡ true
  tos_end : leb (length tos) LIST_LIMIT ≡ true

flow_rule : (names : Names) (sources tos : List Selector) (flow : Flow) → AreEnds names sources tos → IsFlow flow → IsRule names (rule_of_flow sources tos flow)
flow_rule names sources tos flow ends is = record {
  sources_known = ends.sources_known;
  sources_fit = ends.sources_fit;
  sources_end = ends.sources_end;
  dests_known = list_all-map (λ (x : Dest). has_entry names.groups names.tags x.to) (λ to. record { to = to; ports = flow.ports }) tos ∙ ends.tos_known;
  dests_end = ap (λ n. leb n LIST_LIMIT) (length-map tos (λ to. record { to = to; ports = flow.ports })) ∙ ends.tos_end;
  ports_some = dests_have (λ ports. ltb 0 (length ports)) flow.ports tos is.some;
  ports_fit = every_dest (needs_star flow.protos) flow.ports tos is.every;
}

-- ---- entries

-- the rules of the elements of `ip`, behind those before
joined_all : (names : Names) (P : Rule → Bool) → ((r : Rule) → IsRule names r → P r ≡ true) → (before : List Rule) (sources tos : List Selector) (behind : ℕ) (place : List ℕ) (o : Option Data) (flows : List Flow)
    → list_all P before ≡ true → AreEnds names sources tos → flows_due names behind place o ≡ Ok flows → list_all P (before ++ map (rule_of_flow sources tos) flows) ≡ true
joined_all names P h before sources tos behind place o flows passed ends e =
    let more = flows_all (λ flow. P (rule_of_flow sources tos flow)) (λ flow is. h (rule_of_flow sources tos flow) (flow_rule names sources tos flow ends is)) names behind place o flows e in
    list_all-append P before (map (rule_of_flow sources tos) flows) ∙ and_from (list_all P before) (list_all P (map (rule_of_flow sources tos) flows)) passed (list_all-map P (rule_of_flow sources tos) flows ∙ more)

ends_read : (names : Names) (at_src at_dst : List ℕ) (src dst : Option Data) (sources tos : List Selector)
    → list_due (source_text names) at_src src ≡ Ok sources → list_due (selector_text names) at_dst dst ≡ Ok tos → AreEnds names sources tos
ends_read names at_src at_dst src dst sources tos e f = record {
  sources_known = due_all (has_entry names.groups names.tags) (source_text names) (λ at x s g. (source_text_read names at x s g).0) at_src src sources e;
  sources_fit = due_all is_source (source_text names) (λ at x s g. (source_text_read names at x s g).1) at_src src sources e;
  sources_end = due_short (source_text names) at_src src sources e;
  tos_known = due_all (has_entry names.groups names.tags) (selector_text names) (λ at x s g. selector_text_known names at x s g) at_dst dst tos f;
  tos_end = due_short (selector_text names) at_dst dst tos f;
}

grant_all : (names : Names) (P : Rule → Bool) → ((r : Rule) → IsRule names r → P r ≡ true) → (before : List Rule) (place : List ℕ) (d : Data) (rules : List Rule)
    → list_all P before ≡ true → grant_at names before place d ≡ Ok rules → list_all P rules ≡ true
unfolding grant_at
grant_all names P h before place d rules passed e =
    let ms = due_parts (fault_at code.WrongShape place) (as_object d) _ rules e in
    let keys = bind_parts (keys_of place (codes "src" ∷ codes "dst" ∷ codes "ip" ∷ []) (codes "srcPosture" ∷ codes "app" ∷ codes "via" ∷ []) [] ms.0) _ rules ms.2 in
    let sources = bind_parts (list_due (source_text names) (under place (codes "src")) (section (codes "src") ms.0)) _ rules keys.2 in
    let tos = bind_parts (list_due (selector_text names) (under place (codes "dst")) (section (codes "dst") ms.0)) _ rules sources.2 in
    let flows = bind_parts (flows_due names (length before) (under place (codes "ip")) (section (codes "ip") ms.0)) _ rules tos.2 in
    let ends = ends_read names (under place (codes "src")) (under place (codes "dst")) (section (codes "src") ms.0) (section (codes "dst") ms.0) sources.0 tos.0 sources.1 tos.1 in
    ok_has (λ rs. list_all P rs ≡ true) (before ++ map (rule_of_flow sources.0 tos.0) flows.0) rules
    (joined_all names P h before sources.0 tos.0 (length before) (under place (codes "ip")) (section (codes "ip") ms.0) flows.0 passed ends flows.1) flows.2

grant_short : (names : Names) (before : List Rule) (place : List ℕ) (d : Data) (rules : List Rule) → grant_at names before place d ≡ Ok rules → length rules ≤ RULE_LIMIT
unfolding grant_at
grant_short names before place d rules e =
    let ms = due_parts (fault_at code.WrongShape place) (as_object d) _ rules e in
    let keys = bind_parts (keys_of place (codes "src" ∷ codes "dst" ∷ codes "ip" ∷ []) (codes "srcPosture" ∷ codes "app" ∷ codes "via" ∷ []) [] ms.0) _ rules ms.2 in
    let sources = bind_parts (list_due (source_text names) (under place (codes "src")) (section (codes "src") ms.0)) _ rules keys.2 in
    let tos = bind_parts (list_due (selector_text names) (under place (codes "dst")) (section (codes "dst") ms.0)) _ rules sources.2 in
    let flows = bind_parts (flows_due names (length before) (under place (codes "ip")) (section (codes "ip") ms.0)) _ rules tos.2 in
    let few = flows_short names (length before) (under place (codes "ip")) (section (codes "ip") ms.0) flows.0 flows.1 in
    let joined = length-append before (map (rule_of_flow sources.0 tos.0) flows.0) in
    let mapped = length-map flows.0 (rule_of_flow sources.0 tos.0) in
    ok_has (λ rs. length rs ≤ RULE_LIMIT) (before ++ map (rule_of_flow sources.0 tos.0) flows.0) rules (omega (arith, few, joined, mapped)) flows.2

onto_all : (names : Names) (P : Rule → Bool) → ((r : Rule) → IsRule names r → P r ≡ true) → (before : List Rule) (place : List ℕ) (n : ℕ) (ds : Items) (rules : List Rule)
    → list_all P before ≡ true → grants_onto names before place n ds ≡ Ok rules → list_all P rules ≡ true
onto_all names P h before place n no_items rules passed e = ok_has (λ rs. list_all P rs ≡ true) before rules passed e
onto_all names P h before place n (item d ds) rules passed e =
    let first = bind_parts (grant_at names before (indexed place n) d) _ rules e in
    onto_all names P h first.0 place (n + 1) ds rules (grant_all names P h before (indexed place n) d first.0 passed first.1) first.2

onto_short : (names : Names) (before : List Rule) (place : List ℕ) (n : ℕ) (ds : Items) (rules : List Rule)
    → length before ≤ RULE_LIMIT → grants_onto names before place n ds ≡ Ok rules → length rules ≤ RULE_LIMIT
onto_short names before place n no_items rules few e = ok_has (λ rs. length rs ≤ RULE_LIMIT) before rules few e
onto_short names before place n (item d ds) rules few e =
    let first = bind_parts (grant_at names before (indexed place n) d) _ rules e in
    onto_short names first.0 place (n + 1) ds rules (grant_short names before (indexed place n) d first.0 first.1) first.2

pub grants_all : (names : Names) (P : Rule → Bool) → ((r : Rule) → IsRule names r → P r ≡ true) → (before : List Rule) (place : List ℕ) (d : Data) (rules : List Rule)
    → list_all P before ≡ true → grants_at names before place d ≡ Ok rules → list_all P rules ≡ true
unfolding grants_at
grants_all names P h before place d rules passed e =
    let shape = due_parts (fault_at code.WrongShape place) (as_array d) _ rules e in
    let short = check_parts (leb (items_count shape.0) ENTRY_LIMIT) (fault_at code.TooMany place) _ rules shape.2 in
    onto_all names P h before place 0 shape.0 rules passed short.1

pub grants_short : (names : Names) (before : List Rule) (place : List ℕ) (d : Data) (rules : List Rule)
    → length before ≤ RULE_LIMIT → grants_at names before place d ≡ Ok rules → length rules ≤ RULE_LIMIT
unfolding grants_at
grants_short names before place d rules few e =
    let shape = due_parts (fault_at code.WrongShape place) (as_array d) _ rules e in
    let short = check_parts (leb (items_count shape.0) ENTRY_LIMIT) (fault_at code.TooMany place) _ rules shape.2 in
    onto_short names before place 0 shape.0 rules few short.1

-- ---- the section

pub with_all : (names : Names) (P : Rule → Bool) → ((r : Rule) → IsRule names r → P r ≡ true) → (before : List Rule) (o : Option Data) (rules : List Rule)
    → list_all P before ≡ true → with_grants names before o ≡ Ok rules → list_all P rules ≡ true
with_all names P h before None rules passed e = ok_has (λ rs. list_all P rs ≡ true) before rules passed e
with_all names P h before (Some d) rules passed e = grants_all names P h before (codes "grants") d rules passed e

pub with_short : (names : Names) (before : List Rule) (o : Option Data) (rules : List Rule) → length before ≤ RULE_LIMIT → with_grants names before o ≡ Ok rules → length rules ≤ RULE_LIMIT
with_short names before None rules few e = ok_has (λ rs. length rs ≤ RULE_LIMIT) before rules few e
with_short names before (Some d) rules few e = grants_short names before (codes "grants") d rules few e
