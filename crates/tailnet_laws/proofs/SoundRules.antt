-- The rules of a policy that was read have protocols that there are, and ports.
use Rattle.std.proofs.Common.{◌≡◌, ◌≤◌, ◌+◌, ◌∷◌, ℕ, Bool, true, false, not, ◌||◌, List, [], ◌++◌, Option, Some, None, Result, Ok, Err, arith, inl, inr, refl, sym, subst, leb, length, map, ◌&&◌, if◌then◌else◌}
use Rattle.std.specs.Prelude.{Contains, codes, option_and_then}
use Rattle.std.specs.List.{after_last, before_first, before_last, list_any}
use Rattle.std.specs.Option.{option_map, option_or}
use Rattle.std.specs.Str.{bytes_eq}
use Rattle.std.proofs.lemmas.Bool.{and_parts, leb-true}
use Rattle.std.proofs.lemmas.List.Elements.{Contains-append_cases}
use Rattle.serde_json.specs.Data.{Data, Items, no_items, item}
use Rattle.serde_json.specs.Find.{as_array, as_number, as_object, as_str, as_u64}
use Rattle.tail_base.specs.Numerals.{in_range, number_in}
use Rattle.tail_base.proofs.NumeralLemmas.{number_in_fits}
use Rattle.tail_base.specs.Steps.{or_fault}
use Rattle.tail_base.proofs.StepLemmas.{bind_parts, check_parts, due_parts, fault_parts}
use Rattle.port_sets.specs.declared.fault.PortFault.{PortFault}
use Rattle.port_sets.specs.declared.range.PortRange.{PortRange}
use Rattle.port_sets.specs.PortTexts.{is_comma, ports_of_text}
use Rattle.port_sets.specs.Protocols.{IsProtos, proto_named, proto_of_text, short_named}
use Rattle.port_sets.specs.Ranges.{IsPorts}
use Rattle.port_sets.proofs.ReadLemmas.{read_ports}
use Rattle.net_rows.proofs.Members.{cut_member, no_member}
use Rattle.policy_rows.specs.declared.code.PolicyCode.{PolicyCode}
use Rattle.policy_rows.specs.declared.code.PolicyCode.TheVariants as code
use Rattle.policy_rows.specs.declared.dest.Dest.{Dest}
use Rattle.policy_rows.specs.declared.fault.PolicyFault.{PolicyFault}
use Rattle.policy_rows.specs.declared.flow.Flow.{Flow}
use Rattle.policy_rows.specs.declared.names.Names.{Names}
use Rattle.policy_rows.specs.declared.policy.Policy.{Policy}
use Rattle.policy_rows.specs.declared.rule.Rule.{Rule}
use Rattle.policy_rows.specs.declared.selector.Selector.{Selector}
use Rattle.policy_rows.specs.Dests.{dest_at, needs_star, ports_at, ports_from}
use Rattle.policy_rows.specs.Faults.{fault_at, indexed, under}
use Rattle.policy_rows.specs.Flows.{flow_at, flow_ports, protocol_part}
use Rattle.policy_rows.specs.Selectors.{is_colon, selector_at}
use Rattle.policy_doc.specs.declared.limits.TheConstants.{ENTRY_LIMIT, LIST_LIMIT, RULE_LIMIT}
use Rattle.tail_base.specs.declared.limits.TheConstants.{POLICY_LIMIT}
use Rattle.policy_doc.specs.Document.{approvers_or_none, json_at, names_of, policy_from, policy_of, policy_of_text, rules_section, standard_at, tests_section, top_keys_of}
use Rattle.policy_doc.specs.Grants.{dests_to, flow_text, flows_at, flows_due, grant_at, grants_at, grants_onto, rule_of_flow, selector_text, with_grants}
use Rattle.policy_doc.specs.Keys.{keys_of, section}
use Rattle.policy_doc.specs.Rules.{action_at, dest_text, list_due, proto_at, proto_of, rule_at, source_text}
use Rattle.policy_doc.specs.Walks.{each, items_count, list_of}
use Rattle.policy_doc.proofs.StepLemmas.{ok_has}
use Rattle.policy_sites.specs.Grants.{open_dest, open_rule, rules_of, rules_or_open}
use Rattle.policy_sites.specs.Reach.{AreSoundRules, IsSoundRule}

-- ---- protocols

-- a protocol that is there is 1 to 255
record Fits (o : Option ℕ) : Type 0 where
  fits : (n : ℕ) → o ≡ Some n → (1 ≤ n) × (n ≤ 255)

none_fits : Fits None
none_fits = record { fits = λ n h. absurd (cc) }

some_fits : (k : ℕ) → 1 ≤ k → k ≤ 255 → Fits (Some k)
some_fits k low high = record { fits = λ n h. let e : k ≡ n = cc in (omega (arith, e, low), omega (arith, e, high)) }

if_fits : (b : Bool) (k : ℕ) (o : Option ℕ) → 1 ≤ k → k ≤ 255 → Fits o → Fits (if b then Some k else o)
if_fits true k o low high rest = some_fits k low high
if_fits false k o low high rest = rest

or_fits : (o p : Option ℕ) → Fits o → Fits p → Fits (option_or o p)
or_fits None p h k = k
or_fits (Some n) p h k = h

short_fits : (text : List ℕ) → Fits (short_named text)
short_fits text =
    if_fits (bytes_eq text (codes "icmp")) 1 _ (omega arith) (omega arith)
    (if_fits (bytes_eq text (codes "igmp")) 2 _ (omega arith) (omega arith)
    (if_fits (bytes_eq text (codes "ipv4")) 4 _ (omega arith) (omega arith)
    (if_fits (bytes_eq text (codes "tcp")) 6 _ (omega arith) (omega arith)
    (if_fits (bytes_eq text (codes "egp")) 8 _ (omega arith) (omega arith)
    (if_fits (bytes_eq text (codes "igp")) 9 _ (omega arith) (omega arith)
    (if_fits (bytes_eq text (codes "udp")) 17 _ (omega arith) (omega arith)
    (if_fits (bytes_eq text (codes "gre")) 47 _ (omega arith) (omega arith)
    (if_fits (bytes_eq text (codes "esp")) 50 _ (omega arith) (omega arith)
    (if_fits (bytes_eq text (codes "ah")) 51 _ (omega arith) (omega arith)
    (if_fits (bytes_eq text (codes "sctp")) 132 _ (omega arith) (omega arith) none_fits))))))))))

text_fits : (text : List ℕ) → Fits (proto_of_text text)
text_fits text =
    or_fits (proto_named text) (number_in 5 1 255 text)
    (if_fits (bytes_eq text (codes "ip-in-ip")) 4 (short_named text) (omega arith) (omega arith) (short_fits text))
    (record { fits = λ n h. number_in_fits 5 1 255 n text h })

range_fits : (o : Option ℕ) → Fits (in_range 1 255 o)
range_fits None = none_fits
range_fits (Some m) = go (leb 1 m && leb m 255) refl
  where
    go : (b : Bool) → (leb 1 m && leb m 255) ≡ b → Fits (if b then Some m else None)
    go true e = let parts = and_parts (leb 1 m) (leb m 255) e in some_fits m (leb-true 1 m parts.0) (leb-true m 255 parts.1)
    go false e = none_fits

and_then_fits : (o : Option (List ℕ)) → Fits (option_and_then proto_of_text o)
and_then_fits None = none_fits
and_then_fits (Some text) = text_fits text

proto_fits : (d : Data) → Fits (proto_of d)
proto_fits d =
    or_fits (option_and_then proto_of_text (as_str d)) (in_range 1 255 (option_and_then as_u64 (as_number d)))
    (and_then_fits (as_str d)) (range_fits (option_and_then as_u64 (as_number d)))

given_proto : (o : Option ℕ) (p : Option ℕ) → Fits o → option_map Some o ≡ Some p → IsProtos p
given_proto None p h e = absurd (cc)
given_proto (Some n) p h e = let same : Some n ≡ p = cc in subst IsProtos same (h.fits n refl)

proto_sound : (place : List ℕ) (o : Option Data) (p : Option ℕ) → proto_at place o ≡ Ok p → IsProtos p
unfolding proto_at
proto_sound place None p e = ok_has IsProtos None p tt e
proto_sound place (Some d) p e = given_proto (proto_of d) p (proto_fits d) (fault_parts (fault_at code.BadProto place) (option_map Some (proto_of d)) p e)

-- ---- destinations

-- what each that was read has
each_has : {A : Type 0} (P : A → Type 0) (read : List ℕ → Data → Result A PolicyFault) → ((place : List ℕ) (d : Data) (x : A) → read place d ≡ Ok x → P x)
    → (place : List ℕ) (n : ℕ) (ds : Items) (xs : List A) → each read place n ds ≡ Ok xs → (x : A) → Contains xs x → P x
each_has {A} P read h place n no_items xs e = ok_has (λ (ys : List A). (x : A) → Contains ys x → P x) [] xs (λ x m. absurd (no_member x m)) e
each_has {A} P read h place n (item d ds) xs e =
    let first = bind_parts (read (indexed place n) d) _ xs e in
    let rest = bind_parts (each read place (n + 1) ds) _ xs first.2 in
    let here = h (indexed place n) d first.0 first.1 in
    let behind = each_has P read h place (n + 1) ds rest.0 rest.1 in
    ok_has (λ (ys : List A). (x : A) → Contains ys x → P x) (first.0 ∷ rest.0) xs
    (λ x m. elim (cut_member first.0 rest.0 x m) [ inl is ↦ subst P (sym is) here | inr later ↦ behind x later ]) rest.2

list_has : {A : Type 0} (P : A → Type 0) (most : ℕ) (read : List ℕ → Data → Result A PolicyFault) → ((place : List ℕ) (d : Data) (x : A) → read place d ≡ Ok x → P x)
    → (place : List ℕ) (d : Data) (xs : List A) → list_of most read place d ≡ Ok xs → (x : A) → Contains xs x → P x
unfolding list_of
list_has P most read h place d xs e =
    let shape = due_parts (fault_at code.WrongShape place) (as_array d) _ xs e in
    let short = check_parts (leb (items_count shape.0) most) (fault_at code.TooMany place) _ xs shape.2 in
    each_has P read h place 0 shape.0 xs short.1

due_has : {A : Type 0} (P : A → Type 0) (read : List ℕ → Data → Result A PolicyFault) → ((place : List ℕ) (d : Data) (x : A) → read place d ≡ Ok x → P x)
    → (place : List ℕ) (o : Option Data) (xs : List A) → list_due read place o ≡ Ok xs → (x : A) → Contains xs x → P x
due_has P read h place None xs e = absurd (cc)
due_has P read h place (Some d) xs e = list_has P LIST_LIMIT read h place d xs e

ports_found : (ill : PolicyCode) (place : List ℕ) (r : Result (List PortRange) PortFault) (ports : List PortRange) → ports_from ill place r ≡ Ok ports → r ≡ Ok ports
ports_found ill place (Ok found) ports e = cc
ports_found ill place (Err fault) ports e = absurd (cc)

dest_ports : (only_all : Bool) (names : Names) (place text : List ℕ) (x : Dest) → dest_at only_all names place text ≡ Ok x → IsPorts x.ports
unfolding dest_at
dest_ports only_all names place text x e =
    let colon = check_parts (list_any is_colon text) (fault_at code.BadPorts place) _ x e in
    let to = bind_parts (selector_at names place (before_last is_colon text)) _ x colon.1 in
    let ports = bind_parts (ports_at code.BadPorts place (after_last is_colon text)) _ x to.2 in
    let star = check_parts (not only_all || bytes_eq (after_last is_colon text) (codes "*")) (fault_at code.PortsForProto place) _ x ports.2 in
    let found = ports_found code.BadPorts place (ports_of_text (after_last is_colon text)) ports.0 ports.1 in
    ok_has (λ (y : Dest). IsPorts y.ports) (record { to = to.0; ports = ports.0 }) x (read_ports (after_last is_colon text) ports.0 found) star.1

dest_text_ports : (only_all : Bool) (names : Names) (place : List ℕ) (d : Data) (x : Dest) → dest_text only_all names place d ≡ Ok x → IsPorts x.ports
unfolding dest_text
dest_text_ports only_all names place d x e =
    let text = due_parts (fault_at code.WrongShape place) (as_str d) _ x e in
    dest_ports only_all names place text.0 x text.2

-- ---- rules

rule_sound : (names : Names) (place : List ℕ) (d : Data) (r : Rule) → rule_at names place d ≡ Ok r → IsSoundRule r
unfolding rule_at
rule_sound names place d r e =
    let ms = due_parts (fault_at code.WrongShape place) (as_object d) _ r e in
    let keys = bind_parts (keys_of place (codes "action" ∷ codes "proto" ∷ codes "src" ∷ codes "users" ∷ codes "dst" ∷ codes "ports" ∷ []) (codes "srcPosture" ∷ []) [] ms.0) _ r ms.2 in
    let action = bind_parts (action_at (under place (codes "action")) (section (codes "action") ms.0)) _ r keys.2 in
    let proto = bind_parts (proto_at (under place (codes "proto")) (section (codes "proto") ms.0)) _ r action.2 in
    let sources = bind_parts (list_due (source_text names) (under place (codes "src")) (section (codes "src") ms.0)) _ r proto.2 in
    let dests = bind_parts (list_due (dest_text (needs_star proto.0) names) (under place (codes "dst")) (section (codes "dst") ms.0)) _ r sources.2 in
    let made : Rule = record { protos = proto.0; sources = sources.0; dests = dests.0 } in
    ok_has IsSoundRule made r (record {
      protos = proto_sound (under place (codes "proto")) (section (codes "proto") ms.0) proto.0 proto.1;
      ports = due_has (λ (x : Dest). IsPorts x.ports) (dest_text (needs_star proto.0) names) (λ at y z f. dest_text_ports (needs_star proto.0) names at y z f) (under place (codes "dst")) (section (codes "dst") ms.0) dests.0 dests.1;
    }) dests.2

-- ---- the rules of grants

protocol_sound : (place text : List ℕ) (p : Option ℕ) → protocol_part place text ≡ Ok p → IsProtos p
protocol_sound place text p e = by_colon (list_any is_colon text) e
  where
    named : Option ℕ
    named = proto_of_text (before_first is_colon text)

    by_colon : (b : Bool) → (if b then or_fault (fault_at code.BadProto place) (option_map Some named) else Ok None) ≡ Ok p → IsProtos p
    by_colon true f = given_proto named p (text_fits (before_first is_colon text)) (fault_parts (fault_at code.BadProto place) (option_map Some named) p f)
    by_colon false f = ok_has IsProtos None p tt f

record IsSoundFlow (flow : Flow) : Type 0 where
  protos : IsProtos flow.protos
  ports : IsPorts flow.ports

flow_sound : (place text : List ℕ) (flow : Flow) → flow_at place text ≡ Ok flow → IsSoundFlow flow
unfolding flow_at
flow_sound place text flow e =
    let proto = bind_parts (protocol_part place text) _ flow e in
    let single = check_parts (not (list_any is_comma (flow_ports text))) (fault_at code.BadPorts place) _ flow proto.2 in
    let ports = bind_parts (ports_at code.BadPorts place (flow_ports text)) _ flow single.1 in
    let star = check_parts (not (needs_star proto.0) || bytes_eq (flow_ports text) (codes "*")) (fault_at code.PortsForProto place) _ flow ports.2 in
    let found = ports_found code.BadPorts place (ports_of_text (flow_ports text)) ports.0 ports.1 in
    ok_has IsSoundFlow (record { protos = proto.0; ports = ports.0 }) flow (record {
      protos = protocol_sound place text proto.0 proto.1;
      ports = read_ports (flow_ports text) ports.0 found;
    }) star.1

flow_text_sound : (names : Names) (place : List ℕ) (d : Data) (flow : Flow) → flow_text names place d ≡ Ok flow → IsSoundFlow flow
unfolding flow_text
flow_text_sound names place d flow e =
    let text = due_parts (fault_at code.WrongShape place) (as_str d) _ flow e in
    flow_sound place text.0 flow text.2

dests_sound : (ports : List PortRange) (tos : List Selector) → IsPorts ports → (x : Dest) → Contains (dests_to ports tos) x → IsPorts x.ports
dests_sound ports [] h x m = absurd (no_member x m)
dests_sound ports (to ∷ tos) h x m = elim (cut_member (record { to = to; ports = ports }) (dests_to ports tos) x m) [
  | inl is ↦ subst (λ (y : Dest). IsPorts y.ports) (sym is) h
  | inr later ↦ dests_sound ports tos h x later
]

-- each rule of the elements of `ip`
flows_sound : (names : Names) (sources tos : List Selector) (place : List ℕ) (n : ℕ) (ds : Items) (flows : List Flow) → each (flow_text names) place n ds ≡ Ok flows → AreSoundRules (map (rule_of_flow sources tos) flows)
flows_sound names sources tos place n no_items flows e = ok_has (λ (xs : List Flow). AreSoundRules (map (rule_of_flow sources tos) xs)) [] flows (λ r m. absurd (no_member r m)) e
flows_sound names sources tos place n (item d ds) flows e =
    let first = bind_parts (flow_text names (indexed place n) d) _ flows e in
    let rest = bind_parts (each (flow_text names) place (n + 1) ds) _ flows first.2 in
    let is = flow_text_sound names (indexed place n) d first.0 first.1 in
    let here : IsSoundRule (rule_of_flow sources tos first.0) = record { protos = is.protos; ports = dests_sound first.0.ports tos is.ports } in
    let behind = flows_sound names sources tos place (n + 1) ds rest.0 rest.1 in
    ok_has (λ (xs : List Flow). AreSoundRules (map (rule_of_flow sources tos) xs)) (first.0 ∷ rest.0) flows
    (λ r m. elim (cut_member (rule_of_flow sources tos first.0) (map (rule_of_flow sources tos) rest.0) r m) [ inl same ↦ subst IsSoundRule (sym same) here | inr later ↦ behind r later ]) rest.2

due_sound : (names : Names) (sources tos : List Selector) (behind : ℕ) (place : List ℕ) (o : Option Data) (flows : List Flow) → flows_due names behind place o ≡ Ok flows → AreSoundRules (map (rule_of_flow sources tos) flows)
unfolding flows_at
due_sound names sources tos behind place None flows e = absurd (cc)
due_sound names sources tos behind place (Some d) flows e =
    let shape = due_parts (fault_at code.WrongShape place) (as_array d) _ flows e in
    let short = check_parts (leb (items_count shape.0) LIST_LIMIT) (fault_at code.TooMany place) _ flows shape.2 in
    let room = check_parts (leb (behind + items_count shape.0) RULE_LIMIT) (fault_at code.TooMany place) _ flows short.1 in
    flows_sound names sources tos place 0 shape.0 flows room.1

both_sound : (before more : List Rule) → AreSoundRules before → AreSoundRules more → AreSoundRules (before ++ more)
both_sound before more h k r m = elim (Contains-append_cases before more r m) [ inl early ↦ h r early | inr later ↦ k r later ]

grant_sound : (names : Names) (before : List Rule) (place : List ℕ) (d : Data) (rules : List Rule) → AreSoundRules before → grant_at names before place d ≡ Ok rules → AreSoundRules rules
unfolding grant_at
grant_sound names before place d rules h e =
    let ms = due_parts (fault_at code.WrongShape place) (as_object d) _ rules e in
    let keys = bind_parts (keys_of place (codes "src" ∷ codes "dst" ∷ codes "ip" ∷ []) (codes "srcPosture" ∷ codes "app" ∷ codes "via" ∷ []) [] ms.0) _ rules ms.2 in
    let sources = bind_parts (list_due (source_text names) (under place (codes "src")) (section (codes "src") ms.0)) _ rules keys.2 in
    let tos = bind_parts (list_due (selector_text names) (under place (codes "dst")) (section (codes "dst") ms.0)) _ rules sources.2 in
    let flows = bind_parts (flows_due names (length before) (under place (codes "ip")) (section (codes "ip") ms.0)) _ rules tos.2 in
    let more = due_sound names sources.0 tos.0 (length before) (under place (codes "ip")) (section (codes "ip") ms.0) flows.0 flows.1 in
    ok_has AreSoundRules (before ++ map (rule_of_flow sources.0 tos.0) flows.0) rules (both_sound before (map (rule_of_flow sources.0 tos.0) flows.0) h more) flows.2

onto_sound : (names : Names) (before : List Rule) (place : List ℕ) (n : ℕ) (ds : Items) (rules : List Rule) → AreSoundRules before → grants_onto names before place n ds ≡ Ok rules → AreSoundRules rules
onto_sound names before place n no_items rules h e = ok_has AreSoundRules before rules h e
onto_sound names before place n (item d ds) rules h e =
    let first = bind_parts (grant_at names before (indexed place n) d) _ rules e in
    onto_sound names first.0 place (n + 1) ds rules (grant_sound names before (indexed place n) d first.0 h first.1) first.2

with_sound : (names : Names) (before : List Rule) (o : Option Data) (rules : List Rule) → AreSoundRules before → with_grants names before o ≡ Ok rules → AreSoundRules rules
unfolding grants_at
with_sound names before None rules h e = ok_has AreSoundRules before rules h e
with_sound names before (Some d) rules h e =
    let shape = due_parts (fault_at code.WrongShape (codes "grants")) (as_array d) _ rules e in
    let short = check_parts (leb (items_count shape.0) ENTRY_LIMIT) (fault_at code.TooMany (codes "grants")) _ rules shape.2 in
    onto_sound names before (codes "grants") 0 shape.0 rules h short.1

-- ---- the section

-- without rules everything goes through
all_ports : IsPorts (record { first = 0; last = 65535 } ∷ [])
all_ports = record { some = omega arith; apart = (omega arith, omega arith, omega arith, tt) }

open_ports : (x : Dest) → Contains open_rule.dests x → IsPorts x.ports
open_ports x m = elim (cut_member open_dest [] x m) [
  | inl is ↦ subst (λ (y : Dest). IsPorts y.ports) (sym is) all_ports
  | inr none ↦ absurd (no_member x none)
]

pub open_sound : AreSoundRules (open_rule ∷ [])
open_sound r m = elim (cut_member open_rule [] r m) [
  | inl is ↦ subst IsSoundRule (sym is) (record { protos = tt; ports = open_ports })
  | inr none ↦ absurd (no_member r none)
]

section_sound : (names : Names) (acls grants : Option Data) (rules : Option (List Rule)) → rules_section names acls grants ≡ Ok rules → AreSoundRules (rules_or_open rules)
section_sound names None None rules e = ok_has (λ (rs : Option (List Rule)). AreSoundRules (rules_or_open rs)) None rules open_sound e
section_sound names None (Some g) rules e =
    let parts = bind_parts (grants_at names [] (codes "grants") g) _ rules e in
    ok_has (λ (rs : Option (List Rule)). AreSoundRules (rules_or_open rs)) (Some parts.0) rules
    (with_sound names [] (Some g) parts.0 (λ r m. absurd (no_member r m)) parts.1) parts.2
section_sound names (Some d) grants rules e =
    let parts = bind_parts (list_of RULE_LIMIT (rule_at names) (codes "acls") d) _ rules e in
    let whole = bind_parts (with_grants names parts.0 grants) _ rules parts.2 in
    let before = list_has IsSoundRule RULE_LIMIT (rule_at names) (λ at x r f. rule_sound names at x r f) (codes "acls") d parts.0 parts.1 in
    ok_has (λ (rs : Option (List Rule)). AreSoundRules (rules_or_open rs)) (Some whole.0) rules (with_sound names parts.0 grants whole.0 before whole.1) whole.2

value_rules : (d : Data) (p : Policy) → policy_of d ≡ Ok p → AreSoundRules (rules_of (Some p))
unfolding policy_of
value_rules d p e =
    let ms = due_parts (fault_at code.NotObject (codes "top")) (as_object d) _ p e in
    let keys = bind_parts (top_keys_of ms.0) _ p ms.2 in
    let names = bind_parts (names_of ms.0) _ p keys.2 in
    let rules = bind_parts (rules_section names.0 (section (codes "acls") ms.0) (section (codes "grants") ms.0)) _ p names.2 in
    let approvers = bind_parts (approvers_or_none names.0 (section (codes "autoApprovers") ms.0)) _ p rules.2 in
    let tests = bind_parts (tests_section names.0 (section (codes "tests") ms.0)) _ p approvers.2 in
    ok_has (λ (q : Policy). AreSoundRules (rules_of (Some q))) (policy_from names.0 rules.0 approvers.0 tests.0) p
    (section_sound names.0 (section (codes "acls") ms.0) (section (codes "grants") ms.0) rules.0 rules.1) tests.2

pub policy_rules : (text : List ℕ) (p : Policy) → policy_of_text text ≡ Ok p → AreSoundRules (rules_of (Some p))
unfolding policy_of_text
policy_rules text p e =
    let short = check_parts (leb (length text) POLICY_LIMIT) (fault_at code.TooMany (codes "text")) _ p e in
    let standard = bind_parts (standard_at text) _ p short.1 in
    let value = bind_parts (json_at standard.0) _ p standard.2 in
    value_rules value.0 p value.2
