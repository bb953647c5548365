-- A policy's fault is that of the first check that fails.
use Rattle.std.proofs.Common.{◌≡◌, ◌+◌, ◌++◌, ℕ, Bool, true, false, List, [], ◌∷◌, length, map, Option, Some, None, Result, Ok, Err, is_none, is_ok, is_some, cond, leb, option_and_then, refl, sym, ap, subst, ◌∙◌}
use Rattle.std.specs.Prelude.{codes, ◌&&◌}
use Rattle.std.specs.List.{list_all}
use Rattle.std.specs.Option.{option_map}
use Rattle.std.specs.Str.{bytes_eq, is_utf8}
use Rattle.serde_json.specs.Data.{Data, Items, no_items, item, Members}
use Rattle.serde_json.specs.Find.{as_array, as_object, as_str}
use Rattle.serde_json.specs.Read.{read}
use Rattle.hujson_read.specs.declared.fault.HujsonFault.{HujsonFault}
use Rattle.hujson_read.specs.Standard.{fault_of, standard_of}
use Rattle.tail_base.specs.Steps.{◌>>=◌, or_fault, refuse_unless}
use Rattle.tail_base.specs.declared.limits.TheConstants.{POLICY_LIMIT}
use Rattle.policy_rows.specs.declared.code.PolicyCode.{PolicyCode}
use Rattle.policy_rows.specs.declared.code.PolicyCode.TheVariants as code
use Rattle.policy_rows.specs.declared.approver.Approver.{Approver}
use Rattle.policy_rows.specs.declared.selector.Selector.{Selector}
use Rattle.policy_rows.specs.declared.fault.PolicyFault.{PolicyFault}
use Rattle.policy_rows.specs.declared.names.Names.{Names}
use Rattle.policy_rows.specs.declared.policy.Policy.{Policy}
use Rattle.policy_rows.specs.declared.rule.Rule.{Rule}
use Rattle.policy_rows.specs.declared.test.Test.{Test}
use Rattle.policy_rows.specs.Dests.{needs_star}
use Rattle.policy_rows.specs.Faults.{fault_at, indexed, under}
use Rattle.policy_rows.specs.Names.{no_names}
use Rattle.policy_rows.specs.Selectors.{test_end_at}
use Rattle.policy_doc.specs.declared.limits.TheConstants.{ENTRY_LIMIT, LIST_LIMIT, RULE_LIMIT}
use Rattle.policy_laws.specs.Checks.{Check, due_checks, each_checks, failing, fault_in, first_failing, key_checks, list_checks, must, object_checks, object_due, is_met, of_read, of_some, read_or, readable, text_checks}
use Rattle.policy_doc.specs.Document.{approvers_at, approvers_or_none, json_at, names_of, policy_from, policy_of, policy_of_text, rules_section, standard_at, standard_or, tests_section, top_keys, top_keys_of, unsupported_keys}
use Rattle.policy_doc.specs.Entries.{approver_text, group_entry, host_entry, route_entry, tag_entry}
use Rattle.policy_laws.specs.EntryChecks.{approver_checks, dest_checks, flow_checks, group_checks, host_checks, route_checks, selector_checks, source_checks, tag_checks, test_dest_checks, test_end_checks}
use Rattle.policy_doc.specs.Grants.{flow_text, flows_at, flows_due, grant_at, grants_at, grants_onto, rule_of_flow, selector_text, with_grants}
use Rattle.policy_doc.specs.Keys.{keys_of, section}
use Rattle.policy_doc.specs.Rules.{action_at, dest_text, list_due, proto_at, proto_of, rule_at, source_text, subject_at, test_at, test_dest_text}
use Rattle.policy_laws.specs.TextChecks.{acl_rules, action_checks, approver_members, approvers_checks, checks_of_text, flows_checks, grant_members, grants_checks, grants_each, names_checks, owner_names, proto_checks, rule_checks, rule_members, rules_checks, sections_checks, subject_checks, syntax_check, test_checks, test_dests, test_members, value_checks}
use Rattle.policy_doc.specs.Walks.{each, items_count, list_of, object_of, optional, or_empty}
use Rattle.policy_laws.proofs.CheckLemmas.{IsAt, IsChecked, at_due, bind_checked, due_checked, due_then, each_checked, keys_checked, last_checked, list_checked, list_due_checked, must_checked, must_then, object_checked, object_then, ok_checked, read_checked, read_then, some_checked, text_then}
use Rattle.policy_laws.proofs.EntryCheckLemmas.{approver_text_checked, dest_text_checked, flow_text_checked, group_checked, host_checked, read_is, route_checked, selector_text_checked, source_text_checked, tag_checked, test_dest_text_checked, test_end_checked}

-- ---- rules and tests

action_checked : (place : List ℕ) (o : Option Data) → IsChecked (action_at place o) (action_checks place o)
action_checked place o =
    due_then (option_and_then as_str o) code.BadAction place (λ text. refuse_unless (bytes_eq text (codes "accept")) (fault_at code.BadAction place))
    (λ text. must (bytes_eq text (codes "accept")) code.BadAction place ∷ [])
    (λ text. must_checked (bytes_eq text (codes "accept")) code.BadAction place)

proto_of_checked : (place : List ℕ) (o : Option ℕ) → IsChecked (or_fault (fault_at code.BadProto place) (option_map Some o)) (must (is_some o) code.BadProto place ∷ [])
proto_of_checked place None = record { is = refl }
proto_of_checked place (Some n) = record { is = refl }

proto_checked : (place : List ℕ) (o : Option Data) → IsChecked (proto_at place o) (proto_checks place o)
unfolding proto_at
proto_checked place None = record { is = refl }
proto_checked place (Some d) = proto_of_checked place (proto_of d)

rule_members_checked : (names : Names) (place : List ℕ) (ms : Members)
    → IsChecked {A = Rule} (keys_of place (codes "action" ∷ codes "proto" ∷ codes "src" ∷ codes "users" ∷ codes "dst" ∷ codes "ports" ∷ []) (codes "srcPosture" ∷ []) [] ms >>= (λ _.
    action_at (under place (codes "action")) (section (codes "action") ms) >>= (λ _.
    proto_at (under place (codes "proto")) (section (codes "proto") ms) >>= (λ proto.
    list_due (source_text names) (under place (codes "src")) (section (codes "src") ms) >>= (λ sources.
    list_due (dest_text (needs_star proto) names) (under place (codes "dst")) (section (codes "dst") ms) >>= (λ dests.
    Ok (record { protos = proto; sources = sources; dests = dests }))))))) (rule_members names place ms)
rule_members_checked names place ms =
    let known = codes "action" ∷ codes "proto" ∷ codes "src" ∷ codes "users" ∷ codes "dst" ∷ codes "ports" ∷ [] in
    let at_action = under place (codes "action") in
    let at_proto = under place (codes "proto") in
    let at_src = under place (codes "src") in
    let at_dst = under place (codes "dst") in
    let proto = proto_at at_proto (section (codes "proto") ms) in
    let src = due_checks (λ at x. text_checks (source_checks names at) at x) at_src (section (codes "src") ms) in
    let dst_of = λ (p : Option ℕ). due_checks (λ at x. text_checks (dest_checks (needs_star p) names at) at x) at_dst (section (codes "dst") ms) in
    let dst = dst_of (read_or None proto) in
    bind_checked (keys_of place known (codes "srcPosture" ∷ []) [] ms) _ (key_checks place known (codes "srcPosture" ∷ []) [] ms)
    (action_checks at_action (section (codes "action") ms) ++ (proto_checks at_proto (section (codes "proto") ms) ++ (src ++ dst)))
    (keys_checked place known (codes "srcPosture" ∷ []) [] ms)
    (λ _ _. bind_checked (action_at at_action (section (codes "action") ms)) _ (action_checks at_action (section (codes "action") ms))
    (proto_checks at_proto (section (codes "proto") ms) ++ (src ++ dst)) (action_checked at_action (section (codes "action") ms))
    (λ _ _. bind_checked proto _ (proto_checks at_proto (section (codes "proto") ms)) (src ++ dst) (proto_checked at_proto (section (codes "proto") ms))
    (λ p is. bind_checked (list_due (source_text names) at_src (section (codes "src") ms)) _ src dst
    (list_due_checked (source_text names) (λ at x. text_checks (source_checks names at) at x) (source_text_checked names) at_src (section (codes "src") ms))
    (λ sources _. last_checked (list_due (dest_text (needs_star p) names) at_dst (section (codes "dst") ms)) (λ dests. record { protos = p; sources = sources; dests = dests }) dst
    (subst (λ q. IsChecked (list_due (dest_text (needs_star p) names) at_dst (section (codes "dst") ms)) (dst_of q)) (read_is proto None p is)
    (list_due_checked (dest_text (needs_star p) names) (λ at x. text_checks (dest_checks (needs_star p) names at) at x) (dest_text_checked (needs_star p) names) at_dst (section (codes "dst") ms)))))))

rule_checked : (names : Names) (place : List ℕ) (d : Data) → IsChecked (rule_at names place d) (rule_checks names place d)
unfolding rule_at
rule_checked names place d = object_then place d _ (rule_members names place) (rule_members_checked names place)

subject_checked : (names : Names) (place : List ℕ) (o : Option Data) → IsChecked (subject_at names place o) (subject_checks names place o)
subject_checked names place None = record { is = refl }
subject_checked names place (Some d) = record { is = (text_then place d (test_end_at names place) (test_end_checks names place) (test_end_checked names place)).is }

test_dests_checked : (names : Names) (place : List ℕ) (o : Option Data) → IsChecked (or_empty (list_of LIST_LIMIT (test_dest_text names) place) o) (test_dests names place o)
test_dests_checked names place o =
    some_checked (list_of LIST_LIMIT (test_dest_text names) place) (list_checks LIST_LIMIT (λ at x. text_checks (test_dest_checks names at) at x) place)
    (list_checked LIST_LIMIT (test_dest_text names) (λ at x. text_checks (test_dest_checks names at) at x) (test_dest_text_checked names) place) o

test_members_checked : (names : Names) (place : List ℕ) (ms : Members)
    → IsChecked {A = Test} (keys_of place (codes "src" ∷ codes "proto" ∷ codes "accept" ∷ codes "deny" ∷ []) (codes "srcPostureAttrs" ∷ []) [] ms >>= (λ _.
    proto_at (under place (codes "proto")) (section (codes "proto") ms) >>= (λ proto.
    subject_at names (under place (codes "src")) (section (codes "src") ms) >>= (λ subject.
    or_empty (list_of LIST_LIMIT (test_dest_text names) (under place (codes "accept"))) (section (codes "accept") ms) >>= (λ accept.
    or_empty (list_of LIST_LIMIT (test_dest_text names) (under place (codes "deny"))) (section (codes "deny") ms) >>= (λ deny.
    Ok (record { subject = subject; proto = proto; accept = accept; deny = deny }))))))) (test_members names place ms)
test_members_checked names place ms =
    let known = codes "src" ∷ codes "proto" ∷ codes "accept" ∷ codes "deny" ∷ [] in
    let at_proto = under place (codes "proto") in
    let at_src = under place (codes "src") in
    let at_accept = under place (codes "accept") in
    let at_deny = under place (codes "deny") in
    let accepts = test_dests names at_accept (section (codes "accept") ms) in
    let denies = test_dests names at_deny (section (codes "deny") ms) in
    let subjects = subject_checks names at_src (section (codes "src") ms) in
    bind_checked (keys_of place known (codes "srcPostureAttrs" ∷ []) [] ms) _ (key_checks place known (codes "srcPostureAttrs" ∷ []) [] ms)
    (proto_checks at_proto (section (codes "proto") ms) ++ (subjects ++ (accepts ++ denies))) (keys_checked place known (codes "srcPostureAttrs" ∷ []) [] ms)
    (λ _ _. bind_checked (proto_at at_proto (section (codes "proto") ms)) _ (proto_checks at_proto (section (codes "proto") ms)) (subjects ++ (accepts ++ denies)) (proto_checked at_proto (section (codes "proto") ms))
    (λ proto _. bind_checked (subject_at names at_src (section (codes "src") ms)) _ subjects (accepts ++ denies) (subject_checked names at_src (section (codes "src") ms))
    (λ subject _. bind_checked (or_empty (list_of LIST_LIMIT (test_dest_text names) at_accept) (section (codes "accept") ms)) _ accepts denies (test_dests_checked names at_accept (section (codes "accept") ms))
    (λ accept _. last_checked (or_empty (list_of LIST_LIMIT (test_dest_text names) at_deny) (section (codes "deny") ms)) (λ deny. record { subject = subject; proto = proto; accept = accept; deny = deny }) denies
    (test_dests_checked names at_deny (section (codes "deny") ms))))))

test_checked : (names : Names) (place : List ℕ) (d : Data) → IsChecked (test_at names place d) (test_checks names place d)
unfolding test_at
test_checked names place d = object_then place d _ (test_members names place) (test_members_checked names place)

-- ---- grants

flows_checked : (names : Names) (behind : ℕ) (place : List ℕ) (d : Data) → IsChecked (flows_at names behind place d) (flows_checks behind place d)
unfolding flows_at
flows_checked names behind place d =
    due_then (as_array d) code.WrongShape place _
    (λ ds.
    must (leb (items_count ds) LIST_LIMIT) code.TooMany place
    ∷ must (leb (behind + items_count ds) RULE_LIMIT) code.TooMany place
    ∷ each_checks (λ at x. text_checks (flow_checks at) at x) place 0 ds)
    (λ ds. must_then (leb (items_count ds) LIST_LIMIT) code.TooMany place _
    (must (leb (behind + items_count ds) RULE_LIMIT) code.TooMany place ∷ each_checks (λ at x. text_checks (flow_checks at) at x) place 0 ds)
    (must_then (leb (behind + items_count ds) RULE_LIMIT) code.TooMany place (λ _. each (flow_text names) place 0 ds)
    (each_checks (λ at x. text_checks (flow_checks at) at x) place 0 ds)
    (each_checked (flow_text names) (λ at x. text_checks (flow_checks at) at x) (flow_text_checked names) place 0 ds)))

flows_due_checked : (names : Names) (behind : ℕ) (place : List ℕ) (o : Option Data)
    → IsChecked (flows_due names behind place o) (must (is_some o) code.WrongShape place ∷ of_some o (flows_checks behind place))
flows_due_checked names behind place None = record { is = refl }
flows_due_checked names behind place (Some d) = record { is = (flows_checked names behind place d).is }

grant_members_checked : (names : Names) (before : List Rule) (place : List ℕ) (ms : Members)
    → IsChecked (keys_of place (codes "src" ∷ codes "dst" ∷ codes "ip" ∷ []) (codes "srcPosture" ∷ codes "app" ∷ codes "via" ∷ []) [] ms >>= (λ _.
    list_due (source_text names) (under place (codes "src")) (section (codes "src") ms) >>= (λ sources.
    list_due (selector_text names) (under place (codes "dst")) (section (codes "dst") ms) >>= (λ tos.
    flows_due names (length before) (under place (codes "ip")) (section (codes "ip") ms) >>= (λ flows.
    Ok (before ++ map (rule_of_flow sources tos) flows)))))) (grant_members names (length before) place ms)
grant_members_checked names before place ms =
    let known = codes "src" ∷ codes "dst" ∷ codes "ip" ∷ [] in
    let refused = codes "srcPosture" ∷ codes "app" ∷ codes "via" ∷ [] in
    let at_src = under place (codes "src") in
    let at_dst = under place (codes "dst") in
    let at_ip = under place (codes "ip") in
    let src = due_checks (λ at x. text_checks (source_checks names at) at x) at_src (section (codes "src") ms) in
    let dst = due_checks (λ at x. text_checks (selector_checks names at) at x) at_dst (section (codes "dst") ms) in
    let flows = must (is_some (section (codes "ip") ms)) code.WrongShape at_ip ∷ of_some (section (codes "ip") ms) (flows_checks (length before) at_ip) in
    bind_checked (keys_of place known refused [] ms) _ (key_checks place known refused [] ms) (src ++ (dst ++ flows)) (keys_checked place known refused [] ms)
    (λ _ _. bind_checked (list_due (source_text names) at_src (section (codes "src") ms)) _ src (dst ++ flows)
    (list_due_checked (source_text names) (λ at x. text_checks (source_checks names at) at x) (source_text_checked names) at_src (section (codes "src") ms))
    (λ sources _. bind_checked (list_due (selector_text names) at_dst (section (codes "dst") ms)) _ dst flows
    (list_due_checked (selector_text names) (λ at x. text_checks (selector_checks names at) at x) (selector_text_checked names) at_dst (section (codes "dst") ms))
    (λ tos _. last_checked (flows_due names (length before) at_ip (section (codes "ip") ms)) (λ found. before ++ map (rule_of_flow sources tos) found) flows
    (flows_due_checked names (length before) at_ip (section (codes "ip") ms)))))

grant_checked : (names : Names) (before : List Rule) (place : List ℕ) (d : Data) → IsChecked (grant_at names before place d) (object_due (grant_members names (length before) place) place d)
unfolding grant_at
grant_checked names before place d = object_then place d _ (grant_members names (length before) place) (grant_members_checked names before place)

grants_onto_checked : (names : Names) (before : List Rule) (place : List ℕ) (n : ℕ) (ds : Items) → IsChecked (grants_onto names before place n ds) (grants_each names before place n ds)
grants_onto_checked names before place n no_items = record { is = refl }
grants_onto_checked names before place n (item d ds) =
    let at = indexed place n in
    bind_checked (grant_at names before at d) (λ rules. grants_onto names rules place (n + 1) ds) (object_due (grant_members names (length before) at) at d)
    (grants_each names (read_or before (grant_at names before at d)) place (n + 1) ds) (grant_checked names before at d)
    (λ rules is. subst (λ rs. IsChecked (grants_onto names rules place (n + 1) ds) (grants_each names rs place (n + 1) ds)) (read_is (grant_at names before at d) before rules is)
    (grants_onto_checked names rules place (n + 1) ds))

grants_checked : (names : Names) (before : List Rule) (place : List ℕ) (d : Data) → IsChecked (grants_at names before place d) (grants_checks names before place d)
unfolding grants_at
grants_checked names before place d =
    due_then (as_array d) code.WrongShape place _
    (λ ds. must (leb (items_count ds) ENTRY_LIMIT) code.TooMany place ∷ grants_each names before place 0 ds)
    (λ ds. must_then (leb (items_count ds) ENTRY_LIMIT) code.TooMany place (λ _. grants_onto names before place 0 ds) (grants_each names before place 0 ds) (grants_onto_checked names before place 0 ds))

-- ---- sections

with_grants_checked : (names : Names) (before : List Rule) (o : Option Data) → IsChecked (with_grants names before o) (of_some o (grants_checks names before (codes "grants")))
with_grants_checked names before None = record { is = refl }
with_grants_checked names before (Some d) = grants_checked names before (codes "grants") d

grants_alone : (names : Names) (o : Option Data) → IsChecked (optional (grants_at names [] (codes "grants")) o) (of_some o (grants_checks names [] (codes "grants")))
grants_alone names None = record { is = refl }
grants_alone names (Some d) =
    last_checked (grants_at names [] (codes "grants") d) (λ rules. Some rules) (grants_checks names [] (codes "grants") d) (grants_checked names [] (codes "grants") d)

rules_checked : (names : Names) (acls grants : Option Data) → IsChecked (rules_section names acls grants) (rules_checks names acls grants)
rules_checked names None grants = grants_alone names grants
rules_checked names (Some acls) grants =
    let read = list_of RULE_LIMIT (rule_at names) (codes "acls") acls in
    bind_checked read _ (list_checks RULE_LIMIT (rule_checks names) (codes "acls") acls) (of_some grants (grants_checks names (read_or [] read) (codes "grants")))
    (list_checked RULE_LIMIT (rule_at names) (rule_checks names) (rule_checked names) (codes "acls") acls)
    (λ before is. subst (λ rs. IsChecked (with_grants names before grants >>= (λ rules. Ok (Some rules))) (of_some grants (grants_checks names rs (codes "grants")))) (read_is read [] before is)
    (last_checked (with_grants names before grants) (λ rules. Some rules) (of_some grants (grants_checks names before (codes "grants"))) (with_grants_checked names before grants)))

approver_members_checked : {A : Type 0} (made : List Selector → List Approver → A) (names : Names) (place : List ℕ) (ms : Members)
    → IsChecked (keys_of place (codes "exitNode" ∷ codes "routes" ∷ []) (codes "services" ∷ []) [] ms >>= (λ _.
    or_empty (list_of LIST_LIMIT (approver_text names) (under place (codes "exitNode"))) (section (codes "exitNode") ms) >>= (λ exit.
    or_empty (object_of ENTRY_LIMIT (route_entry names) (under place (codes "routes"))) (section (codes "routes") ms) >>= (λ routes.
    Ok (made exit routes))))) (approver_members names place ms)
approver_members_checked made names place ms =
    let known = codes "exitNode" ∷ codes "routes" ∷ [] in
    let at_exit = under place (codes "exitNode") in
    let at_routes = under place (codes "routes") in
    let exits = of_some (section (codes "exitNode") ms) (list_checks LIST_LIMIT (λ at x. text_checks (approver_checks names at) at x) at_exit) in
    let routes = of_some (section (codes "routes") ms) (object_checks ENTRY_LIMIT (route_entry names) (route_checks names) at_routes) in
    bind_checked (keys_of place known (codes "services" ∷ []) [] ms) _ (key_checks place known (codes "services" ∷ []) [] ms) (exits ++ routes) (keys_checked place known (codes "services" ∷ []) [] ms)
    (λ _ _. bind_checked (or_empty (list_of LIST_LIMIT (approver_text names) at_exit) (section (codes "exitNode") ms)) _ exits routes
    (some_checked (list_of LIST_LIMIT (approver_text names) at_exit) (list_checks LIST_LIMIT (λ at x. text_checks (approver_checks names at) at x) at_exit)
    (list_checked LIST_LIMIT (approver_text names) (λ at x. text_checks (approver_checks names at) at x) (approver_text_checked names) at_exit) (section (codes "exitNode") ms))
    (λ exit _. last_checked (or_empty (object_of ENTRY_LIMIT (route_entry names) at_routes) (section (codes "routes") ms)) (λ found. made exit found) routes
    (some_checked (object_of ENTRY_LIMIT (route_entry names) at_routes) (object_checks ENTRY_LIMIT (route_entry names) (route_checks names) at_routes)
    (object_checked ENTRY_LIMIT (route_entry names) (route_checks names) (route_checked names) at_routes) (section (codes "routes") ms))))

approvers_checked : (names : Names) (o : Option Data) → IsChecked (approvers_or_none names o) (approvers_checks names o)
approvers_checked names None = record { is = refl }
approvers_checked names (Some d) =
    object_then (codes "autoApprovers") d _ (approver_members names (codes "autoApprovers")) (approver_members_checked _ names (codes "autoApprovers"))

names_checked : (ms : Members) → IsChecked (names_of ms) (names_checks ms)
unfolding names_of
names_checked ms =
    let groups_read = or_empty (object_of ENTRY_LIMIT (group_entry no_names) (codes "groups")) (section (codes "groups") ms) in
    let hosts_read = or_empty (object_of RULE_LIMIT (host_entry no_names) (codes "hosts")) (section (codes "hosts") ms) in
    let groups_all = of_some (section (codes "groups") ms) (object_checks ENTRY_LIMIT (group_entry no_names) (λ before. group_checks) (codes "groups")) in
    let hosts_all = of_some (section (codes "hosts") ms) (object_checks RULE_LIMIT (host_entry no_names) (λ before. host_checks) (codes "hosts")) in
    let tags_with = λ (names : Names). of_some (section (codes "tagOwners") ms) (object_checks ENTRY_LIMIT (tag_entry names) (λ before. tag_checks names) (codes "tagOwners")) in
    let tags_read = λ (names : Names). or_empty (object_of ENTRY_LIMIT (tag_entry names) (codes "tagOwners")) (section (codes "tagOwners") ms) in
    bind_checked groups_read _ groups_all (hosts_all ++ tags_with (owner_names ms))
    (some_checked (object_of ENTRY_LIMIT (group_entry no_names) (codes "groups")) (object_checks ENTRY_LIMIT (group_entry no_names) (λ before. group_checks) (codes "groups"))
    (object_checked ENTRY_LIMIT (group_entry no_names) (λ before. group_checks) (group_checked no_names) (codes "groups")) (section (codes "groups") ms))
    (λ groups got. bind_checked hosts_read _ hosts_all (tags_with (owner_names ms))
    (some_checked (object_of RULE_LIMIT (host_entry no_names) (codes "hosts")) (object_checks RULE_LIMIT (host_entry no_names) (λ before. host_checks) (codes "hosts"))
    (object_checked RULE_LIMIT (host_entry no_names) (λ before. host_checks) (host_checked no_names) (codes "hosts")) (section (codes "hosts") ms))
    (λ hosts had.
    let owners : Names = record { groups = groups; hosts = hosts; tags = [] } in
    let same : owners ≡ owner_names ms = λ i. record { groups = read_is groups_read [] groups got i; hosts = read_is hosts_read [] hosts had i; tags = [] } in
    last_checked (tags_read owners) (λ tags. record { groups = groups; hosts = hosts; tags = tags }) (tags_with (owner_names ms))
    (subst (λ names. IsChecked (tags_read owners) (tags_with names)) same
    (some_checked (object_of ENTRY_LIMIT (tag_entry owners) (codes "tagOwners")) (object_checks ENTRY_LIMIT (tag_entry owners) (λ before. tag_checks owners) (codes "tagOwners"))
    (object_checked ENTRY_LIMIT (tag_entry owners) (λ before. tag_checks owners) (tag_checked owners) (codes "tagOwners")) (section (codes "tagOwners") ms)))))

sections_checked : (names : Names) (ms : Members)
    → IsChecked (rules_section names (section (codes "acls") ms) (section (codes "grants") ms) >>= (λ rules.
    approvers_or_none names (section (codes "autoApprovers") ms) >>= (λ approvers.
    tests_section names (section (codes "tests") ms) >>= (λ tests.
    Ok (policy_from names rules approvers tests))))) (sections_checks names ms)
sections_checked names ms =
    let approvers = approvers_checks names (section (codes "autoApprovers") ms) in
    let tests = of_some (section (codes "tests") ms) (list_checks ENTRY_LIMIT (test_checks names) (codes "tests")) in
    bind_checked (rules_section names (section (codes "acls") ms) (section (codes "grants") ms)) _ (rules_checks names (section (codes "acls") ms) (section (codes "grants") ms)) (approvers ++ tests)
    (rules_checked names (section (codes "acls") ms) (section (codes "grants") ms))
    (λ rules _. bind_checked (approvers_or_none names (section (codes "autoApprovers") ms)) _ approvers tests (approvers_checked names (section (codes "autoApprovers") ms))
    (λ found _. last_checked (tests_section names (section (codes "tests") ms)) (λ read. policy_from names rules found read) tests
    (some_checked (list_of ENTRY_LIMIT (test_at names) (codes "tests")) (list_checks ENTRY_LIMIT (test_checks names) (codes "tests"))
    (list_checked ENTRY_LIMIT (test_at names) (test_checks names) (test_checked names) (codes "tests")) (section (codes "tests") ms))))

-- ---- the text

value_checked : (d : Data) → IsChecked (policy_of d) (value_checks d)
unfolding policy_of
value_checked d =
    due_then (as_object d) code.NotObject (codes "top") _
    (λ ms. key_checks [] top_keys unsupported_keys [] ms ++ (names_checks ms ++ sections_checks (read_or no_names (names_of ms)) ms))
    (λ ms. bind_checked (top_keys_of ms) _ (key_checks [] top_keys unsupported_keys [] ms) (names_checks ms ++ sections_checks (read_or no_names (names_of ms)) ms)
    (keys_checked [] top_keys unsupported_keys [] ms)
    (λ _ _. bind_checked (names_of ms) _ (names_checks ms) (sections_checks (read_or no_names (names_of ms)) ms) (names_checked ms)
    (λ names is. subst (λ named. IsChecked (rules_section names (section (codes "acls") ms) (section (codes "grants") ms) >>= (λ rules.
    approvers_or_none names (section (codes "autoApprovers") ms) >>= (λ approvers.
    tests_section names (section (codes "tests") ms) >>= (λ tests.
    Ok (policy_from names rules approvers tests))))) (sections_checks named ms)) (read_is (names_of ms) no_names names is) (sections_checked names ms))))

syntax_then : {B : Type 0} (standard : List ℕ) (o : Option HujsonFault) (k : List ℕ → Result B PolicyFault) (f : List ℕ → List Check) → ((x : List ℕ) → IsChecked (k x) (f x))
    → IsChecked (standard_or standard o >>= k) (syntax_check o ∷ of_read (standard_or standard o) f)
syntax_then standard None k f h = record { is = (h standard).is }
syntax_then standard (Some first) k f h = record { is = refl }

text_checked : (text : List ℕ) → IsChecked (policy_of_text text) (checks_of_text text)
unfolding policy_of_text checks_of_text
text_checked text =
    must_then (leb (length text) POLICY_LIMIT) code.TooMany (codes "text") _
    (syntax_check (fault_of text) ∷ of_read (standard_at text) (λ standard. readable (codes "json") (json_at standard) ∷ of_read (json_at standard) value_checks))
    (syntax_then (standard_of text) (fault_of text) _ (λ standard. readable (codes "json") (json_at standard) ∷ of_read (json_at standard) value_checks)
    (λ standard. read_then (codes "json") (json_at standard) policy_of value_checks (at_due (codes "json") code.Syntax (cond (is_utf8 standard) (read standard) None)) value_checked))

pub first_check : (text : List ℕ) → fault_in (policy_of_text text) ≡ first_failing (checks_of_text text)
first_check text = (text_checked text).is

-- ---- where none fails

all_at : (place : List ℕ) (wrong : Option PolicyCode) (rest : Option PolicyFault) (b : Bool) → is_none rest ≡ b → is_none (failing place wrong rest) ≡ (is_none wrong && b)
all_at place None rest b h = h
all_at place (Some code) rest b h = refl

none_fails : (cs : List Check) → is_none (first_failing cs) ≡ list_all is_met cs
none_fails [] = refl
none_fails (c ∷ cs) = all_at c.place c.wrong (first_failing cs) (list_all is_met cs) (none_fails cs)

ok_is : (r : Result Policy PolicyFault) → is_ok r ≡ is_none (fault_in r)
ok_is (Ok p) = refl
ok_is (Err fault) = refl

pub policy_where : (text : List ℕ) → is_ok (policy_of_text text) ≡ list_all is_met (checks_of_text text)
policy_where text = ok_is (policy_of_text text) ∙ ap is_none (first_check text) ∙ none_fails (checks_of_text text)
