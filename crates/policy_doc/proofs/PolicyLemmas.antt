-- What holds of each policy that was read.
use Rattle.std.proofs.Common.{◌≡◌, ◌≤◌, ℕ, Bool, true, ◌&&◌, ◌||◌, List, [], ◌∷◌, Option, Some, None, Result, Ok, length, leb, ltb, arith, refl}
use Rattle.std.specs.Prelude.{codes, not}
use Rattle.std.specs.List.{list_all}
use Rattle.serde_json.specs.Data.{Data, Members}
use Rattle.serde_json.specs.Find.{as_object}
use Rattle.policy_rows.specs.declared.approver.Approver.{Approver}
use Rattle.policy_rows.specs.declared.code.PolicyCode.TheVariants as code
use Rattle.policy_rows.specs.declared.fault.PolicyFault.{PolicyFault}
use Rattle.policy_rows.specs.declared.names.Names.{Names}
use Rattle.policy_rows.specs.declared.policy.Policy.{Policy}
use Rattle.policy_rows.specs.declared.rule.Rule.{Rule}
use Rattle.policy_rows.specs.declared.selector.Selector.{Selector}
use Rattle.policy_rows.specs.declared.test.Test.{Test}
use Rattle.policy_rows.specs.Dests.{is_one_port, needs_star}
use Rattle.policy_rows.specs.Faults.{fault_at, under}
use Rattle.policy_rows.specs.Names.{no_names}
use Rattle.policy_rows.specs.Selectors.{is_approver, is_source}
use Rattle.policy_doc.specs.declared.approvers.Approvers.{Approvers}
use Rattle.policy_doc.specs.declared.limits.TheConstants.{ENTRY_LIMIT, LIST_LIMIT, RULE_LIMIT}
use Rattle.tail_base.specs.declared.limits.TheConstants.{POLICY_LIMIT}
use Rattle.policy_doc.specs.Document.{approvers_or_none, json_at, names_of, policy_from, policy_of, policy_of_text, rules_section, standard_at, tests_section, top_keys_of}
use Rattle.policy_doc.specs.Entries.{approver_text, group_entry, host_entry, route_entry, tag_entry}
use Rattle.policy_doc.specs.Grants.{grants_at, with_grants}
use Rattle.policy_doc.specs.Keys.{keys_of, section}
use Rattle.policy_doc.specs.Rules.{rule_at, test_at}
use Rattle.policy_doc.specs.Sound.{IsSound, has_entry, is_every_port, is_subject, written_rules}
use Rattle.policy_doc.specs.Walks.{list_of, object_of, or_empty}
use Rattle.policy_doc.proofs.GrantLemmas.{grants_all, grants_short, with_all, with_short}
use Rattle.policy_doc.proofs.RowLemmas.{IsRule, IsTest, approver_text_read, group_read, route_read, rule_read, test_read}
use Rattle.tail_base.proofs.StepLemmas.{bind_parts, check_parts, due_parts}
use Rattle.policy_doc.proofs.StepLemmas.{given_all, given_short, list_all_read, list_short, object_all, object_short, ok_has}

record AreNames (names : Names) : Type 0 where
  groups_end : length names.groups ≤ ENTRY_LIMIT
  hosts_end : length names.hosts ≤ RULE_LIMIT
  tags_end : length names.tags ≤ ENTRY_LIMIT
  members_end : list_all (λ g. leb (length g.members) LIST_LIMIT) names.groups ≡ true

names_read : (ms : Members) (names : Names) → names_of ms ≡ Ok names → AreNames names
unfolding names_of
names_read ms names e =
    let groups = bind_parts (or_empty (object_of ENTRY_LIMIT (group_entry no_names) (codes "groups")) (section (codes "groups") ms)) _ names e in
    let hosts = bind_parts (or_empty (object_of RULE_LIMIT (host_entry no_names) (codes "hosts")) (section (codes "hosts") ms)) _ names groups.2 in
    let tags = bind_parts (or_empty (object_of ENTRY_LIMIT (tag_entry (record { groups = groups.0; hosts = hosts.0; tags = [] })) (codes "tagOwners")) (section (codes "tagOwners") ms)) _ names hosts.2 in
    let same : record { groups = groups.0; hosts = hosts.0; tags = tags.0 } ≡ names = cc (tags.2) in
    rw (← same) (record {
      groups_end = given_short ENTRY_LIMIT _ (λ d xs f. object_short ENTRY_LIMIT (group_entry no_names) (codes "groups") d xs f) (section (codes "groups") ms) groups.0 groups.1;
      hosts_end = given_short RULE_LIMIT _ (λ d xs f. object_short RULE_LIMIT (host_entry no_names) (codes "hosts") d xs f) (section (codes "hosts") ms) hosts.0 hosts.1;
      tags_end = given_short ENTRY_LIMIT _ (λ d xs f. object_short ENTRY_LIMIT (tag_entry (record { groups = groups.0; hosts = hosts.0; tags = [] })) (codes "tagOwners") d xs f) (section (codes "tagOwners") ms) tags.0 tags.1;
      members_end = given_all (λ g. leb (length g.members) LIST_LIMIT) _
          (λ d xs f. object_all (λ g. leb (length g.members) LIST_LIMIT) ENTRY_LIMIT (group_entry no_names) (λ before key at x g h. group_read no_names before key at x g h) (codes "groups") d xs f) (section (codes "groups") ms) groups.0 groups.1;
    })

rules_all : (names : Names) (P : Rule → Bool) → ((r : Rule) → IsRule names r → P r ≡ true) → (acls grants : Option Data) (rules : Option (List Rule)) → rules_section names acls grants ≡ Ok rules → list_all P (written_rules rules) ≡ true
rules_all names P h None None rules e = ok_has (λ rs. list_all P (written_rules rs) ≡ true) None rules refl e
rules_all names P h None (Some g) rules e =
    let parts = bind_parts (grants_at names [] (codes "grants") g) _ rules e in
    ok_has (λ rs. list_all P (written_rules rs) ≡ true) (Some parts.0) rules (grants_all names P h [] (codes "grants") g parts.0 refl parts.1) parts.2
rules_all names P h (Some d) grants rules e =
    let parts = bind_parts (list_of RULE_LIMIT (rule_at names) (codes "acls") d) _ rules e in
    let whole = bind_parts (with_grants names parts.0 grants) _ rules parts.2 in
    let before = list_all_read P RULE_LIMIT (rule_at names) (λ at x r f. h r (rule_read names at x r f)) (codes "acls") d parts.0 parts.1 in
    ok_has (λ rs. list_all P (written_rules rs) ≡ true) (Some whole.0) rules (with_all names P h parts.0 grants whole.0 before whole.1) whole.2

rules_short : (names : Names) (acls grants : Option Data) (rules : Option (List Rule)) → rules_section names acls grants ≡ Ok rules → length (written_rules rules) ≤ RULE_LIMIT
rules_short names None None rules e = ok_has (λ rs. length (written_rules rs) ≤ RULE_LIMIT) None rules (omega arith) e
rules_short names None (Some g) rules e =
    let parts = bind_parts (grants_at names [] (codes "grants") g) _ rules e in
    ok_has (λ rs. length (written_rules rs) ≤ RULE_LIMIT) (Some parts.0) rules (grants_short names [] (codes "grants") g parts.0 (omega arith) parts.1) parts.2
rules_short names (Some d) grants rules e =
    let parts = bind_parts (list_of RULE_LIMIT (rule_at names) (codes "acls") d) _ rules e in
    let whole = bind_parts (with_grants names parts.0 grants) _ rules parts.2 in
    let few = list_short RULE_LIMIT (rule_at names) (codes "acls") d parts.0 parts.1 in
    ok_has (λ rs. length (written_rules rs) ≤ RULE_LIMIT) (Some whole.0) rules (with_short names parts.0 grants whole.0 few whole.1) whole.2

tests_all : (names : Names) (P : Test → Bool) → ((t : Test) → IsTest names t → P t ≡ true) → (o : Option Data) (tests : List Test) → tests_section names o ≡ Ok tests → list_all P tests ≡ true
tests_all names P h o tests e =
    given_all P (list_of ENTRY_LIMIT (test_at names) (codes "tests")) (λ d xs f. list_all_read P ENTRY_LIMIT (test_at names) (λ at x t g. h t (test_read names at x t g)) (codes "tests") d xs f) o tests e

tests_short : (names : Names) (o : Option Data) (tests : List Test) → tests_section names o ≡ Ok tests → length tests ≤ ENTRY_LIMIT
tests_short names o tests e = given_short ENTRY_LIMIT (list_of ENTRY_LIMIT (test_at names) (codes "tests")) (λ d xs f. list_short ENTRY_LIMIT (test_at names) (codes "tests") d xs f) o tests e

record AreApprovers (names : Names) (a : Approvers) : Type 0 where
  known : list_all (λ r. list_all (has_entry names.groups names.tags) r.by) a.routes ≡ true
  fit : list_all (λ r. list_all is_approver r.by) a.routes ≡ true
  ends : list_all (λ r. leb (length r.by) LIST_LIMIT) a.routes ≡ true
  end : length a.routes ≤ ENTRY_LIMIT
  exits_known : list_all (has_entry names.groups names.tags) a.exit ≡ true
  exits_fit : list_all is_approver a.exit ≡ true
  exits_end : length a.exit ≤ LIST_LIMIT

abbrev exits_from : Names → Members → Result (List Selector) PolicyFault
exits_from names ms = or_empty (list_of LIST_LIMIT (approver_text names) (under (codes "autoApprovers") (codes "exitNode"))) (section (codes "exitNode") ms)

abbrev routes_from : Names → Members → Result (List Approver) PolicyFault
routes_from names ms = or_empty (object_of ENTRY_LIMIT (route_entry names) (under (codes "autoApprovers") (codes "routes"))) (section (codes "routes") ms)

approvers_read : (names : Names) (o : Option Data) (a : Approvers) → approvers_or_none names o ≡ Ok a → AreApprovers names a
approvers_read names None a e =
    ok_has (AreApprovers names) (record { exit = []; routes = [] }) a (record {
      known = refl;
      fit = refl;
      ends = refl;
      end = omega arith;
      exits_known = refl;
      exits_fit = refl;
      exits_end = omega arith;
    }) e
approvers_read names (Some d) a e =
    let ms = due_parts (fault_at code.WrongShape (codes "autoApprovers")) (as_object d) _ a e in
    let keys = bind_parts (keys_of (codes "autoApprovers") (codes "exitNode" ∷ codes "routes" ∷ []) (codes "services" ∷ []) [] ms.0) _ a ms.2 in
    let exit = bind_parts (exits_from names ms.0) _ a keys.2 in
    let routes = bind_parts (routes_from names ms.0) _ a exit.2 in
    let same : record { exit = exit.0; routes = routes.0 } ≡ a = cc (routes.2) in
    let exits = section (codes "exitNode") ms.0 in
    let nets = section (codes "routes") ms.0 in
    rw (← same) (record {
      known = given_all (λ r. list_all (has_entry names.groups names.tags) r.by) _ (λ x xs f. object_all (λ r. list_all (has_entry names.groups names.tags) r.by) ENTRY_LIMIT (route_entry names) (λ before key at y r g. (route_read names before key at y r g).known) (under (codes "autoApprovers") (codes "routes")) x xs f) nets routes.0 routes.1;
      fit = given_all (λ r. list_all is_approver r.by) _ (λ x xs f. object_all (λ r. list_all is_approver r.by) ENTRY_LIMIT (route_entry names) (λ before key at y r g. (route_read names before key at y r g).fit) (under (codes "autoApprovers") (codes "routes")) x xs f) nets routes.0 routes.1;
      ends = given_all (λ r. leb (length r.by) LIST_LIMIT) _ (λ x xs f. object_all (λ r. leb (length r.by) LIST_LIMIT) ENTRY_LIMIT (route_entry names) (λ before key at y r g. (route_read names before key at y r g).end) (under (codes "autoApprovers") (codes "routes")) x xs f) nets routes.0 routes.1;
      end = given_short ENTRY_LIMIT _ (λ x xs f. object_short ENTRY_LIMIT (route_entry names) (under (codes "autoApprovers") (codes "routes")) x xs f) nets routes.0 routes.1;
      exits_known = given_all (has_entry names.groups names.tags) _ (λ x xs f. list_all_read (has_entry names.groups names.tags) LIST_LIMIT (approver_text names) (λ at y s g. (approver_text_read names at y s g).0) (under (codes "autoApprovers") (codes "exitNode")) x xs f) exits exit.0 exit.1;
      exits_fit = given_all is_approver _ (λ x xs f. list_all_read is_approver LIST_LIMIT (approver_text names) (λ at y s g. (approver_text_read names at y s g).1) (under (codes "autoApprovers") (codes "exitNode")) x xs f) exits exit.0 exit.1;
      exits_end = given_short LIST_LIMIT _ (λ x xs f. list_short LIST_LIMIT (approver_text names) (under (codes "autoApprovers") (codes "exitNode")) x xs f) exits exit.0 exit.1;
    })

sound_parts : (names : Names) (acls grants tests_text : Option Data) (rules : Option (List Rule)) (approvers : Approvers) (tests : List Test)
    → AreNames names → rules_section names acls grants ≡ Ok rules → AreApprovers names approvers → tests_section names tests_text ≡ Ok tests → IsSound (policy_from names rules approvers tests)
sound_parts names acls grants tests_text rules approvers tests n r a t = record {
  sources_known = rules_all names (λ x. list_all (has_entry names.groups names.tags) x.sources) (λ x h. h.sources_known) acls grants rules r;
  dests_known = rules_all names (λ x. list_all (λ e. has_entry names.groups names.tags e.to) x.dests) (λ x h. h.dests_known) acls grants rules r;
  approvers_known = a.known;
  exits_known = a.exits_known;
  subjects_known = tests_all names (λ x. has_entry names.groups names.tags x.subject) (λ x h. h.subject_known) tests_text tests t;
  accepts_known = tests_all names (λ x. list_all (λ e. has_entry names.groups names.tags e.to) x.accept) (λ x h. h.accept.known) tests_text tests t;
  denies_known = tests_all names (λ x. list_all (λ e. has_entry names.groups names.tags e.to) x.deny) (λ x h. h.deny.known) tests_text tests t;
  sources_fit = rules_all names (λ x. list_all is_source x.sources) (λ x h. h.sources_fit) acls grants rules r;
  ports_fit = rules_all names (λ x. not (needs_star x.protos) || list_all (λ e. is_every_port e.ports) x.dests) (λ x h. h.ports_fit) acls grants rules r;
  ports_some = rules_all names (λ x. list_all (λ e. ltb 0 (length e.ports)) x.dests) (λ x h. h.ports_some) acls grants rules r;
  approvers_fit = a.fit;
  exits_fit = a.exits_fit;
  subjects_fit = tests_all names (λ x. is_subject x.subject) (λ x h. h.subject_fit) tests_text tests t;
  accepts_fit = tests_all names (λ x. list_all (λ e. is_subject e.to && is_one_port e.ports) x.accept) (λ x h. h.accept.fit) tests_text tests t;
  denies_fit = tests_all names (λ x. list_all (λ e. is_subject e.to && is_one_port e.ports) x.deny) (λ x h. h.deny.fit) tests_text tests t;
  groups_end = n.groups_end;
  hosts_end = n.hosts_end;
  tags_end = n.tags_end;
  rules_end = rules_short names acls grants rules r;
  routes_end = a.end;
  exits_end = a.exits_end;
  tests_end = tests_short names tests_text tests t;
  members_end = n.members_end;
  sources_end = rules_all names (λ x. leb (length x.sources) LIST_LIMIT) (λ x h. h.sources_end) acls grants rules r;
  dests_end = rules_all names (λ x. leb (length x.dests) LIST_LIMIT) (λ x h. h.dests_end) acls grants rules r;
  approvers_end = a.ends;
  accepts_end = tests_all names (λ x. leb (length x.accept) LIST_LIMIT) (λ x h. h.accept.end) tests_text tests t;
  denies_end = tests_all names (λ x. leb (length x.deny) LIST_LIMIT) (λ x h. h.deny.end) tests_text tests t;
}

value_sound : (d : Data) (p : Policy) → policy_of d ≡ Ok p → IsSound p
unfolding policy_of
value_sound d p e =
    let ms = due_parts (fault_at code.NotObject (codes "top")) (as_object d) _ p e in
    let keys = bind_parts (top_keys_of ms.0) _ p ms.2 in
    let names = bind_parts (names_of ms.0) _ p keys.2 in
    let rules = bind_parts (rules_section names.0 (section (codes "acls") ms.0) (section (codes "grants") ms.0)) _ p names.2 in
    let approvers = bind_parts (approvers_or_none names.0 (section (codes "autoApprovers") ms.0)) _ p rules.2 in
    let tests = bind_parts (tests_section names.0 (section (codes "tests") ms.0)) _ p approvers.2 in
    ok_has IsSound (policy_from names.0 rules.0 approvers.0 tests.0) p
    (sound_parts names.0 (section (codes "acls") ms.0) (section (codes "grants") ms.0) (section (codes "tests") ms.0) rules.0 approvers.0 tests.0 (names_read ms.0 names.0 names.1) rules.1 (approvers_read names.0 (section (codes "autoApprovers") ms.0) approvers.0 approvers.1) tests.1) tests.2

pub policy_sound : (text : List ℕ) (p : Policy) → policy_of_text text ≡ Ok p → IsSound p
unfolding policy_of_text
policy_sound text p e =
    let short = check_parts (leb (length text) POLICY_LIMIT) (fault_at code.TooMany (codes "text")) _ p e in
    let standard = bind_parts (standard_at text) _ p short.1 in
    let value = bind_parts (json_at standard.0) _ p standard.2 in
    value_sound value.0 p value.2
