-- The checks of a policy's text, in the order of reading.
use Rattle.std.specs.Prelude.{ℕ, ◌+◌, ◌++◌, Bool, List, [], ◌∷◌, length, nat_le, codes, Option, Some, None, option_and_then, is_some}
use Rattle.std.specs.Fmt.{decimal}
use Rattle.std.specs.Str.{bytes_eq}
use Rattle.serde_json.specs.Data.{Data, Items, no_items, item, Members}
use Rattle.serde_json.specs.Find.{as_array, as_object, as_str}
use Rattle.hujson_read.specs.declared.fault.HujsonFault.{HujsonFault}
use Rattle.hujson_read.specs.Standard.{fault_of, offset_of}
use Rattle.tail_base.specs.declared.limits.TheConstants.{POLICY_LIMIT}
use Rattle.policy_rows.specs.declared.code.PolicyCode.TheVariants as code
use Rattle.policy_rows.specs.declared.names.Names.{Names}
use Rattle.policy_rows.specs.declared.rule.Rule.{Rule}
use Rattle.policy_rows.specs.Dests.{needs_star}
use Rattle.policy_rows.specs.Faults.{indexed, under}
use Rattle.policy_rows.specs.Names.{no_names}
use Rattle.policy_doc.specs.declared.limits.TheConstants.{ENTRY_LIMIT, LIST_LIMIT, RULE_LIMIT}
use Rattle.policy_laws.specs.Checks.{Check, due_checks, each_checks, key_checks, list_checks, must, object_checks, object_due, of_read, of_some, read_or, readable, text_checks}
use Rattle.policy_doc.specs.Document.{json_at, names_of, standard_at, top_keys, unsupported_keys}
use Rattle.policy_doc.specs.Entries.{group_entry, host_entry, route_entry, tag_entry}
use Rattle.policy_laws.specs.EntryChecks.{approver_checks, dest_checks, flow_checks, group_checks, host_checks, route_checks, selector_checks, source_checks, tag_checks, test_dest_checks, test_end_checks}
use Rattle.policy_doc.specs.Grants.{grant_at}
use Rattle.policy_doc.specs.Keys.{section}
use Rattle.policy_doc.specs.Rules.{proto_at, proto_of, rule_at}
use Rattle.policy_doc.specs.Walks.{items_count, list_of, object_of, or_empty}

-- ---- rules and tests

-- the only action
abbrev pub action_checks : List ℕ → Option Data → List Check
action_checks place d =
    must (is_some (option_and_then as_str d)) code.BadAction place
    ∷ of_some (option_and_then as_str d) (λ text. must (bytes_eq text (codes "accept")) code.BadAction place ∷ [])

-- a protocol, if one is given
abbrev pub proto_checks : List ℕ → Option Data → List Check
proto_checks place o = of_some o (λ d. must (is_some (proto_of d)) code.BadProto place ∷ [])

-- the members of an entry of `acls`
abbrev pub rule_members : Names → List ℕ → Members → List Check
rule_members names place ms =
    key_checks place (codes "action" ∷ codes "proto" ∷ codes "src" ∷ codes "users" ∷ codes "dst" ∷ codes "ports" ∷ []) (codes "srcPosture" ∷ []) [] ms
    ++ (action_checks (under place (codes "action")) (section (codes "action") ms)
    ++ (proto_checks (under place (codes "proto")) (section (codes "proto") ms)
    ++ (due_checks (λ at x. text_checks (source_checks names at) at x) (under place (codes "src")) (section (codes "src") ms)
    ++ due_checks (λ at x. text_checks (dest_checks (needs_star (read_or None (proto_at (under place (codes "proto")) (section (codes "proto") ms)))) names at) at x)
    (under place (codes "dst")) (section (codes "dst") ms))))

-- an entry of `acls`
abbrev pub rule_checks : Names → List ℕ → Data → List Check
rule_checks names place d = object_due (rule_members names place) place d

-- the subject of a test
abbrev pub subject_checks : Names → List ℕ → Option Data → List Check
subject_checks names place o = must (is_some o) code.BadTest place ∷ of_some o (text_checks (test_end_checks names place) place)

-- destinations of a test, if some are given
abbrev pub test_dests : Names → List ℕ → Option Data → List Check
test_dests names place o = of_some o (list_checks LIST_LIMIT (λ at x. text_checks (test_dest_checks names at) at x) place)

-- the members of an entry of `tests`
abbrev pub test_members : Names → List ℕ → Members → List Check
test_members names place ms =
    key_checks place (codes "src" ∷ codes "proto" ∷ codes "accept" ∷ codes "deny" ∷ []) (codes "srcPostureAttrs" ∷ []) [] ms
    ++ (proto_checks (under place (codes "proto")) (section (codes "proto") ms)
    ++ (subject_checks names (under place (codes "src")) (section (codes "src") ms)
    ++ (test_dests names (under place (codes "accept")) (section (codes "accept") ms)
    ++ test_dests names (under place (codes "deny")) (section (codes "deny") ms))))

-- an entry of `tests`
abbrev pub test_checks : Names → List ℕ → Data → List Check
test_checks names place d = object_due (test_members names place) place d

-- ---- grants

-- the elements of `ip`, behind so many rules
abbrev pub flows_checks : ℕ → List ℕ → Data → List Check
flows_checks behind place d =
    must (is_some (as_array d)) code.WrongShape place
    ∷ of_some (as_array d) (λ ds.
    must (nat_le (items_count ds) LIST_LIMIT) code.TooMany place
    ∷ must (nat_le (behind + items_count ds) RULE_LIMIT) code.TooMany place
    ∷ each_checks (λ at x. text_checks (flow_checks at) at x) place 0 ds)

-- the members of an entry of `grants`
abbrev pub grant_members : Names → ℕ → List ℕ → Members → List Check
grant_members names behind place ms =
    key_checks place (codes "src" ∷ codes "dst" ∷ codes "ip" ∷ []) (codes "srcPosture" ∷ codes "app" ∷ codes "via" ∷ []) [] ms
    ++ (due_checks (λ at x. text_checks (source_checks names at) at x) (under place (codes "src")) (section (codes "src") ms)
    ++ (due_checks (λ at x. text_checks (selector_checks names at) at x) (under place (codes "dst")) (section (codes "dst") ms)
    ++ must (is_some (section (codes "ip") ms)) code.WrongShape (under place (codes "ip"))
    ∷ of_some (section (codes "ip") ms) (flows_checks behind (under place (codes "ip")))))

-- the entries of `grants` behind so many, with the rules that were read before them
abbrev pub grants_each : Names → List Rule → List ℕ → ℕ → Items → List Check
grants_each names before place n no_items = []
grants_each names before place n (item d ds) =
    object_due (grant_members names (length before) (indexed place n)) (indexed place n) d
    ++ grants_each names (read_or before (grant_at names before (indexed place n) d)) place (n + 1) ds

-- a list of entries
abbrev pub grants_checks : Names → List Rule → List ℕ → Data → List Check
grants_checks names before place d =
    must (is_some (as_array d)) code.WrongShape place
    ∷ of_some (as_array d) (λ ds. must (nat_le (items_count ds) ENTRY_LIMIT) code.TooMany place ∷ grants_each names before place 0 ds)

-- ---- sections

-- the names of groups and hosts that are read, for the owners of tags
abbrev pub owner_names : Members → Names
owner_names ms = record {
  groups = read_or [] (or_empty (object_of ENTRY_LIMIT (group_entry no_names) (codes "groups")) (section (codes "groups") ms));
  hosts = read_or [] (or_empty (object_of RULE_LIMIT (host_entry no_names) (codes "hosts")) (section (codes "hosts") ms));
  tags = [];
}

-- groups, hosts and tags
abbrev pub names_checks : Members → List Check
names_checks ms =
    of_some (section (codes "groups") ms) (object_checks ENTRY_LIMIT (group_entry no_names) (λ before. group_checks) (codes "groups"))
    ++ (of_some (section (codes "hosts") ms) (object_checks RULE_LIMIT (host_entry no_names) (λ before. host_checks) (codes "hosts"))
    ++ of_some (section (codes "tagOwners") ms) (object_checks ENTRY_LIMIT (tag_entry (owner_names ms)) (λ before. tag_checks (owner_names ms)) (codes "tagOwners")))

-- the rules of `acls` that are read
abbrev pub acl_rules : Names → Option Data → List Rule
acl_rules names acls = read_or [] (or_empty (list_of RULE_LIMIT (rule_at names) (codes "acls")) acls)

-- rules, those of `acls` and then those of `grants`
abbrev pub rules_checks : Names → (acls grants : Option Data) → List Check
rules_checks names acls grants =
    of_some acls (list_checks RULE_LIMIT (rule_checks names) (codes "acls"))
    ++ of_some grants (grants_checks names (acl_rules names acls) (codes "grants"))

-- the members of `autoApprovers`
abbrev pub approver_members : Names → List ℕ → Members → List Check
approver_members names place ms =
    key_checks place (codes "exitNode" ∷ codes "routes" ∷ []) (codes "services" ∷ []) [] ms
    ++ (of_some (section (codes "exitNode") ms) (list_checks LIST_LIMIT (λ at x. text_checks (approver_checks names at) at x) (under place (codes "exitNode")))
    ++ of_some (section (codes "routes") ms) (object_checks ENTRY_LIMIT (route_entry names) (route_checks names) (under place (codes "routes"))))

-- who approves routes
abbrev pub approvers_checks : Names → Option Data → List Check
approvers_checks names o = of_some o (object_due (approver_members names (codes "autoApprovers")) (codes "autoApprovers"))

-- the sections behind those of names
abbrev pub sections_checks : Names → Members → List Check
sections_checks names ms =
    rules_checks names (section (codes "acls") ms) (section (codes "grants") ms)
    ++ (approvers_checks names (section (codes "autoApprovers") ms)
    ++ of_some (section (codes "tests") ms) (list_checks ENTRY_LIMIT (test_checks names) (codes "tests")))

-- the top object: its keys, the sections of names, and the others, where those names have entries that are read
abbrev pub value_checks : Data → List Check
value_checks d =
    must (is_some (as_object d)) code.NotObject (codes "top")
    ∷ of_some (as_object d) (λ ms. key_checks [] top_keys unsupported_keys [] ms ++ (names_checks ms ++ sections_checks (read_or no_names (names_of ms)) ms))

-- ---- the text

-- comments and trailing commas end as they should
abbrev pub syntax_check : Option HujsonFault → Check
syntax_check None = record { place = []; wrong = None }
syntax_check (Some first) = record { place = codes "offset " ++ decimal (offset_of first); wrong = Some code.Syntax }

-- all checks of a text: its length, its syntax, and what it says
unfoldable pub checks_of_text : List ℕ → List Check
checks_of_text text =
    must (nat_le (length text) POLICY_LIMIT) code.TooMany (codes "text")
    ∷ syntax_check (fault_of text)
    ∷ of_read (standard_at text) (λ standard. readable (codes "json") (json_at standard) ∷ of_read (json_at standard) value_checks)
