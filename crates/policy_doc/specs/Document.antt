-- The policy that a text states, or its first fault in the order of reading.
use Rattle.std.specs.Prelude.{ℕ, ◌++◌, List, [], ◌∷◌, length, nat_le, codes, Option, Some, None, Result, Ok, Err, if◌then◌else◌}
use Rattle.std.specs.Fmt.{decimal}
use Rattle.std.specs.Str.{is_utf8}
use Rattle.serde_json.specs.Data.{Data, Members}
use Rattle.serde_json.specs.Find.{as_object}
use Rattle.serde_json.specs.Read.{read}
use Rattle.hujson_read.specs.declared.fault.HujsonFault.{HujsonFault}
use Rattle.hujson_read.specs.Standard.{fault_of, offset_of, standard_of}
use Rattle.tail_base.specs.Steps.{◌>>=◌, or_fault, refuse_unless}
use Rattle.policy_rows.specs.declared.code.PolicyCode.TheVariants as code
use Rattle.policy_rows.specs.declared.fault.PolicyFault.{PolicyFault}
use Rattle.policy_rows.specs.declared.names.Names.{Names}
use Rattle.policy_rows.specs.declared.policy.Policy.{Policy}
use Rattle.policy_rows.specs.declared.rule.Rule.{Rule}
use Rattle.policy_rows.specs.declared.test.Test.{Test}
use Rattle.policy_rows.specs.Faults.{fault_at, under}
use Rattle.policy_rows.specs.Names.{no_names}
use Rattle.policy_doc.specs.declared.approvers.Approvers.{Approvers}
use Rattle.policy_doc.specs.declared.limits.TheConstants.{ENTRY_LIMIT, LIST_LIMIT, RULE_LIMIT}
use Rattle.tail_base.specs.declared.limits.TheConstants.{POLICY_LIMIT}
use Rattle.policy_doc.specs.Entries.{approver_text, group_entry, host_entry, route_entry, tag_entry}
use Rattle.policy_doc.specs.Grants.{grants_at, with_grants}
use Rattle.policy_doc.specs.Keys.{keys_of, section}
use Rattle.policy_doc.specs.Rules.{rule_at, test_at}
use Rattle.policy_doc.specs.Walks.{list_of, object_of, object_at, optional, or_empty}

-- who approves routes
abbrev pub approvers_at : Names → List ℕ → Data → Result Approvers PolicyFault
approvers_at names place d = do
  ms ← object_at place d
  _ ← keys_of place (codes "exitNode" ∷ codes "routes" ∷ []) (codes "services" ∷ []) [] ms
  exit ← or_empty (list_of LIST_LIMIT (approver_text names) (under place (codes "exitNode"))) (section (codes "exitNode") ms)
  routes ← or_empty (object_of ENTRY_LIMIT (route_entry names) (under place (codes "routes"))) (section (codes "routes") ms)
  Ok (record { exit = exit; routes = routes })

-- no routes are approved
abbrev pub approvers_or_none : Names → Option Data → Result Approvers PolicyFault
approvers_or_none names None = Ok (record { exit = []; routes = [] })
approvers_or_none names (Some d) = approvers_at names (codes "autoApprovers") d

-- the groups, then the hosts, then the tags
unfoldable pub names_of : Members → Result Names PolicyFault
names_of ms = do
  groups ← or_empty (object_of ENTRY_LIMIT (group_entry no_names) (codes "groups")) (section (codes "groups") ms)
  hosts ← or_empty (object_of RULE_LIMIT (host_entry no_names) (codes "hosts")) (section (codes "hosts") ms)
  tags ← or_empty (object_of ENTRY_LIMIT (tag_entry (record { groups = groups; hosts = hosts; tags = [] })) (codes "tagOwners")) (section (codes "tagOwners") ms)
  Ok (record { groups = groups; hosts = hosts; tags = tags })

-- the keys of the top object that are known; the last seven are left unread
abbrev pub top_keys : List (List ℕ)
top_keys =
    codes "groups" ∷ codes "hosts" ∷ codes "tagOwners" ∷ codes "acls" ∷ codes "grants" ∷ codes "autoApprovers" ∷ codes "tests"
    ∷ codes "ssh" ∷ codes "sshTests" ∷ codes "nodeAttrs" ∷ codes "derpMap" ∷ codes "randomizeClientPort" ∷ codes "OneCGNATRoute" ∷ codes "disableIPv4" ∷ []

-- the keys of the top object that aren't supported
abbrev pub unsupported_keys : List (List ℕ)
unsupported_keys = codes "ipsets" ∷ codes "postures" ∷ codes "defaultSrcPosture" ∷ []

-- each key of the top object is known
abbrev pub top_keys_of : Members → Result (Unit {0}) PolicyFault
top_keys_of ms = keys_of [] top_keys unsupported_keys [] ms

-- the rules: those of `acls`, and behind them those of `grants`; none where there is neither
abbrev pub rules_section : Names → (acls grants : Option Data) → Result (Option (List Rule)) PolicyFault
rules_section names None grants = optional (grants_at names [] (codes "grants")) grants
rules_section names (Some acls) grants = do
  before ← list_of RULE_LIMIT (rule_at names) (codes "acls") acls
  rules ← with_grants names before grants
  Ok (Some rules)

-- the tests
abbrev pub tests_section : Names → Option Data → Result (List Test) PolicyFault
tests_section names d = or_empty (list_of ENTRY_LIMIT (test_at names) (codes "tests")) d

-- the policy of these parts
abbrev pub policy_from : Names → Option (List Rule) → Approvers → List Test → Policy
policy_from names rules approvers tests = record {
  groups = names.groups;
  hosts = names.hosts;
  tags = names.tags;
  rules = rules;
  route_approvers = approvers.routes;
  exit_approvers = approvers.exit;
  tests = tests;
}

-- the policy of a JSON value
unfoldable pub policy_of : Data → Result Policy PolicyFault
policy_of d = do
  ms ← or_fault (fault_at code.NotObject (codes "top")) (as_object d)
  _ ← top_keys_of ms
  names ← names_of ms
  rules ← rules_section names (section (codes "acls") ms) (section (codes "grants") ms)
  approvers ← approvers_or_none names (section (codes "autoApprovers") ms)
  tests ← tests_section names (section (codes "tests") ms)
  Ok (policy_from names rules approvers tests)

-- a fault of syntax at that offset
abbrev pub syntax_at : {A : Type 0} → ℕ → Result A PolicyFault
syntax_at at = Err (fault_at code.Syntax (codes "offset " ++ decimal at))

-- the standard text of a text, or the place of its first fault
abbrev pub standard_or : List ℕ → Option HujsonFault → Result (List ℕ) PolicyFault
standard_or standard None = Ok standard
standard_or standard (Some first) = syntax_at (offset_of first)

-- the JSON text that a HuJSON text stands for
abbrev pub standard_at : List ℕ → Result (List ℕ) PolicyFault
standard_at text = standard_or (standard_of text) (fault_of text)

-- the value of a JSON text in UTF-8 (RFC 8259)
abbrev pub json_at : List ℕ → Result Data PolicyFault
json_at text = or_fault (fault_at code.Syntax (codes "json")) (if is_utf8 text then read text else None)

-- the policy that a text states, or its first fault
unfoldable pub policy_of_text : List ℕ → Result Policy PolicyFault
policy_of_text text = do
  _ ← refuse_unless (nat_le (length text) POLICY_LIMIT) (fault_at code.TooMany (codes "text"))
  standard ← standard_at text
  d ← json_at standard
  policy_of d
