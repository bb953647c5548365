-- The checks of the entries of groups, hosts, tags and routes, and of what rules and tests name.
use Rattle.std.specs.Prelude.{ℕ, ◌++◌, ◌||◌, Bool, not, List, [], ◌∷◌, codes, None, is_some, if◌then◌else◌}
use Rattle.std.specs.List.{after_last, before_last, list_any}
use Rattle.std.specs.Result.{result_ok}
use Rattle.std.specs.Str.{bytes_eq}
use Rattle.serde_json.specs.Data.{Data}
use Rattle.tail_base.specs.Logins.{login_of}
use Rattle.tail_base.specs.Tags.{tag_of}
use Rattle.net_addr.specs.PrefixTexts.{prefix_of_text}
use Rattle.port_sets.specs.PortTexts.{is_comma}
use Rattle.policy_rows.specs.declared.approver.Approver.{Approver}
use Rattle.policy_rows.specs.declared.code.PolicyCode.TheVariants as code
use Rattle.policy_rows.specs.declared.names.Names.{Names}
use Rattle.policy_rows.specs.Dests.{is_one_port, needs_star, ports_at}
use Rattle.policy_rows.specs.Flows.{flow_ports, protocol_part}
use Rattle.policy_rows.specs.Names.{begins, group_named}
use Rattle.policy_rows.specs.Nets.{host_net}
use Rattle.policy_rows.specs.Selectors.{is_approver, is_colon, is_source, is_test_end, selector_at}
use Rattle.policy_doc.specs.declared.limits.TheConstants.{LIST_LIMIT}
use Rattle.policy_laws.specs.Checks.{Check, list_checks, must, of_read, of_some, read_or, readable, text_checks}
use Rattle.policy_doc.specs.Entries.{is_group_name, is_host_name, is_route_before, is_unsupported_owner}

-- a member of a group
abbrev pub login_checks : List ℕ → Data → List Check
login_checks place d = text_checks (λ text. must (is_some (login_of text)) code.BadGroup place ∷ []) place d

-- a group
abbrev pub group_checks : List ℕ → List ℕ → Data → List Check
group_checks key place d = must (is_group_name key) code.BadGroup place ∷ list_checks LIST_LIMIT login_checks place d

-- a host
abbrev pub host_checks : List ℕ → List ℕ → Data → List Check
host_checks key place d =
    must (is_host_name key) code.BadHost place ∷ text_checks (λ text. must (is_some (host_net text)) code.BadHost place ∷ []) place d

-- an owner of a tag: a group with an entry, or a login
abbrev pub owner_checks : Names → List ℕ → Data → List Check
owner_checks names place d =
    text_checks (λ text.
    must (not (is_unsupported_owner text)) code.Unsupported place
    ∷ (if begins text (codes "group:") then must (is_some (group_named names.groups text)) code.UnknownGroup place
    else must (is_some (login_of text)) code.BadTag place) ∷ []) place d

-- a tag
abbrev pub tag_checks : Names → List ℕ → List ℕ → Data → List Check
tag_checks names key place d = must (is_some (tag_of key)) code.BadTag place ∷ list_checks LIST_LIMIT (owner_checks names) place d

-- a selector, whose form says what is asked of it
abbrev pub selector_checks : Names → List ℕ → List ℕ → List Check
selector_checks names place text = readable place (selector_at names place text) ∷ []

-- a source of a rule
abbrev pub source_checks : Names → List ℕ → List ℕ → List Check
source_checks names place text =
    readable place (selector_at names place text)
    ∷ of_read (selector_at names place text) (λ selector. must (is_source selector) code.NotASource place ∷ [])

-- an approver of routes
abbrev pub approver_checks : Names → List ℕ → List ℕ → List Check
approver_checks names place text =
    readable place (selector_at names place text)
    ∷ of_read (selector_at names place text) (λ selector. must (is_approver selector) code.BadSelector place ∷ [])

-- what a test speaks of
abbrev pub test_end_checks : Names → List ℕ → List ℕ → List Check
test_end_checks names place text =
    readable place (selector_at names place text)
    ∷ of_read (selector_at names place text) (λ selector. must (is_test_end text selector) code.BadTest place ∷ [])

-- the approvers of a route, which is a prefix that no member before has
abbrev pub route_checks : Names → List Approver → List ℕ → List ℕ → Data → List Check
route_checks names before key place d =
    must (is_some (result_ok (prefix_of_text key))) code.BadRoute place
    ∷ (of_some (result_ok (prefix_of_text key)) (λ route. must (not (is_route_before before route)) code.BadRoute place ∷ [])
    ++ list_checks LIST_LIMIT (λ at x. text_checks (approver_checks names at) at x) place d)

-- a destination of a rule: a colon, a selector, ports, and `*` where the protocol has none
abbrev pub dest_checks : Bool → Names → List ℕ → List ℕ → List Check
dest_checks only_all names place text =
    must (list_any is_colon text) code.BadPorts place
    ∷ readable place (selector_at names place (before_last is_colon text))
    ∷ readable place (ports_at code.BadPorts place (after_last is_colon text))
    ∷ must (not only_all || bytes_eq (after_last is_colon text) (codes "*")) code.PortsForProto place ∷ []

-- a destination of a test: a colon, what the test speaks of, and one port
abbrev pub test_dest_checks : Names → List ℕ → List ℕ → List Check
test_dest_checks names place text =
    must (list_any is_colon text) code.BadTest place
    ∷ (test_end_checks names place (before_last is_colon text)
    ++ readable place (ports_at code.BadTest place (after_last is_colon text))
    ∷ of_read (ports_at code.BadTest place (after_last is_colon text)) (λ ports. must (is_one_port ports) code.BadTest place ∷ []))

-- an element of `ip`: a protocol, if one is given, and ports, `*` where the protocol has none
abbrev pub flow_checks : List ℕ → List ℕ → List Check
flow_checks place text =
    readable place (protocol_part place text)
    ∷ must (not (list_any is_comma (flow_ports text))) code.BadPorts place
    ∷ readable place (ports_at code.BadPorts place (flow_ports text))
    ∷ must (not (needs_star (read_or None (protocol_part place text))) || bytes_eq (flow_ports text) (codes "*")) code.PortsForProto place ∷ []
