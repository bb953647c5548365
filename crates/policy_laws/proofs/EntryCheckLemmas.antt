-- The checks of entries, and of what rules and tests name.
use Rattle.std.proofs.Common.{◌≡◌, ◌++◌, ◌||◌, ℕ, Bool, true, false, List, [], ◌∷◌, Option, Some, None, Result, Ok, Err, is_some, cond, option_map, refl, sym, ap, subst, ◌∙◌}
use Rattle.std.specs.Prelude.{codes, not}
use Rattle.std.specs.List.{after_last, before_first, before_last, list_any}
use Rattle.std.specs.Result.{result_ok}
use Rattle.std.specs.Str.{bytes_eq}
use Rattle.serde_json.specs.Data.{Data}
use Rattle.tail_base.specs.Logins.{login_of}
use Rattle.tail_base.specs.Steps.{◌>>=◌, or_fault, refuse_unless}
use Rattle.tail_base.specs.Tags.{tag_of}
use Rattle.net_addr.specs.Bits.{Block}
use Rattle.net_addr.specs.PrefixTexts.{prefix_of_text}
use Rattle.port_sets.specs.declared.fault.PortFault.{PortFault}
use Rattle.port_sets.specs.declared.range.PortRange.{PortRange}
use Rattle.port_sets.specs.PortTexts.{is_comma, ports_of_text}
use Rattle.port_sets.specs.Protocols.{proto_of_text}
use Rattle.policy_rows.specs.declared.approver.Approver.{Approver}
use Rattle.policy_rows.specs.declared.code.PolicyCode.{PolicyCode}
use Rattle.policy_rows.specs.declared.code.PolicyCode.TheVariants as code
use Rattle.policy_rows.specs.declared.fault.PolicyFault.{PolicyFault}
use Rattle.policy_rows.specs.declared.group.Group.{Group}
use Rattle.policy_rows.specs.declared.host.Host.{Host}
use Rattle.policy_rows.specs.declared.names.Names.{Names}
use Rattle.policy_rows.specs.declared.selector.Selector.{Selector}
use Rattle.policy_rows.specs.declared.selector.Selector.TheVariants as sel
use Rattle.policy_rows.specs.declared.flow.Flow.{Flow}
use Rattle.policy_rows.specs.declared.tag_owner.TagOwner.{TagOwner}
use Rattle.policy_rows.specs.Dests.{dest_at, is_one_port, needs_star, ports_at, ports_from, test_dest_at}
use Rattle.policy_rows.specs.Faults.{fault_at}
use Rattle.policy_rows.specs.Flows.{flow_at, flow_ports, protocol_part}
use Rattle.policy_rows.specs.Names.{begins, group_named, host_named, is_name, owner_of_tag}
use Rattle.policy_rows.specs.Nets.{host_net, net_of_text}
use Rattle.policy_rows.specs.Selectors.{approver_at, automatic_at, group_at, host_at, is_approver, is_colon, is_source, is_test_end, net_or, plain_at, selector_at, source_at, tag_at, test_end_at, user_or}
use Rattle.policy_doc.specs.declared.limits.TheConstants.{LIST_LIMIT}
use Rattle.policy_laws.specs.Checks.{Check, list_checks, must, of_read, of_some, read_or, readable, text_checks}
use Rattle.policy_doc.specs.Entries.{approver_text, group_entry, group_owner, host_entry, is_group_name, is_host_name, is_route_before, is_unsupported_owner, member_at, owner_at, route_entry, tag_entry, tag_owner, user_owner}
use Rattle.policy_laws.specs.EntryChecks.{approver_checks, dest_checks, flow_checks, group_checks, host_checks, login_checks, owner_checks, route_checks, selector_checks, source_checks, tag_checks, test_dest_checks, test_end_checks}
use Rattle.policy_doc.specs.Grants.{flow_text, selector_text}
use Rattle.policy_doc.specs.Rules.{dest_text, source_text, test_dest_text}
use Rattle.policy_doc.specs.Walks.{list_of, text_at}
use Rattle.policy_laws.proofs.CheckLemmas.{IsAt, IsChecked, at_bind, at_due, at_if, at_must, bind_checked, due_both, due_checked, due_then, last_checked, list_checked, must_checked, must_then, ok_checked, read_checked, read_then, text_then}

-- ---- a selector's faults stand at its place

net_at : (place : List ℕ) (o : Option Block) (r : Result Selector PolicyFault) → IsAt place r → IsAt place (net_or o r)
net_at place None r h = h
net_at place (Some net) r h = tt

user_at : (place : List ℕ) (o : Option (List ℕ)) (r : Result Selector PolicyFault) → IsAt place r → IsAt place (user_or o r)
user_at place None r h = h
user_at place (Some login) r h = tt

host_is_at : (names : Names) (place text : List ℕ) → IsAt place (host_at names place text)
host_is_at names place text =
    at_bind place (refuse_unless (is_name text) (fault_at code.BadSelector place)) (λ _. or_fault (fault_at code.UnknownHost place) (host_named names.hosts text) >>= (λ host. Ok (sel.Net host.prefix)))
    (at_must place code.BadSelector (is_name text))
    (λ _. at_bind place (or_fault (fault_at code.UnknownHost place) (host_named names.hosts text)) (λ host. Ok (sel.Net host.prefix)) (at_due place code.UnknownHost (host_named names.hosts text)) (λ host. tt))

plain_is_at : (names : Names) (place text : List ℕ) → IsAt place (plain_at names place text)
plain_is_at names place text =
    user_at place (login_of text) (net_or (net_of_text text) (host_at names place text)) (net_at place (net_of_text text) (host_at names place text) (host_is_at names place text))

group_is_at : (names : Names) (place text : List ℕ) → IsAt place (group_at names place text)
group_is_at names place text =
    at_bind place (or_fault (fault_at code.UnknownGroup place) (group_named names.groups text)) (λ group. Ok (sel.Group group.name)) (at_due place code.UnknownGroup (group_named names.groups text)) (λ group. tt)

tag_is_at : (names : Names) (place text : List ℕ) → IsAt place (tag_at names place text)
tag_is_at names place text =
    at_bind place (or_fault (fault_at code.UnknownTag place) (owner_of_tag names.tags text)) (λ owner. Ok (sel.Tagged owner.tag)) (at_due place code.UnknownTag (owner_of_tag names.tags text)) (λ owner. tt)

automatic_is_at : (place text : List ℕ) → IsAt place (automatic_at place text)
automatic_is_at place text =
    at_if place (bytes_eq text (codes "autogroup:member")) (Ok sel.Member) _ tt
    (at_if place (bytes_eq text (codes "autogroup:tagged")) (Ok sel.AllTagged) _ tt
    (at_if place (bytes_eq text (codes "autogroup:internet")) (Ok sel.Internet) _ tt
    (at_if place (bytes_eq text (codes "autogroup:self")) (Ok sel.OwnDevices) (Err (fault_at code.Unsupported place)) tt refl)))

selector_is_at : (names : Names) (place text : List ℕ) → IsAt place (selector_at names place text)
unfolding selector_at
selector_is_at names place text =
    at_if place (bytes_eq text (codes "*")) (Ok sel.All) _ tt
    (at_if place (begins text (codes "group:")) (group_at names place text) _ (group_is_at names place text)
    (at_if place (begins text (codes "tag:")) (tag_at names place text) _ (tag_is_at names place text)
    (at_if place (begins text (codes "autogroup:")) (automatic_at place text) _ (automatic_is_at place text)
    (at_if place (begins text (codes "ipset:") || begins text (codes "svc:")) (Err (fault_at code.Unsupported place)) (plain_at names place text) refl (plain_is_at names place text)))))

ports_at_place : (ill : PolicyCode) (place : List ℕ) (r : Result (List PortRange) PortFault) → IsAt place (ports_from ill place r)
ports_at_place ill place (Ok ports) = tt
ports_at_place ill place (Err fault) = refl

protocol_is_at : (place text : List ℕ) → IsAt place (protocol_part place text)
protocol_is_at place text =
    at_if place (list_any is_colon text) (or_fault (fault_at code.BadProto place) (option_map Some (proto_of_text (before_first is_colon text)))) (Ok None)
    (at_due place code.BadProto (option_map Some (proto_of_text (before_first is_colon text)))) tt

-- ---- what rules and tests name

-- a selector that passes a test
passing_checked : (place : List ℕ) (r : Result Selector PolicyFault) (passes : Selector → Bool) (code : PolicyCode) → IsAt place r
    → IsChecked (r >>= (λ s. refuse_unless (passes s) (fault_at code place) >>= (λ _. Ok s))) (readable place r ∷ of_read r (λ s. must (passes s) code place ∷ []))
passing_checked place r passes code at =
    read_then place r (λ s. refuse_unless (passes s) (fault_at code place) >>= (λ _. Ok s)) (λ s. must (passes s) code place ∷ []) at
    (λ s. must_then (passes s) code place (λ _. Ok s) [] (ok_checked s))

source_checked : (names : Names) (place text : List ℕ) → IsChecked (source_at names place text) (source_checks names place text)
unfolding source_at
source_checked names place text = passing_checked place (selector_at names place text) is_source code.NotASource (selector_is_at names place text)

approver_checked : (names : Names) (place text : List ℕ) → IsChecked (approver_at names place text) (approver_checks names place text)
unfolding approver_at
approver_checked names place text = passing_checked place (selector_at names place text) is_approver code.BadSelector (selector_is_at names place text)

pub test_end_checked : (names : Names) (place text : List ℕ) → IsChecked (test_end_at names place text) (test_end_checks names place text)
unfolding test_end_at
test_end_checked names place text = passing_checked place (selector_at names place text) (is_test_end text) code.BadTest (selector_is_at names place text)

dest_checked : (only_all : Bool) (names : Names) (place text : List ℕ) → IsChecked (dest_at only_all names place text) (dest_checks only_all names place text)
unfolding dest_at
dest_checked only_all names place text =
    let to = selector_at names place (before_last is_colon text) in
    let ports = ports_at code.BadPorts place (after_last is_colon text) in
    let fits = not only_all || bytes_eq (after_last is_colon text) (codes "*") in
    must_then (list_any is_colon text) code.BadPorts place _ (readable place to ∷ readable place ports ∷ must fits code.PortsForProto place ∷ [])
    (bind_checked to _ (readable place to ∷ []) (readable place ports ∷ must fits code.PortsForProto place ∷ []) (read_checked place to (selector_is_at names place (before_last is_colon text)))
    (λ s _. bind_checked ports _ (readable place ports ∷ []) (must fits code.PortsForProto place ∷ [])
    (read_checked place ports (ports_at_place code.BadPorts place (ports_of_text (after_last is_colon text))))
    (λ ranges _. must_then fits code.PortsForProto place (λ _. Ok (record { to = s; ports = ranges })) [] (ok_checked (record { to = s; ports = ranges })))))

test_dest_checked : (names : Names) (place text : List ℕ) → IsChecked (test_dest_at names place text) (test_dest_checks names place text)
unfolding test_dest_at
test_dest_checked names place text =
    let to = test_end_at names place (before_last is_colon text) in
    let ports = ports_at code.BadTest place (after_last is_colon text) in
    let rest = readable place ports ∷ of_read ports (λ found. must (is_one_port found) code.BadTest place ∷ []) in
    must_then (list_any is_colon text) code.BadTest place _ (test_end_checks names place (before_last is_colon text) ++ rest)
    (bind_checked to _ (test_end_checks names place (before_last is_colon text)) rest (test_end_checked names place (before_last is_colon text))
    (λ s _. read_then place ports _ (λ found. must (is_one_port found) code.BadTest place ∷ []) (ports_at_place code.BadTest place (ports_of_text (after_last is_colon text)))
    (λ found. must_then (is_one_port found) code.BadTest place (λ _. Ok (record { to = s; ports = found })) [] (ok_checked (record { to = s; ports = found })))))

pub read_is : {A : Type 0} (r : Result A PolicyFault) (other x : A) → r ≡ Ok x → x ≡ read_or other r
read_is r other x e = sym (ap (read_or other) e)

flow_checked : (place text : List ℕ) → IsChecked (flow_at place text) (flow_checks place text)
unfolding flow_at
flow_checked place text =
    let proto = protocol_part place text in
    let ports = ports_at code.BadPorts place (flow_ports text) in
    let fits = λ (p : Option ℕ). not (needs_star p) || bytes_eq (flow_ports text) (codes "*") in
    let last = must (fits (read_or None proto)) code.PortsForProto place ∷ [] in
    let plain = must (not (list_any is_comma (flow_ports text))) code.BadPorts place in
    bind_checked proto _ (readable place proto ∷ []) (plain ∷ readable place ports ∷ last) (read_checked place proto (protocol_is_at place text))
    (λ p is. must_then (not (list_any is_comma (flow_ports text))) code.BadPorts place _ (readable place ports ∷ last)
    (bind_checked ports _ (readable place ports ∷ []) last (read_checked place ports (ports_at_place code.BadPorts place (ports_of_text (flow_ports text))))
    (λ found _. subst (λ q. IsChecked {A = Flow} (refuse_unless (fits p) (fault_at code.PortsForProto place) >>= (λ _. Ok (record { protos = p; ports = found }))) (must (fits q) code.PortsForProto place ∷ []))
    (read_is proto None p is)
    (must_then (fits p) code.PortsForProto place (λ _. Ok (record { protos = p; ports = found })) [] (ok_checked (record { protos = p; ports = found }))))))

-- ---- the same of texts

pub source_text_checked : (names : Names) (place : List ℕ) (d : Data) → IsChecked (source_text names place d) (text_checks (source_checks names place) place d)
unfolding source_text
source_text_checked names place d = text_then place d (source_at names place) (source_checks names place) (source_checked names place)

pub approver_text_checked : (names : Names) (place : List ℕ) (d : Data) → IsChecked (approver_text names place d) (text_checks (approver_checks names place) place d)
unfolding approver_text
approver_text_checked names place d = text_then place d (approver_at names place) (approver_checks names place) (approver_checked names place)

pub dest_text_checked : (only_all : Bool) (names : Names) (place : List ℕ) (d : Data) → IsChecked (dest_text only_all names place d) (text_checks (dest_checks only_all names place) place d)
unfolding dest_text
dest_text_checked only_all names place d = text_then place d (dest_at only_all names place) (dest_checks only_all names place) (dest_checked only_all names place)

pub test_dest_text_checked : (names : Names) (place : List ℕ) (d : Data) → IsChecked (test_dest_text names place d) (text_checks (test_dest_checks names place) place d)
unfolding test_dest_text
test_dest_text_checked names place d = text_then place d (test_dest_at names place) (test_dest_checks names place) (test_dest_checked names place)

pub selector_text_checked : (names : Names) (place : List ℕ) (d : Data) → IsChecked (selector_text names place d) (text_checks (selector_checks names place) place d)
unfolding selector_text
selector_text_checked names place d =
    text_then place d (selector_at names place) (selector_checks names place) (λ text. read_checked place (selector_at names place text) (selector_is_at names place text))

pub flow_text_checked : (names : Names) (place : List ℕ) (d : Data) → IsChecked (flow_text names place d) (text_checks (flow_checks place) place d)
unfolding flow_text
flow_text_checked names place d = text_then place d (flow_at place) (flow_checks place) (flow_checked place)

-- ---- entries

login_checked : (names : Names) (place : List ℕ) (d : Data) → IsChecked (member_at names place d) (login_checks place d)
unfolding member_at
login_checked names place d =
    text_then place d (λ text. or_fault (fault_at code.BadGroup place) (login_of text)) (λ text. must (is_some (login_of text)) code.BadGroup place ∷ []) (λ text. due_checked (login_of text) code.BadGroup place)

pub group_checked : (names : Names) (before : List Group) (key place : List ℕ) (d : Data) → IsChecked (group_entry names before key place d) (group_checks key place d)
unfolding group_entry
group_checked names before key place d =
    must_then (is_group_name key) code.BadGroup place _ (list_checks LIST_LIMIT login_checks place d)
    (last_checked (list_of LIST_LIMIT (member_at names) place d) (λ members. record { name = key; members = members }) (list_checks LIST_LIMIT login_checks place d)
    (list_checked LIST_LIMIT (member_at names) login_checks (login_checked names) place d))

pub host_checked : (names : Names) (before : List Host) (key place : List ℕ) (d : Data) → IsChecked (host_entry names before key place d) (host_checks key place d)
unfolding host_entry
host_checked names before key place d =
    must_then (is_host_name key) code.BadHost place _ (text_checks (λ text. must (is_some (host_net text)) code.BadHost place ∷ []) place d)
    (text_then place d _ (λ text. must (is_some (host_net text)) code.BadHost place ∷ [])
    (λ text. last_checked (or_fault (fault_at code.BadHost place) (host_net text)) (λ net. record { name = key; prefix = net }) (must (is_some (host_net text)) code.BadHost place ∷ [])
    (due_checked (host_net text) code.BadHost place)))

group_owner_checked : (names : Names) (place text : List ℕ) → IsChecked (group_owner names place text) (must (is_some (group_named names.groups text)) code.UnknownGroup place ∷ [])
group_owner_checked names place text =
    last_checked (or_fault (fault_at code.UnknownGroup place) (group_named names.groups text)) _ (must (is_some (group_named names.groups text)) code.UnknownGroup place ∷ [])
    (due_checked (group_named names.groups text) code.UnknownGroup place)

user_owner_checked : (place text : List ℕ) → IsChecked (user_owner place text) (must (is_some (login_of text)) code.BadTag place ∷ [])
user_owner_checked place text =
    last_checked (or_fault (fault_at code.BadTag place) (login_of text)) _ (must (is_some (login_of text)) code.BadTag place ∷ []) (due_checked (login_of text) code.BadTag place)

one_of_two : {A : Type 0} (b : Bool) (x y : Result A PolicyFault) (c d : Check) → IsChecked x (c ∷ []) → IsChecked y (d ∷ []) → IsChecked (cond b x y) (cond b c d ∷ [])
one_of_two true x y c d h k = h
one_of_two false x y c d h k = k

owner_checked : (names : Names) (place : List ℕ) (d : Data) → IsChecked (owner_at names place d) (owner_checks names place d)
unfolding owner_at
owner_checked names place d =
    text_then place d _
    (λ text.
    must (not (is_unsupported_owner text)) code.Unsupported place
    ∷ cond (begins text (codes "group:")) (must (is_some (group_named names.groups text)) code.UnknownGroup place) (must (is_some (login_of text)) code.BadTag place) ∷ [])
    (λ text. must_then (not (is_unsupported_owner text)) code.Unsupported place
    (λ _. cond (begins text (codes "group:")) (group_owner names place text) (user_owner place text))
    (cond (begins text (codes "group:")) (must (is_some (group_named names.groups text)) code.UnknownGroup place) (must (is_some (login_of text)) code.BadTag place) ∷ [])
    (one_of_two (begins text (codes "group:")) (group_owner names place text) (user_owner place text)
    (must (is_some (group_named names.groups text)) code.UnknownGroup place) (must (is_some (login_of text)) code.BadTag place)
    (group_owner_checked names place text) (user_owner_checked place text)))

pub tag_checked : (names : Names) (before : List TagOwner) (key place : List ℕ) (d : Data) → IsChecked (tag_entry names before key place d) (tag_checks names key place d)
unfolding tag_entry
tag_checked names before key place d =
    bind_checked (or_fault (fault_at code.BadTag place) (tag_of key)) _ (must (is_some (tag_of key)) code.BadTag place ∷ []) (list_checks LIST_LIMIT (owner_checks names) place d)
    (due_checked (tag_of key) code.BadTag place)
    (λ tag _. last_checked (list_of LIST_LIMIT (owner_at names) place d) (λ owners. tag_owner tag owners) (list_checks LIST_LIMIT (owner_checks names) place d)
    (list_checked LIST_LIMIT (owner_at names) (owner_checks names) (owner_checked names) place d))

pub route_checked : (names : Names) (before : List Approver) (key place : List ℕ) (d : Data) → IsChecked (route_entry names before key place d) (route_checks names before key place d)
unfolding route_entry
route_checked names before key place d =
    let by = list_checks LIST_LIMIT (λ at x. text_checks (approver_checks names at) at x) place d in
    due_both (result_ok (prefix_of_text key)) code.BadRoute place _ (λ route. must (not (is_route_before before route)) code.BadRoute place ∷ []) by
    (λ route. must_then (not (is_route_before before route)) code.BadRoute place _ by
    (last_checked (list_of LIST_LIMIT (approver_text names) place d) (λ found. record { route = route; by = found }) by
    (list_checked LIST_LIMIT (approver_text names) (λ at x. text_checks (approver_checks names at) at x) (approver_text_checked names) place d)))
