-- What holds of each row that was read.
use Rattle.std.proofs.Common.{◌≡◌, ℕ, Bool, true, false, ◌&&◌, ◌||◌, List, [], ◌∷◌, Option, Some, None, Result, Ok, Err, length, leb, ltb, refl}
use Rattle.std.specs.Prelude.{codes, not}
use Rattle.std.specs.List.{after_last, before_last, list_all, list_any}
use Rattle.std.specs.Result.{result_ok}
use Rattle.std.specs.Str.{bytes_eq}
use Rattle.std.proofs.lemmas.Bool.{and_from, le-leb, lt-ltb}
use Rattle.serde_json.specs.Data.{Data}
use Rattle.serde_json.specs.Find.{as_object, as_str}
use Rattle.net_addr.specs.PrefixTexts.{prefix_of_text}
use Rattle.port_sets.specs.declared.fault.PortFault.{PortFault}
use Rattle.port_sets.specs.declared.range.PortRange.{PortRange}
use Rattle.port_sets.specs.PortTexts.{ports_of_text}
use Rattle.port_sets.proofs.ReadLemmas.{ports_star, read_ports}
use Rattle.policy_rows.specs.declared.approver.Approver.{Approver}
use Rattle.policy_rows.specs.declared.code.PolicyCode.{PolicyCode}
use Rattle.policy_rows.specs.declared.code.PolicyCode.TheVariants as code
use Rattle.policy_rows.specs.declared.dest.Dest.{Dest}
use Rattle.policy_rows.specs.declared.fault.PolicyFault.{PolicyFault}
use Rattle.policy_rows.specs.declared.group.Group.{Group}
use Rattle.policy_rows.specs.declared.names.Names.{Names}
use Rattle.policy_rows.specs.declared.rule.Rule.{Rule}
use Rattle.policy_rows.specs.declared.selector.Selector.{Selector}
use Rattle.policy_rows.specs.declared.test.Test.{Test}
use Rattle.policy_rows.specs.Dests.{dest_at, is_one_port, needs_star, ports_at, ports_from, test_dest_at}
use Rattle.policy_rows.specs.Faults.{fault_at, under}
use Rattle.policy_rows.specs.Selectors.{is_approver, is_colon, is_source, selector_at, test_end_at}
use Rattle.policy_doc.specs.declared.limits.TheConstants.{LIST_LIMIT}
use Rattle.policy_doc.specs.Entries.{approver_text, group_entry, is_group_name, is_route_before, member_at, route_entry}
use Rattle.policy_doc.specs.Keys.{keys_of, section}
use Rattle.policy_doc.specs.Rules.{action_at, dest_text, list_due, proto_at, rule_at, source_text, subject_at, test_at, test_dest_text}
use Rattle.policy_doc.specs.Walks.{list_of, or_empty}
use Rattle.policy_doc.specs.Sound.{has_entry, is_every_port, is_subject}
use Rattle.policy_doc.proofs.KnownLemmas.{IsRead, approver_read, selector_known, source_read, subject_read}
use Rattle.tail_base.proofs.StepLemmas.{bind_parts, check_parts, due_parts}
use Rattle.policy_doc.proofs.StepLemmas.{given_all, given_short, list_all_read, list_short}

pub source_text_read : (names : Names) (place : List ℕ) (d : Data) (s : Selector) → source_text names place d ≡ Ok s → IsRead names is_source s
unfolding source_text
source_text_read names place d s e =
    let text = due_parts (fault_at code.WrongShape place) (as_str d) _ s e in
    source_read names place text.0 s text.2

pub approver_text_read : (names : Names) (place : List ℕ) (d : Data) (s : Selector) → approver_text names place d ≡ Ok s → IsRead names is_approver s
unfolding approver_text
approver_text_read names place d s e =
    let text = due_parts (fault_at code.WrongShape place) (as_str d) _ s e in
    approver_read names place text.0 s text.2

pub ports_read : (ill : PolicyCode) (place : List ℕ) (r : Result (List PortRange) PortFault) (ports : List PortRange) → ports_from ill place r ≡ Ok ports → r ≡ Ok ports
ports_read ill place (Ok found) ports e = cc
ports_read ill place (Err fault) ports e = absurd (cc)

-- ports that are written `*` are all
star_every : (text : List ℕ) (ports : List PortRange) → ports_of_text text ≡ Ok ports → bytes_eq text (codes "*") ≡ true → is_every_port ports ≡ true
star_every text ports e star =
    let same : record { first = 0; last = 65535 } ∷ [] ≡ ports = cc (ports_star text star, e) in
    rw (← same) refl

pub every_if : (only_all : Bool) (text : List ℕ) (ports : List PortRange) → ports_of_text text ≡ Ok ports → (not only_all || bytes_eq text (codes "*")) ≡ true → (not only_all || is_every_port ports) ≡ true
every_if true text ports e star = star_every text ports e star
every_if false text ports e star = refl

abbrev IsDest : Bool → Names → Dest → Type 0
IsDest only_all names x = (has_entry names.groups names.tags x.to ≡ true) × ((not only_all || is_every_port x.ports) ≡ true) × (ltb 0 (length x.ports) ≡ true)

dest_read : (only_all : Bool) (names : Names) (place text : List ℕ) (x : Dest) → dest_at only_all names place text ≡ Ok x → IsDest only_all names x
unfolding dest_at
dest_read only_all names place text x e =
    let colon = check_parts (list_any is_colon text) (fault_at code.BadPorts place) _ x e in
    let to = bind_parts (selector_at names place (before_last is_colon text)) _ x colon.1 in
    let ports = bind_parts (ports_at code.BadPorts place (after_last is_colon text)) _ x to.2 in
    let star = check_parts (not only_all || bytes_eq (after_last is_colon text) (codes "*")) (fault_at code.PortsForProto place) _ x ports.2 in
    let same : record { to = to.0; ports = ports.0 } ≡ x = cc (star.1) in
    let found = ports_read code.BadPorts place (ports_of_text (after_last is_colon text)) ports.0 ports.1 in
    rw (← same) (selector_known names place (before_last is_colon text) to.0 to.1, every_if only_all (after_last is_colon text) ports.0 found star.0, lt-ltb 0 (length ports.0) (read_ports (after_last is_colon text) ports.0 found).some)

dest_text_read : (only_all : Bool) (names : Names) (place : List ℕ) (d : Data) (x : Dest) → dest_text only_all names place d ≡ Ok x → IsDest only_all names x
unfolding dest_text
dest_text_read only_all names place d x e =
    let text = due_parts (fault_at code.WrongShape place) (as_str d) _ x e in
    dest_read only_all names place text.0 x text.2

pub due_all : {A : Type 0} (P : A → Bool) (read : List ℕ → Data → Result A PolicyFault) → ((place : List ℕ) (d : Data) (x : A) → read place d ≡ Ok x → P x ≡ true)
    → (place : List ℕ) (o : Option Data) (xs : List A) → list_due read place o ≡ Ok xs → list_all P xs ≡ true
due_all P read h place None xs e = absurd (cc)
due_all P read h place (Some d) xs e = list_all_read P LIST_LIMIT read h place d xs e

pub due_short : {A : Type 0} (read : List ℕ → Data → Result A PolicyFault) (place : List ℕ) (o : Option Data) (xs : List A) → list_due read place o ≡ Ok xs → leb (length xs) LIST_LIMIT ≡ true
due_short read place None xs e = absurd (cc)
due_short read place (Some d) xs e = le-leb (length xs) LIST_LIMIT (list_short LIST_LIMIT read place d xs e)

pub record IsRule (names : Names) (r : Rule) : Type 0 where
  pub sources_known : list_all (has_entry names.groups names.tags) r.sources ≡ true
  pub sources_fit : list_all is_source r.sources ≡ true
  pub sources_end : leb (length r.sources) LIST_LIMIT ≡ true
  pub dests_known : list_all (λ x. has_entry names.groups names.tags x.to) r.dests ≡ true
  pub dests_end : leb (length r.dests) LIST_LIMIT ≡ true
  pub ports_some : list_all (λ x. ltb 0 (length x.ports)) r.dests ≡ true
  pub ports_fit : (not (needs_star r.protos) || list_all (λ x. is_every_port x.ports) r.dests) ≡ true

every_dest : (only_all : Bool) (dests : List Dest) → list_all (λ x. not only_all || is_every_port x.ports) dests ≡ true → (not only_all || list_all (λ x. is_every_port x.ports) dests) ≡ true
every_dest true dests h = h
every_dest false dests h = refl

pub rule_read : (names : Names) (place : List ℕ) (d : Data) (r : Rule) → rule_at names place d ≡ Ok r → IsRule names r
unfolding rule_at
rule_read names place d r e =
    let ms = due_parts (fault_at code.WrongShape place) (as_object d) _ r e in
    let keys = bind_parts (keys_of place (codes "action" ∷ codes "proto" ∷ codes "src" ∷ codes "users" ∷ codes "dst" ∷ codes "ports" ∷ []) (codes "srcPosture" ∷ []) [] ms.0) _ r ms.2 in
    let action = bind_parts (action_at (under place (codes "action")) (section (codes "action") ms.0)) _ r keys.2 in
    let proto = bind_parts (proto_at (under place (codes "proto")) (section (codes "proto") ms.0)) _ r action.2 in
    let sources = bind_parts (list_due (source_text names) (under place (codes "src")) (section (codes "src") ms.0)) _ r proto.2 in
    let dests = bind_parts (list_due (dest_text (needs_star proto.0) names) (under place (codes "dst")) (section (codes "dst") ms.0)) _ r sources.2 in
    let same : record { protos = proto.0; sources = sources.0; dests = dests.0 } ≡ r = cc (dests.2) in
    rw (← same) (record {
      sources_known = due_all (has_entry names.groups names.tags) (source_text names) (λ at x s f. (source_text_read names at x s f).0) _ _ sources.0 sources.1;
      sources_fit = due_all is_source (source_text names) (λ at x s f. (source_text_read names at x s f).1) _ _ sources.0 sources.1;
      sources_end = due_short (source_text names) _ _ sources.0 sources.1;
      dests_known = due_all (λ x. has_entry names.groups names.tags x.to) (dest_text (needs_star proto.0) names) (λ at x s f. (dest_text_read (needs_star proto.0) names at x s f).0) _ _ dests.0 dests.1;
      dests_end = due_short (dest_text (needs_star proto.0) names) _ _ dests.0 dests.1;
      ports_some = due_all (λ x. ltb 0 (length x.ports)) (dest_text (needs_star proto.0) names) (λ at x s f. (dest_text_read (needs_star proto.0) names at x s f).2) _ _ dests.0 dests.1;
      ports_fit = every_dest (needs_star proto.0) dests.0 (due_all (λ x. not (needs_star proto.0) || is_every_port x.ports) (dest_text (needs_star proto.0) names) (λ at x s f. (dest_text_read (needs_star proto.0) names at x s f).1) _ _ dests.0 dests.1);
    })

pub record IsApprover (names : Names) (a : Approver) : Type 0 where
  pub known : list_all (has_entry names.groups names.tags) a.by ≡ true
  pub fit : list_all is_approver a.by ≡ true
  pub end : leb (length a.by) LIST_LIMIT ≡ true

pub route_read : (names : Names) (before : List Approver) (key place : List ℕ) (d : Data) (a : Approver) → route_entry names before key place d ≡ Ok a → IsApprover names a
unfolding route_entry
route_read names before key place d a e =
    let route = due_parts (fault_at code.BadRoute place) (result_ok (prefix_of_text key)) _ a e in
    let fresh = check_parts (not (is_route_before before route.0)) (fault_at code.BadRoute place) _ a route.2 in
    let by = bind_parts (list_of LIST_LIMIT (approver_text names) place d) _ a fresh.1 in
    let same : record { route = route.0; by = by.0 } ≡ a = cc (by.2) in
    rw (← same) (record {
      known = list_all_read (has_entry names.groups names.tags) LIST_LIMIT (approver_text names) (λ at x s f. (approver_text_read names at x s f).0) place d by.0 by.1;
      fit = list_all_read is_approver LIST_LIMIT (approver_text names) (λ at x s f. (approver_text_read names at x s f).1) place d by.0 by.1;
      end = le-leb (length by.0) LIST_LIMIT (list_short LIST_LIMIT (approver_text names) place d by.0 by.1);
    })

pub group_read : (names : Names) (before : List Group) (key place : List ℕ) (d : Data) (g : Group) → group_entry names before key place d ≡ Ok g → leb (length g.members) LIST_LIMIT ≡ true
unfolding group_entry
group_read names before key place d g e =
    let named = check_parts (is_group_name key) (fault_at code.BadGroup place) _ g e in
    let members = bind_parts (list_of LIST_LIMIT (member_at names) place d) _ g named.1 in
    let same : record { name = key; members = members.0 } ≡ g = cc (members.2) in
    rw (← same) (le-leb (length members.0) LIST_LIMIT (list_short LIST_LIMIT (member_at names) place d members.0 members.1))

abbrev IsTestDest : Names → Dest → Type 0
IsTestDest names x = (has_entry names.groups names.tags x.to ≡ true) × ((is_subject x.to && is_one_port x.ports) ≡ true)

test_dest_read : (names : Names) (place text : List ℕ) (x : Dest) → test_dest_at names place text ≡ Ok x → IsTestDest names x
unfolding test_dest_at
test_dest_read names place text x e =
    let colon = check_parts (list_any is_colon text) (fault_at code.BadTest place) _ x e in
    let to = bind_parts (test_end_at names place (before_last is_colon text)) _ x colon.1 in
    let ports = bind_parts (ports_at code.BadTest place (after_last is_colon text)) _ x to.2 in
    let one = check_parts (is_one_port ports.0) (fault_at code.BadTest place) _ x ports.2 in
    let same : record { to = to.0; ports = ports.0 } ≡ x = cc (one.1) in
    let known = subject_read names place (before_last is_colon text) to.0 to.1 in
    rw (← same) (known.0, and_from (is_subject to.0) (is_one_port ports.0) known.1 one.0)

test_dest_text_read : (names : Names) (place : List ℕ) (d : Data) (x : Dest) → test_dest_text names place d ≡ Ok x → IsTestDest names x
unfolding test_dest_text
test_dest_text_read names place d x e =
    let text = due_parts (fault_at code.WrongShape place) (as_str d) _ x e in
    test_dest_read names place text.0 x text.2

subject_due : (names : Names) (place : List ℕ) (o : Option Data) (s : Selector) → subject_at names place o ≡ Ok s → IsRead names is_subject s
subject_due names place None s e = absurd (cc)
subject_due names place (Some d) s e =
    let text = due_parts (fault_at code.WrongShape place) (as_str d) _ s e in
    subject_read names place text.0 s text.2

-- the destinations of a test
pub record AreTestDests (names : Names) (xs : List Dest) : Type 0 where
  pub known : list_all (λ x. has_entry names.groups names.tags x.to) xs ≡ true
  pub fit : list_all (λ x. is_subject x.to && is_one_port x.ports) xs ≡ true
  pub end : leb (length xs) LIST_LIMIT ≡ true

test_dests_read : (names : Names) (place : List ℕ) (o : Option Data) (xs : List Dest) → or_empty (list_of LIST_LIMIT (test_dest_text names) place) o ≡ Ok xs → AreTestDests names xs
test_dests_read names place o xs e = record {
  known = given_all (λ x. has_entry names.groups names.tags x.to) (list_of LIST_LIMIT (test_dest_text names) place)
      (λ d ys f. list_all_read (λ x. has_entry names.groups names.tags x.to) LIST_LIMIT (test_dest_text names) (λ at x s g. (test_dest_text_read names at x s g).0) place d ys f) o xs e;
  fit = given_all (λ x. is_subject x.to && is_one_port x.ports) (list_of LIST_LIMIT (test_dest_text names) place)
      (λ d ys f. list_all_read (λ x. is_subject x.to && is_one_port x.ports) LIST_LIMIT (test_dest_text names) (λ at x s g. (test_dest_text_read names at x s g).1) place d ys f) o xs e;
  end = le-leb (length xs) LIST_LIMIT (given_short LIST_LIMIT (list_of LIST_LIMIT (test_dest_text names) place) (λ d ys f. list_short LIST_LIMIT (test_dest_text names) place d ys f) o xs e);
}

pub record IsTest (names : Names) (t : Test) : Type 0 where
  pub subject_known : has_entry names.groups names.tags t.subject ≡ true
  pub subject_fit : is_subject t.subject ≡ true
  pub accept : AreTestDests names t.accept
  pub deny : AreTestDests names t.deny

pub test_read : (names : Names) (place : List ℕ) (d : Data) (t : Test) → test_at names place d ≡ Ok t → IsTest names t
unfolding test_at
test_read names place d t e =
    let ms = due_parts (fault_at code.WrongShape place) (as_object d) _ t e in
    let keys = bind_parts (keys_of place (codes "src" ∷ codes "proto" ∷ codes "accept" ∷ codes "deny" ∷ []) (codes "srcPostureAttrs" ∷ []) [] ms.0) _ t ms.2 in
    let proto = bind_parts (proto_at (under place (codes "proto")) (section (codes "proto") ms.0)) _ t keys.2 in
    let subject = bind_parts (subject_at names (under place (codes "src")) (section (codes "src") ms.0)) _ t proto.2 in
    let accept = bind_parts (or_empty (list_of LIST_LIMIT (test_dest_text names) (under place (codes "accept"))) (section (codes "accept") ms.0)) _ t subject.2 in
    let deny = bind_parts (or_empty (list_of LIST_LIMIT (test_dest_text names) (under place (codes "deny"))) (section (codes "deny") ms.0)) _ t accept.2 in
    let same : record { subject = subject.0; proto = proto.0; accept = accept.0; deny = deny.0 } ≡ t = cc (deny.2) in
    let known = subject_due names (under place (codes "src")) (section (codes "src") ms.0) subject.0 subject.1 in
    rw (← same) (record {
      subject_known = known.0;
      subject_fit = known.1;
      accept = test_dests_read names (under place (codes "accept")) (section (codes "accept") ms.0) accept.0 accept.1;
      deny = test_dests_read names (under place (codes "deny")) (section (codes "deny") ms.0) deny.0 deny.1;
    })
