-- A search over flows is a search over rules and their destinations, and between two machines one over their flags.
use Rattle.std.proofs.Common.{◌≡◌, ◌<◌, ◌^◌, ◌&&◌, ◌||◌, ◌==◌, ℕ, Bool, true, false, not, List, [], ◌∷◌, arith, ap, refl}
use Rattle.std.specs.Prelude.{Contains, Option, Some, None, map}
use Rattle.std.specs.List.{list_any}
use Rattle.std.proofs.lemmas.Bool.{and_from, and_parts, or_left, or_right, eq-eqb}
use Rattle.tail_base.specs.Searches.{some_below}
use Rattle.tail_base.proofs.Bools.{same_tests}
use Rattle.tail_base.proofs.Searches.{any_weaker, some_finds, some_found}
use Rattle.net_addr.specs.Bits.{Address, family_size}
use Rattle.net_addr.specs.Searches.{some_address}
use Rattle.net_addr.proofs.SearchLemmas.{address_finds, address_found}
use Rattle.net_rows.proofs.Members.{list_any_found, list_any_is}
use Rattle.port_sets.specs.Protocols.{IsProtos, has_member, is_ported}
use Rattle.port_sets.specs.Ranges.{holds}
use Rattle.port_sets.proofs.RangeLemmas.{one_held}
use Rattle.policy_rows.specs.declared.dest.Dest.{Dest}
use Rattle.policy_rows.specs.declared.group.Group.{Group}
use Rattle.policy_rows.specs.declared.policy.Policy.{Policy}
use Rattle.policy_rows.specs.declared.rule.Rule.{Rule}
use Rattle.policy_sites.specs.ByRule.{flags_let, lets_through, sends, site_reaches, takes}
use Rattle.policy_sites.specs.Covers.{dest_covers, is_own}
use Rattle.policy_sites.specs.Ends.{end_at, holder_of}
use Rattle.policy_sites.specs.Grants.{entry_grants, groups_of, ports_hold, rule_grants, rules_of, some_rule_grants, some_source}
use Rattle.policy_sites.specs.Reach.{AreSoundRules, IsSoundRule, entry_reaches, reaches_into, rule_reaches}
use Rattle.policy_sites.specs.declared.end.End.{End}
use Rattle.policy_sites.specs.declared.site.Site.{Site}

-- what a flow to the address asks for
abbrev is_hit : List Group → List Rule → List Site → (Address → Bool) → End → ℕ → ℕ → Address → Bool
is_hit groups rules sites target s proto port addr = target addr && some_rule_grants groups rules s (end_at sites addr) proto port

abbrev is_hit_by_port : List Group → List Rule → List Site → (Address → Bool) → End → ℕ → ℕ → Bool
is_hit_by_port groups rules sites target s proto port = some_address (is_hit groups rules sites target s proto port)

abbrev is_hit_by_proto : List Group → List Rule → List Site → (Address → Bool) → End → ℕ → Bool
is_hit_by_proto groups rules sites target s proto = some_below (2 ^ 16) (is_hit_by_port groups rules sites target s proto)

abbrev some_hit : List Group → List Rule → List Site → (Address → Bool) → End → Bool
some_hit groups rules sites target s = some_below (2 ^ 8) (is_hit_by_proto groups rules sites target s)

-- ---- from a flow to a rule

entry_from_flow : (groups : List Group) (sites : List Site) (target : Address → Bool) (s : End) (proto port : ℕ) (addr : Address) → addr.bits < family_size addr.v6 → target addr ≡ true
    → (entry : Dest) → entry_grants groups s (end_at sites addr) proto port entry ≡ true → entry_reaches groups sites target s entry ≡ true
entry_from_flow groups sites target s proto port addr small hit entry h =
    let p = and_parts (dest_covers groups entry.to s (end_at sites addr)) (ports_hold entry.ports proto port) h in
    address_found (λ a. target a && dest_covers groups entry.to s (end_at sites a)) addr small
    (and_from (target addr) (dest_covers groups entry.to s (end_at sites addr)) hit p.0)

rule_from_flow : (groups : List Group) (sites : List Site) (target : Address → Bool) (s : End) (proto port : ℕ) (addr : Address) → addr.bits < family_size addr.v6 → target addr ≡ true
    → (r : Rule) → rule_grants groups s (end_at sites addr) proto port r ≡ true → rule_reaches groups sites target s r ≡ true
rule_from_flow groups sites target s proto port addr small hit r h =
    let d = end_at sites addr in
    let p = and_parts (has_member r.protos proto && some_source groups r s) (list_any (entry_grants groups s d proto port) r.dests) h in
    let q = and_parts (has_member r.protos proto) (some_source groups r s) p.0 in
    and_from (some_source groups r s) (list_any (entry_reaches groups sites target s) r.dests) q.1
    (any_weaker (entry_grants groups s d proto port) (entry_reaches groups sites target s) r.dests (entry_from_flow groups sites target s proto port addr small hit) p.1)

rules_from_flow : (groups : List Group) (rules : List Rule) (sites : List Site) (target : Address → Bool) (s : End) → some_hit groups rules sites target s ≡ true
    → list_any (rule_reaches groups sites target s) rules ≡ true
rules_from_flow groups rules sites target s h =
    let a = some_finds (2 ^ 8) (is_hit_by_proto groups rules sites target s) h in
    let b = some_finds (2 ^ 16) (is_hit_by_port groups rules sites target s a.0) a.2 in
    let c = address_finds (is_hit groups rules sites target s a.0 b.0) b.2 in
    let p = and_parts (target c.0) (some_rule_grants groups rules s (end_at sites c.0) a.0 b.0) c.2 in
    any_weaker (rule_grants groups s (end_at sites c.0) a.0 b.0) (rule_reaches groups sites target s) rules (rule_from_flow groups sites target s a.0 b.0 c.0 c.1 p.0) p.1

-- ---- from a rule to a flow

same_number : (n : ℕ) → (n == n) ≡ true
same_number n = eq-eqb n n refl

-- a rule's protocols have a member
some_proto : (protos : Option ℕ) → IsProtos protos → (proto : ℕ) × (proto < 2 ^ 8) × (has_member protos proto ≡ true)
some_proto (Some proto) h = let most = h.1 in (proto, omega arith, or_left (proto == proto) false (same_number proto))
some_proto None h = (1, omega arith, refl)

flow_from_rule : (groups : List Group) (rules : List Rule) (sites : List Site) (target : Address → Bool) (s : End) (r : Rule) → Contains rules r → IsSoundRule r
    → rule_reaches groups sites target s r ≡ true → some_hit groups rules sites target s ≡ true
flow_from_rule groups rules sites target s r inside sound h =
    let p = and_parts (some_source groups r s) (list_any (entry_reaches groups sites target s) r.dests) h in
    let entry = list_any_found (entry_reaches groups sites target s) r.dests p.1 in
    let it = entry.0 in
    let at = address_finds (λ a. target a && dest_covers groups it.to s (end_at sites a)) entry.2 in
    let d = end_at sites at.0 in
    let q = and_parts (target at.0) (dest_covers groups it.to s d) at.2 in
    let proto = some_proto r.protos sound.protos in
    let port = one_held it.ports (sound.ports it entry.1) in
    let held = or_right (not (is_ported proto.0)) (holds it.ports port.0) port.2 in
    let granted : entry_grants groups s d proto.0 port.0 it ≡ true = and_from (dest_covers groups it.to s d) (ports_hold it.ports proto.0 port.0) q.1 held in
    let dests = list_any_is (entry_grants groups s d proto.0 port.0) r.dests it entry.1 granted in
    let rule : rule_grants groups s d proto.0 port.0 r ≡ true =
    and_from (has_member r.protos proto.0 && some_source groups r s) (list_any (entry_grants groups s d proto.0 port.0) r.dests)
    (and_from (has_member r.protos proto.0) (some_source groups r s) proto.2 p.0) dests in
    let some = list_any_is (rule_grants groups s d proto.0 port.0) rules r inside rule in
    let at_addr = address_found (is_hit groups rules sites target s proto.0 port.0) at.0 at.1 (and_from (target at.0) (some_rule_grants groups rules s d proto.0 port.0) q.0 some) in
    let at_port = some_found (2 ^ 16) (is_hit_by_port groups rules sites target s proto.0) port.0 port.1 at_addr in
    some_found (2 ^ 8) (is_hit_by_proto groups rules sites target s) proto.0 proto.1 at_port

hits_are : (groups : List Group) (rules : List Rule) (sites : List Site) (target : Address → Bool) (s : End) → AreSoundRules rules
    → some_hit groups rules sites target s ≡ list_any (rule_reaches groups sites target s) rules
hits_are groups rules sites target s sound =
    same_tests (some_hit groups rules sites target s) (list_any (rule_reaches groups sites target s) rules)
    (rules_from_flow groups rules sites target s)
    (λ h. let found = list_any_found (rule_reaches groups sites target s) rules h in flow_from_rule groups rules sites target s found.0 found.1 (sound found.0 found.1) found.2)

-- A search over protocols, ports and addresses is one over rules and their destinations.
pub reach_is : (policy : Option Policy) (sites : List Site) (target : Address → Bool) (s : End) → AreSoundRules (rules_of policy)
    → reaches_into policy sites target s ≡ list_any (rule_reaches (groups_of policy) sites target s) (rules_of policy)
reach_is policy sites target s sound = hits_are (groups_of policy) (rules_of policy) sites target s sound

-- Whether a rule lets one machine through to another is told by their flags.
pub reach_of_flags : (groups : List Group) (rules : List Rule) (a b : Site)
    → site_reaches groups rules a b ≡ flags_let (is_own (holder_of a) (holder_of b)) rules (map (λ r. sends groups r a) rules) (map (λ r. takes groups r b) rules)
reach_of_flags groups [] a b = refl
reach_of_flags groups (r ∷ rules) a b = ap (λ (rest : Bool). lets_through groups a b r || rest) (reach_of_flags groups rules a b)
