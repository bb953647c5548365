-- The first rule that grants a flow, and the first of its destinations that does.
use Rattle.std.specs.Prelude.{◌≡◌, ◌<◌, ◌+◌, ◌&&◌, ℕ, Bool, true, false, List, [], ◌∷◌, Option, Some, None, slice_get, if◌then◌else◌}
use Rattle.std.specs.List.{position_from}
use Rattle.std.specs.Option.{option_map, option_map_or, option_or}
use Rattle.net_addr.specs.Bits.{Address}
use Rattle.net_rows.specs.declared.rows.Rows.{Rows}
use Rattle.port_sets.specs.Protocols.{has_member}
use Rattle.policy_rows.specs.declared.group.Group.{Group}
use Rattle.policy_rows.specs.declared.policy.Policy.{Policy}
use Rattle.policy_rows.specs.declared.rule.Rule.{Rule}
use Rattle.policy_sites.specs.Ends.{end_at}
use Rattle.policy_sites.specs.Grants.{entry_grants, groups_of, rules_of, some_source}
use Rattle.policy_sites.specs.Sites.{sites_of}
use Rattle.policy_sites.specs.declared.end.End.{End}
use Rattle.reach_report.specs.declared.granted.Granted.{Granted}

-- Rule and destination alone grant the flow: the rule has the protocol and one of its sources, and its destination at that place covers the
-- end and holds the port.
abbrev pub entry_alone : List Group → End → End → ℕ → ℕ → Rule → ℕ → Bool
entry_alone groups s d proto port r k =
    has_member r.protos proto && some_source groups r s && option_map_or (entry_grants groups s d proto port) (slice_get r.dests k) false

-- the same of numbers: of the rule among these, and of the destination within it
abbrev pub granted_alone : List Group → List Rule → End → End → ℕ → ℕ → Granted → Bool
granted_alone groups rules s d proto port g = option_map_or (λ r. entry_alone groups s d proto port r g.entry) (slice_get rules g.rule) false

-- the first of the rule's destinations that alone grants the flow
abbrev pub first_entry : List Group → End → End → ℕ → ℕ → Rule → Option ℕ
first_entry groups s d proto port r =
    if has_member r.protos proto && some_source groups r s then position_from (entry_grants groups s d proto port) 0 r.dests else None

-- the first of these rules that has one, with it; they are counted from that number
abbrev pub first_of_rules : List Group → End → End → ℕ → ℕ → ℕ → List Rule → Option Granted
first_of_rules groups s d proto port at [] = None
first_of_rules groups s d proto port at (r ∷ rules) =
    option_or (option_map (λ entry. record { rule = at; entry = entry }) (first_entry groups s d proto port r)) (first_of_rules groups s d proto port (at + 1) rules)

-- The first rule of the policy that grants the flow, and the first of its destinations that does.
abbrev pub first_grant : Option Policy → End → End → ℕ → ℕ → Option Granted
first_grant policy s d proto port = first_of_rules (groups_of policy) s d proto port 0 (rules_of policy)

-- the same of two addresses, over the live machines, whose ids these are
abbrev pub first_grant_at : Option Policy → Rows → List ℕ → Address → Address → ℕ → ℕ → Option Granted
first_grant_at policy rows live source dest proto port =
    first_grant policy (end_at (sites_of policy rows live) source) (end_at (sites_of policy rows live) dest) proto port

-- Alone they grant the flow. No rule before does, by whichever of its destinations, and none of the rule's destinations before.
pub record IsFirstGrant (policy : Option Policy) (s d : End) (proto port : ℕ) (g : Granted) : Type 0 where
  pub grants : granted_alone (groups_of policy) (rules_of policy) s d proto port g ≡ true
  pub rules : (rule entry : ℕ) → rule < g.rule → granted_alone (groups_of policy) (rules_of policy) s d proto port (record { rule = rule; entry = entry }) ≡ false
  pub entries : (entry : ℕ) → entry < g.entry → granted_alone (groups_of policy) (rules_of policy) s d proto port (record { rule = g.rule; entry = entry }) ≡ false
