-- Which flows a policy grants: a search of its rules.
use Rattle.std.specs.Prelude.{◌&&◌, ◌||◌, ℕ, Bool, not, List, [], ◌∷◌, Option, Some, None}
use Rattle.std.specs.List.{list_any}
use Rattle.port_sets.specs.Protocols.{has_member, is_ported}
use Rattle.port_sets.specs.Ranges.{holds}
use Rattle.port_sets.specs.declared.range.PortRange.{PortRange}
use Rattle.policy_rows.specs.declared.dest.Dest.{Dest}
use Rattle.policy_rows.specs.declared.group.Group.{Group}
use Rattle.policy_rows.specs.declared.policy.Policy.{Policy}
use Rattle.policy_rows.specs.declared.rule.Rule.{Rule}
use Rattle.policy_rows.specs.declared.selector.Selector.TheVariants as sel
use Rattle.policy_sites.specs.Covers.{covers, dest_covers}
use Rattle.policy_sites.specs.declared.end.End.{End}

-- `*:*`
abbrev pub open_dest : Dest
open_dest = record { to = sel.All; ports = record { first = 0; last = 65535 } ∷ [] }

-- the rule from `*` to `*:*`, without a protocol
abbrev pub open_rule : Rule
open_rule = record { protos = None; sources = sel.All ∷ []; dests = open_dest ∷ [] }

-- a policy's rules; one with neither `acls` nor `grants` lets everything through
abbrev pub rules_or_open : Option (List Rule) → List Rule
rules_or_open None = open_rule ∷ []
rules_or_open (Some rules) = rules

-- the rules in force; without a policy everything goes through
abbrev pub rules_of : Option Policy → List Rule
rules_of None = open_rule ∷ []
rules_of (Some policy) = rules_or_open policy.rules

-- the groups in force
abbrev pub groups_of : Option Policy → List Group
groups_of None = []
groups_of (Some policy) = policy.groups

-- one of the rule's sources covers the end
abbrev pub some_source : List Group → Rule → End → Bool
some_source groups r s = list_any (λ source. covers groups source s) r.sources

-- the ports hold the port, or the protocol has none
abbrev pub ports_hold : List PortRange → ℕ → ℕ → Bool
ports_hold ports proto port = not (is_ported proto) || holds ports port

-- the destination covers the end, and its ports hold the port
abbrev pub entry_grants : List Group → End → End → ℕ → ℕ → Dest → Bool
entry_grants groups s d proto port entry = dest_covers groups entry.to s d && ports_hold entry.ports proto port

-- the rule has the protocol, one of its sources, and one of its destinations
abbrev pub rule_grants : List Group → End → End → ℕ → ℕ → Rule → Bool
rule_grants groups s d proto port r =
    has_member r.protos proto && some_source groups r s && list_any (entry_grants groups s d proto port) r.dests

-- some rule grants the flow
abbrev pub some_rule_grants : List Group → List Rule → End → End → ℕ → ℕ → Bool
some_rule_grants groups rules s d proto port = list_any (rule_grants groups s d proto port) rules

-- The policy grants the flow.
abbrev pub grants : Option Policy → End → End → ℕ → ℕ → Bool
grants policy s d proto port = some_rule_grants (groups_of policy) (rules_of policy) s d proto port
