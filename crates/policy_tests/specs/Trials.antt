-- Tests by groups and rules, and denials by each rule alone.
use Rattle.std.specs.Prelude.{◌&&◌, ℕ, Bool, not, List, [], Option, if◌then◌else◌}
use Rattle.std.specs.List.{list_all, list_any}
use Rattle.port_sets.specs.Protocols.{has_member}
use Rattle.policy_rows.specs.declared.dest.Dest.{Dest}
use Rattle.policy_rows.specs.declared.group.Group.{Group}
use Rattle.policy_rows.specs.declared.rule.Rule.{Rule}
use Rattle.policy_rows.specs.declared.selector.Selector.{Selector}
use Rattle.policy_rows.specs.declared.test.Test.{Test}
use Rattle.policy_sites.specs.Grants.{ports_hold, some_rule_grants}
use Rattle.policy_sites.specs.declared.end.End.{End}
use Rattle.policy_sites.specs.declared.site.Site.{Site}
use Rattle.policy_tests.specs.Lasting.{is_lasting}
use Rattle.policy_tests.specs.TestEnds.{ends_of}
use Rattle.policy_tests.specs.Tests.{port_of, protos_of}

-- the rules grant the flow between two ends, by one of the protocols
abbrev pub pair_passes : List Group → List Rule → Option ℕ → ℕ → End → End → Bool
pair_passes groups rules proto port s d = list_any (λ p. some_rule_grants groups rules s d p port) (protos_of proto)

-- each pair of two lists is granted
abbrev pub all_pass : List Group → List Rule → Option ℕ → ℕ → List End → List End → Bool
all_pass groups rules proto port ss ds = list_all (λ s. list_all (pair_passes groups rules proto port s) ds) ss

-- some pair of two lists is
abbrev pub some_passes : List Group → List Rule → Option ℕ → ℕ → List End → List End → Bool
some_passes groups rules proto port ss ds = list_any (λ s. list_any (pair_passes groups rules proto port s) ds) ss

-- the same as `is_accepted`, of the groups and rules in force
abbrev pub accepted_by : List Group → List Rule → List Site → Test → Dest → Bool
accepted_by groups rules sites t e =
    all_pass groups rules t.proto (port_of e) (ends_of groups sites t.subject) (ends_of groups sites e.to)

-- the same as `is_denied`
abbrev pub denied_by : List Group → List Rule → List Site → Test → Dest → Bool
denied_by groups rules sites t e =
    not (some_passes groups rules t.proto (port_of e) (ends_of groups sites t.subject) (ends_of groups sites e.to))

-- without the machines: the phantoms of users, groups and tags, and an address's end
abbrev pub core_of : List Group → List Site → Selector → List End
core_of groups sites selector = if is_lasting selector then ends_of groups [] selector else ends_of groups sites selector

-- by one of the protocols, the rule has it and the destination's ports hold the port
abbrev pub is_open : Option ℕ → ℕ → Rule → Dest → Bool
is_open proto port r entry = list_any (λ p. has_member r.protos p && ports_hold entry.ports p port) (protos_of proto)
