-- Whether a policy passes its tests, and the first that it fails.
use Rattle.std.specs.Prelude.{◌+◌, ℕ, Bool, true, false, not, List, [], ◌∷◌, Option, Some, None, Result, Ok, Err, codes, if◌then◌else◌}
use Rattle.std.specs.List.{list_all, list_any, position_from}
use Rattle.std.specs.Option.{option_map, option_or}
use Rattle.port_sets.specs.declared.range.PortRange.{PortRange}
use Rattle.policy_rows.specs.Faults.{fault_at, indexed, under}
use Rattle.policy_rows.specs.declared.code.PolicyCode.TheVariants as code
use Rattle.policy_rows.specs.declared.dest.Dest.{Dest}
use Rattle.policy_rows.specs.declared.fault.PolicyFault.{PolicyFault}
use Rattle.policy_rows.specs.declared.policy.Policy.{Policy}
use Rattle.policy_rows.specs.declared.test.Test.{Test}
use Rattle.policy_sites.specs.Grants.{grants}
use Rattle.policy_sites.specs.declared.end.End.{End}
use Rattle.policy_sites.specs.declared.site.Site.{Site}
use Rattle.policy_tests.specs.TestEnds.{ends_of}
use Rattle.policy_tests.specs.declared.failure.TestFailure.{TestFailure}

-- the test's protocol, or without one TCP and UDP, of which either does
abbrev pub protos_of : Option ℕ → List ℕ
protos_of None = 6 ∷ 17 ∷ []
protos_of (Some proto) = proto ∷ []

-- the least port of some; a test's destination has one alone
abbrev pub first_port : List PortRange → ℕ
first_port [] = 0
first_port (range ∷ ranges) = range.first

-- the port of a test's destination
abbrev pub port_of : Dest → ℕ
port_of e = first_port e.ports

-- the policy grants the flow between two ends, by one of the protocols
abbrev pub pair_granted : Policy → Option ℕ → ℕ → End → End → Bool
pair_granted policy proto port s d = list_any (λ p. grants (Some policy) s d p port) (protos_of proto)

-- Each pair is granted.
abbrev pub is_accepted : Policy → List Site → Test → Dest → Bool
is_accepted policy sites t e =
    list_all (λ s. list_all (pair_granted policy t.proto (port_of e) s) (ends_of policy.groups sites e.to))
    (ends_of policy.groups sites t.subject)

-- No pair is granted.
abbrev pub is_denied : Policy → List Site → Test → Dest → Bool
is_denied policy sites t e =
    not (list_any (λ s. list_any (pair_granted policy t.proto (port_of e) s) (ends_of policy.groups sites e.to))
    (ends_of policy.groups sites t.subject))

-- the first entry of a test's `accept` or `deny` that doesn't pass
abbrev pub entry_failure : ℕ → Bool → (Dest → Bool) → List Dest → Option TestFailure
entry_failure test accept passes entries =
    option_map (λ index. record { test = test; accept = accept; index = index }) (position_from (λ e. not (passes e)) 0 entries)

-- the first entry of a test that doesn't pass: `accept` goes before `deny`
abbrev pub test_failure : (Test → Dest → Bool) → (Test → Dest → Bool) → ℕ → Test → Option TestFailure
test_failure accepted denied at t = option_or (entry_failure at true (accepted t) t.accept) (entry_failure at false (denied t) t.deny)

-- the first of the tests, which are counted from that place
abbrev pub failure_from : (Test → Dest → Bool) → (Test → Dest → Bool) → ℕ → List Test → Option TestFailure
failure_from accepted denied at [] = None
failure_from accepted denied at (t ∷ ts) = option_or (test_failure accepted denied at t) (failure_from accepted denied (at + 1) ts)

-- The first failure of a policy's tests over these machines.
abbrev pub first_failure : Policy → List Site → Option TestFailure
first_failure policy sites = failure_from (is_accepted policy sites) (is_denied policy sites) 0 policy.tests

-- `accept` or `deny`
abbrev pub list_name : Bool → List ℕ
list_name accept = if accept then codes "accept" else codes "deny"

-- where the entry stands: `tests[i].accept[j]` or `tests[i].deny[j]`
abbrev pub place_of : TestFailure → List ℕ
place_of f = indexed (under (indexed (codes "tests") f.test) (list_name f.accept)) f.index

-- the failure as a fault of the policy
abbrev pub failure_fault : Option TestFailure → Result (Unit {0}) PolicyFault
failure_fault None = Ok tt
failure_fault (Some f) = Err (fault_at code.TestFailed (place_of f))

-- The policy passes its tests over these machines, or else its first failure is its fault.
abbrev pub tested : Policy → List Site → Result (Unit {0}) PolicyFault
tested policy sites = failure_fault (first_failure policy sites)
