-- The entries of `grants`. Each element of an entry's `ip` gives one rule. The rules before come along,
-- since all `ip` lists together have a limit.
use Rattle.std.specs.Prelude.{ℕ, ◌+◌, ◌++◌, List, [], ◌∷◌, length, map, nat_le, codes, Option, Some, None, Result, Ok, Err}
use Rattle.serde_json.specs.Data.{Data, Items, no_items, item}
use Rattle.serde_json.specs.Find.{as_array}
use Rattle.tail_base.specs.Steps.{◌>>=◌, or_fault, refuse_unless}
use Rattle.policy_rows.specs.declared.code.PolicyCode.TheVariants as code
use Rattle.policy_rows.specs.declared.dest.Dest.{Dest}
use Rattle.policy_rows.specs.declared.fault.PolicyFault.{PolicyFault}
use Rattle.policy_rows.specs.declared.flow.Flow.{Flow}
use Rattle.policy_rows.specs.declared.names.Names.{Names}
use Rattle.policy_rows.specs.declared.rule.Rule.{Rule}
use Rattle.policy_rows.specs.declared.selector.Selector.{Selector}
use Rattle.port_sets.specs.declared.range.PortRange.{PortRange}
use Rattle.policy_rows.specs.Faults.{fault_at, indexed, under}
use Rattle.policy_rows.specs.Flows.{flow_at}
use Rattle.policy_rows.specs.Selectors.{selector_at}
use Rattle.policy_doc.specs.declared.limits.TheConstants.{ENTRY_LIMIT, LIST_LIMIT, RULE_LIMIT}
use Rattle.policy_doc.specs.Keys.{keys_of, section}
use Rattle.policy_doc.specs.Rules.{list_due, source_text}
use Rattle.policy_doc.specs.Walks.{each, items_count, object_at, text_at}

-- a destination of a grant: a selector without ports
unfoldable pub selector_text : Names → List ℕ → Data → Result Selector PolicyFault
selector_text names place d = do
  text ← text_at place d
  selector_at names place text

-- an element of `ip`
unfoldable pub flow_text : Names → List ℕ → Data → Result Flow PolicyFault
flow_text names place d = do
  text ← text_at place d
  flow_at place text

-- the elements of `ip`, behind so many rules; each of them is a rule more
unfoldable pub flows_at : Names → ℕ → List ℕ → Data → Result (List Flow) PolicyFault
flows_at names behind place d = do
  ds ← or_fault (fault_at code.WrongShape place) (as_array d)
  _ ← refuse_unless (nat_le (items_count ds) LIST_LIMIT) (fault_at code.TooMany place)
  _ ← refuse_unless (nat_le (behind + items_count ds) RULE_LIMIT) (fault_at code.TooMany place)
  each (flow_text names) place 0 ds

-- `ip` has to be there
abbrev pub flows_due : Names → ℕ → List ℕ → Option Data → Result (List Flow) PolicyFault
flows_due names behind place None = Err (fault_at code.WrongShape place)
flows_due names behind place (Some d) = flows_at names behind place d

-- each of the destinations, with these ports
abbrev pub dests_to : List PortRange → List Selector → List Dest
dests_to ports tos = map (λ to. record { to = to; ports = ports }) tos

-- the rule of an element of `ip`: from all sources of the entry to all its destinations
abbrev pub rule_of_flow : List Selector → List Selector → Flow → Rule
rule_of_flow sources tos flow = record { protos = flow.protos; sources = sources; dests = dests_to flow.ports tos }

-- an entry: the rules before, and behind them one for each element of its `ip`
unfoldable pub grant_at : Names → List Rule → List ℕ → Data → Result (List Rule) PolicyFault
grant_at names before place d = do
  ms ← object_at place d
  _ ← keys_of place (codes "src" ∷ codes "dst" ∷ codes "ip" ∷ []) (codes "srcPosture" ∷ codes "app" ∷ codes "via" ∷ []) [] ms
  sources ← list_due (source_text names) (under place (codes "src")) (section (codes "src") ms)
  tos ← list_due (selector_text names) (under place (codes "dst")) (section (codes "dst") ms)
  flows ← flows_due names (length before) (under place (codes "ip")) (section (codes "ip") ms)
  Ok (before ++ map (rule_of_flow sources tos) flows)

-- the entries behind so many, one after another
abbrev pub grants_onto : Names → List Rule → List ℕ → ℕ → Items → Result (List Rule) PolicyFault
grants_onto names before place n no_items = Ok before
grants_onto names before place n (item d ds) = do
  rules ← grant_at names before (indexed place n) d
  grants_onto names rules place (n + 1) ds

-- a list of entries
unfoldable pub grants_at : Names → List Rule → List ℕ → Data → Result (List Rule) PolicyFault
grants_at names before place d = do
  ds ← or_fault (fault_at code.WrongShape place) (as_array d)
  _ ← refuse_unless (nat_le (items_count ds) ENTRY_LIMIT) (fault_at code.TooMany place)
  grants_onto names before place 0 ds

-- the rules of `acls`, and behind them those of `grants`
abbrev pub with_grants : Names → List Rule → Option Data → Result (List Rule) PolicyFault
with_grants names before None = Ok before
with_grants names before (Some d) = grants_at names before (codes "grants") d
