-- The entries of `acls` and `tests`.
use Rattle.std.specs.Prelude.{ℕ, Bool, List, [], ◌∷◌, codes, Option, Some, None, option_and_then, Result, Ok, Err}
use Rattle.std.specs.Option.{option_map, option_or}
use Rattle.std.specs.Str.{bytes_eq}
use Rattle.serde_json.specs.Data.{Data}
use Rattle.serde_json.specs.Find.{as_number, as_str, as_u64}
use Rattle.tail_base.specs.Numerals.{in_range}
use Rattle.port_sets.specs.Protocols.{proto_of_text}
use Rattle.tail_base.specs.Steps.{◌>>=◌, or_fault, refuse_unless}
use Rattle.policy_rows.specs.declared.code.PolicyCode.TheVariants as code
use Rattle.policy_rows.specs.declared.fault.PolicyFault.{PolicyFault}
use Rattle.policy_rows.specs.declared.dest.Dest.{Dest}
use Rattle.policy_rows.specs.declared.names.Names.{Names}
use Rattle.policy_rows.specs.declared.rule.Rule.{Rule}
use Rattle.policy_rows.specs.declared.selector.Selector.{Selector}
use Rattle.policy_rows.specs.declared.test.Test.{Test}
use Rattle.policy_rows.specs.Dests.{dest_at, needs_star, test_dest_at}
use Rattle.policy_rows.specs.Faults.{fault_at, under}
use Rattle.policy_rows.specs.Selectors.{source_at, test_end_at}
use Rattle.policy_doc.specs.declared.limits.TheConstants.{LIST_LIMIT}
use Rattle.policy_doc.specs.Keys.{keys_of, section}
use Rattle.policy_doc.specs.Walks.{list_of, object_at, or_empty, text_at}

-- the only action
abbrev pub action_at : List ℕ → Option Data → Result (Unit {0}) PolicyFault
action_at place d = do
  text ← or_fault (fault_at code.BadAction place) (option_and_then as_str d)
  refuse_unless (bytes_eq text (codes "accept")) (fault_at code.BadAction place)

-- a protocol: its name, or its number as a text or a number
abbrev pub proto_of : Data → Option ℕ
proto_of d = option_or (option_and_then proto_of_text (as_str d)) (in_range 1 255 (option_and_then as_u64 (as_number d)))

-- the protocol that is given, if one is
unfoldable pub proto_at : List ℕ → Option Data → Result (Option ℕ) PolicyFault
proto_at place None = Ok None
proto_at place (Some d) = or_fault (fault_at code.BadProto place) (option_map Some (proto_of d))

-- a source of a rule
unfoldable pub source_text : Names → List ℕ → Data → Result Selector PolicyFault
source_text names place d = do
  text ← text_at place d
  source_at names place text

-- a destination of a rule
unfoldable pub dest_text : Bool → Names → List ℕ → Data → Result Dest PolicyFault
dest_text only_all names place d = do
  text ← text_at place d
  dest_at only_all names place text

-- a list that has to be there
abbrev pub list_due : {A : Type 0} → (List ℕ → Data → Result A PolicyFault) → List ℕ → Option Data → Result (List A) PolicyFault
list_due read place None = Err (fault_at code.WrongShape place)
list_due read place (Some d) = list_of LIST_LIMIT read place d

-- an entry of `acls`
unfoldable pub rule_at : Names → List ℕ → Data → Result Rule PolicyFault
rule_at names place d = do
  ms ← object_at place d
  _ ← keys_of place (codes "action" ∷ codes "proto" ∷ codes "src" ∷ codes "users" ∷ codes "dst" ∷ codes "ports" ∷ []) (codes "srcPosture" ∷ []) [] ms
  _ ← action_at (under place (codes "action")) (section (codes "action") ms)
  proto ← proto_at (under place (codes "proto")) (section (codes "proto") ms)
  sources ← list_due (source_text names) (under place (codes "src")) (section (codes "src") ms)
  dests ← list_due (dest_text (needs_star proto) names) (under place (codes "dst")) (section (codes "dst") ms)
  Ok (record { protos = proto; sources = sources; dests = dests })

-- the subject of a test
abbrev pub subject_at : Names → List ℕ → Option Data → Result Selector PolicyFault
subject_at names place None = Err (fault_at code.BadTest place)
subject_at names place (Some d) = do
  text ← text_at place d
  test_end_at names place text

-- a destination of a test
unfoldable pub test_dest_text : Names → List ℕ → Data → Result Dest PolicyFault
test_dest_text names place d = do
  text ← text_at place d
  test_dest_at names place text

-- an entry of `tests`
unfoldable pub test_at : Names → List ℕ → Data → Result Test PolicyFault
test_at names place d = do
  ms ← object_at place d
  _ ← keys_of place (codes "src" ∷ codes "proto" ∷ codes "accept" ∷ codes "deny" ∷ []) (codes "srcPostureAttrs" ∷ []) [] ms
  proto ← proto_at (under place (codes "proto")) (section (codes "proto") ms)
  subject ← subject_at names (under place (codes "src")) (section (codes "src") ms)
  accept ← or_empty (list_of LIST_LIMIT (test_dest_text names) (under place (codes "accept"))) (section (codes "accept") ms)
  deny ← or_empty (list_of LIST_LIMIT (test_dest_text names) (under place (codes "deny"))) (section (codes "deny") ms)
  Ok (record { subject = subject; proto = proto; accept = accept; deny = deny })
