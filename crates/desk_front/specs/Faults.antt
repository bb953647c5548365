-- Fixed answers, each of which names a fault.
use Rattle.std.specs.Prelude.{◌≡◌, ℕ, List, ◌++◌, Result, Ok, Err, IfOk, IsErr, codes}
use Rattle.tail_base.specs.declared.failure.Failure.{Failure}
use Rattle.tail_base.specs.declared.failure.Failure.TheVariants as failure
use Rattle.wire_json.specs.Fields.{field_name}
use Rattle.wire_json.specs.declared.fault.WireFault.{WireFault}
use Rattle.wire_json.specs.declared.fault.WireFault.TheVariants as fault
use Rattle.desk_front.specs.declared.want.Wanted.{Wanted}
use Rattle.desk_front.specs.declared.want.Wanted.TheVariants as wants

-- the body that names a fault
abbrev pub error_body : List ℕ → List ℕ
error_body name = codes "{\"error\":\"" ++ name ++ codes "\"}"

-- the body that names a fault and its field
abbrev pub field_body : List ℕ → List ℕ → List ℕ
field_body name at = codes "{\"error\":\"" ++ name ++ codes "\",\"field\":\"" ++ at ++ codes "\"}"

-- the fixed answer that names a fault
abbrev pub fault_answer : ℕ → List ℕ → Wanted
fault_answer status name = wants.Answer status (error_body name)

-- a field's fault
abbrev pub field_answer : List ℕ → List ℕ → Wanted
field_answer name at = wants.Fault (field_body name at)

-- a fault of the body
abbrev pub body_answer : WireFault → Wanted
body_answer fault.NotJson = wants.Fault (error_body (codes "NotJson"))
body_answer fault.Compressed = wants.Fault (error_body (codes "Compressed"))
body_answer (fault.Missing f) = field_answer (codes "Missing") (field_name f)
body_answer (fault.BadField f) = field_answer (codes "BadField") (field_name f)

-- the answer to a failure is that to its fault; out of memory has none
abbrev pub IsAnswerTo : {E : Type 0} → Failure WireFault → Result Wanted E → Type 0
IsAnswerTo failure.NoMemory out = IsErr out
IsAnswerTo (failure.Fault f) out = IfOk out (λ w. w ≡ body_answer f)

-- what the body says is wanted, or its first fault is answered
abbrev pub unless_faulty : {X : Type 0} → (X → Wanted) → Result X WireFault → Wanted
unless_faulty f (Ok x) = f x
unless_faulty f (Err first) = body_answer first
