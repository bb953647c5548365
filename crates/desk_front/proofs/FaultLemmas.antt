-- The answer to what a body gives, if it has a fault.
use Rattle.std.proofs.Common.{◌≡◌, ◌∙◌, Result, Ok, Err, IfOk, sym, ap}
use Rattle.std.specs.Prelude.{IsErr}
use Rattle.std.proofs.lemmas.Result.{IfOk-weaker}
use Rattle.tail_base.specs.Steps.{Fails}
use Rattle.tail_base.specs.declared.failure.Failure.{Failure}
use Rattle.tail_base.specs.declared.failure.Failure.TheVariants as failure
use Rattle.wire_json.specs.declared.fault.WireFault.{WireFault}
use Rattle.desk_front.specs.Faults.{IsAnswerTo, unless_faulty}
use Rattle.desk_front.specs.declared.want.Wanted.{Wanted}

-- if there is no value, whatever is said of one
no_value : {E : Type 0} (out : Result Wanted E) (P : Wanted → Type 0) → IsErr out → IfOk out P
no_value (Ok w) P h = absurd (cc)
no_value (Err e) P h = tt

-- a fault of the body is what is answered, unless memory ran out
pub faulty : {X E : Type 0} (f : Failure WireFault) (read : Result X WireFault) (wants : X → Wanted)
    (out : Result Wanted E) → Fails f read → IsAnswerTo f out
    → IfOk out (λ w. w ≡ unless_faulty wants read)
faulty failure.NoMemory read wants out h is = no_value out _ is
faulty (failure.Fault f) read wants out h is =
    IfOk-weaker out _ _ (λ w e. e ∙ ap (unless_faulty wants) (sym h)) is
