-- Steps that may fail: the first fault ends them.
use Rattle.std.specs.Prelude.{◌≡◌, Bool, Option, Some, None, Result, Ok, Err, if◌then◌else◌}
use Rattle.tail_base.specs.declared.failure.Failure.{Failure}
use Rattle.tail_base.specs.declared.failure.Failure.TheVariants.{NoMemory, Fault}

-- the second step, of the first one's value
infixl 10 ◌>>=◌
abbrev pub ◌>>=◌ : {A B E : Type 0} → Result A E → (A → Result B E) → Result B E
(Ok x) >>= f = f x
(Err e) >>= f = Err e

-- the value, or that fault where there is none
abbrev pub or_fault : {A E : Type 0} → E → Option A → Result A E
or_fault e None = Err e
or_fault e (Some x) = Ok x

-- that fault where the test passes
abbrev pub refuse_if : {E : Type 0} → Bool → E → Result (Unit {0}) E
refuse_if b e = if b then Err e else Ok tt

-- that fault unless the test passes
abbrev pub refuse_unless : {E : Type 0} → Bool → E → Result (Unit {0}) E
refuse_unless b e = if b then Ok tt else Err e

-- A failure is the fault of the steps; out of memory says nothing of them.
abbrev pub Fails : {B F : Type 0} → Failure F → Result B F → Type 0
Fails NoMemory steps = Unit {0}
Fails (Fault f) steps = steps ≡ Err f

-- What a call answered, seen by view, is what the steps give, unless memory ran out.
abbrev pub Gives : {A B F : Type 0} → (A → B) → Result A (Failure F) → Result B F → Type 0
Gives view (Ok x) steps = steps ≡ Ok (view x)
Gives view (Err e) steps = Fails e steps
