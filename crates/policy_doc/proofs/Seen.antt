-- A refusal says nothing of what would have been read.
use Rattle.std.proofs.Common.{Result, Ok, Err}
use Rattle.tail_base.specs.declared.failure.Failure.{Failure}
use Rattle.tail_base.specs.declared.failure.Failure.TheVariants.{NoMemory, Fault}
use Rattle.tail_base.specs.Steps.{Gives}

pub seen_refused : {A B F : Type 0} (view : A → B) (r : Result A (Failure F)) (f : F) → Gives (λ x. x) r (Err f) → Gives view r (Err f)
seen_refused view (Ok x) f h = absurd (cc)
seen_refused view (Err NoMemory) f h = tt
seen_refused view (Err (Fault other)) f h = cc
