-- What steps that went well have shown, and that the first fault ends them.
use Rattle.std.proofs.Common.{◌≡◌, Bool, true, false, not, Option, Some, None, Result, Ok, Err, refl}
use Rattle.tail_base.specs.Steps.{◌>>=◌, Fails, or_fault, refuse_if, refuse_unless}
use Rattle.tail_base.specs.declared.failure.Failure.{Failure}
use Rattle.tail_base.specs.declared.failure.Failure.TheVariants.{NoMemory, Fault}

pub bind_parts : {A B E : Type 0} (r : Result A E) (f : A → Result B E) (y : B) → (r >>= f) ≡ Ok y → (x : A) × (r ≡ Ok x) × (f x ≡ Ok y)
bind_parts (Ok x) f y h = (x, refl, h)
bind_parts (Err e) f y h = absurd (cc)

pub fault_parts : {A E : Type 0} (e : E) (o : Option A) (x : A) → or_fault e o ≡ Ok x → o ≡ Some x
fault_parts e None x h = absurd (cc)
fault_parts e (Some y) x h = cc

pub due_parts : {A B E : Type 0} (e : E) (o : Option A) (f : A → Result B E) (y : B) → (or_fault e o >>= f) ≡ Ok y → (x : A) × (o ≡ Some x) × (f x ≡ Ok y)
due_parts e None f y h = absurd (cc)
due_parts e (Some x) f y h = (x, refl, h)

pub check_parts : {B E : Type 0} (b : Bool) (e : E) (f : Unit {0} → Result B E) (y : B) → (refuse_unless b e >>= f) ≡ Ok y → (b ≡ true) × (f tt ≡ Ok y)
check_parts true e f y h = (refl, h)
check_parts false e f y h = absurd (cc)

pub unless_parts : {E : Type 0} (b : Bool) (e : E) (u : Unit {0}) → refuse_unless b e ≡ Ok u → b ≡ true
unless_parts true e u h = refl
unless_parts false e u h = absurd (cc)

pub if_parts : {E : Type 0} (b : Bool) (e : E) (u : Unit {0}) → refuse_if b e ≡ Ok u → b ≡ false
if_parts true e u h = absurd (cc)
if_parts false e u h = refl

-- the test passed, since its failure would have been refused
pub not_parts : {E : Type 0} (b : Bool) (e : E) (u : Unit {0}) → refuse_if (not b) e ≡ Ok u → b ≡ true
not_parts true e u h = refl
not_parts false e u h = absurd (cc)

-- the fault of a first step ends the others
pub fails_first : {A B F : Type 0} (e : Failure F) (first : Result A F) (next : A → Result B F) → Fails e first → Fails e (first >>= next)
fails_first (Fault f) first next same = rw same refl
fails_first NoMemory first next same = tt
