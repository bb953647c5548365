-- What holds of each decision that steps may result in.
use Rattle.std.proofs.Common.{◌≡◌, Bool, true, false, Option, Some, None, Result, Ok, Err, if◌then◌else◌, refl, subst}
use Rattle.net_rows.specs.declared.machine.Machine.{Machine}
use Rattle.tail_base.specs.Steps.{◌>>=◌, or_fault, refuse_if}
use Rattle.desk_state.specs.declared.decision.Decision.{Decision}
use Rattle.desk_state.specs.declared.refusal.Refusal.{Refusal}
use Rattle.machine_asks.specs.Register.{of_row}
use Rattle.machine_asks.specs.declared.answer.MachineAnswer.{MachineAnswer}

-- the decision, if there is one, is such
abbrev pub Every : {A : Type 0} → (A → Type 0) → Result A Refusal → Type 0
Every {A} P r = (d : A) → r ≡ Ok d → P d

pub every_err : {A : Type 0} (P : A → Type 0) (e : Refusal) → Every P (Err e)
every_err P e d is = absurd (cc)

pub every_ok : {A : Type 0} (P : A → Type 0) (x : A) → P x → Every P (Ok x)
every_ok P x h d is = let same : x ≡ d = cc in subst P same h

pub every_if : {A : Type 0} (P : A → Type 0) (b : Bool) (x y : Result A Refusal) → (b ≡ true → Every P x) → (b ≡ false → Every P y) → Every P (if b then x else y)
every_if P true x y h k = h refl
every_if P false x y h k = k refl

pub every_bind : {A B : Type 0} (P : A → Type 0) (r : Result B Refusal) (f : B → Result A Refusal) → ((x : B) → r ≡ Ok x → Every P (f x)) → Every P (r >>= f)
every_bind P (Ok x) f h = h x refl
every_bind P (Err e) f h = every_err P e

pub every_refuse : {A : Type 0} (P : A → Type 0) (b : Bool) (e : Refusal) (f : Unit {0} → Result A Refusal) → (b ≡ false → Every P (f tt)) → Every P (refuse_if b e >>= f)
every_refuse P true e f h = every_err P e
every_refuse P false e f h = h refl

pub every_or : {A B : Type 0} (P : A → Type 0) (e : Refusal) (o : Option B) (f : B → Result A Refusal) → ((x : B) → o ≡ Some x → Every P (f x)) → Every P (or_fault e o >>= f)
every_or P e (Some x) f h = h x refl
every_or P e None f h = every_err P e

-- one decision or another
pub either_of : {A : Type 0} (P : A → Type 0) (b : Bool) (x y : A) → (b ≡ true → P x) → (b ≡ false → P y) → P (if b then x else y)
either_of P true x y h k = h refl
either_of P false x y h k = k refl

-- a rule for the machine's row, and the later rules
pub every_of_row : (P : Decision MachineAnswer → Type 0) (held : Option Machine) (fits : Machine → Bool) (decides : Machine → Decision MachineAnswer) (later : Result (Decision MachineAnswer) Refusal)
    → ((m : Machine) → held ≡ Some m → P (decides m)) → Every P later → Every P (of_row held fits decides later)
every_of_row P None fits decides later h k = k
every_of_row P (Some m) fits decides later h k = every_if P (fits m) (Ok (decides m)) later (λ _. every_ok P (decides m) (h m refl)) (λ _. k)
