-- What it is to read what was stored.
use Rattle.std.specs.Prelude.{◌≡◌, Option, Some, IfSome}

-- What was found is the value that was stored as this, where there is one: `stored` says how values are stored, and
-- `Fits` which values there are.
pub record IsReadBack {T R : Type 0} (stored : T → R) (Fits : T → Type 0) (given : R) (found : Option T) : Type 0 where
  pub is : IfSome found (λ x. (stored x ≡ given) × Fits x)
  pub only : (x : T) → Fits x → stored x ≡ given → found ≡ Some x
