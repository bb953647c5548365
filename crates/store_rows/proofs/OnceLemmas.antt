-- What a row is read as is determined: two answers that are exact are one.
use Rattle.std.proofs.Common.{◌≡◌, Option, Some, None, refl, sym}
use Rattle.store_rows.specs.Reads.{IsReadBack}

pub read_once : {T R : Type 0} (stored : T → R) (Fits : T → Type 0) (given : R) (f g : Option T) → IsReadBack stored Fits given f → IsReadBack stored Fits given g → f ≡ g
read_once stored Fits given None None left right = refl
read_once stored Fits given None (Some y) left right = left.only y right.is.1 right.is.0
read_once stored Fits given (Some x) g left right = sym (right.only x left.is.1 left.is.0)
