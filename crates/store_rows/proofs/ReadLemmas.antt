-- Reading by a guess that is compared with what is stored of it.
use Rattle.std.proofs.Common.{◌≡◌, Bool, true, false, Option, Some, None, sym, ap, ◌∙◌}
use Rattle.std.specs.Prelude.{◌↔◌, IsTrue}
use Rattle.store_rows.specs.Reads.{IsReadBack}

-- what is stored of a value lets it be guessed
abbrev pub Guesses : {T R : Type 0} → (T → R) → (T → Type 0) → (R → Option T) → Type 0
Guesses {T} stored Fits guess = (x : T) → Fits x → guess (stored x) ≡ Some x

-- nothing is guessed
pub guess_none : {T R : Type 0} (stored : T → R) (Fits : T → Type 0) (guess : R → Option T) (given : R) → Guesses stored Fits guess → guess given ≡ None
    → IsReadBack stored Fits given None
guess_none stored Fits guess given again none = record {
  is = tt;
  only = λ x fit e. sym none ∙ ap guess (sym e) ∙ again x fit;
}

-- what is guessed is stored so
pub guess_same : {T R : Type 0} (stored : T → R) (Fits : T → Type 0) (guess : R → Option T) (given : R) (y : T) → Guesses stored Fits guess → guess given ≡ Some y
    → Fits y → stored y ≡ given → IsReadBack stored Fits given (Some y)
guess_same stored Fits guess given y again some fits same = record {
  is = (same, fits);
  only = λ x fit e. sym some ∙ ap guess (sym e) ∙ again x fit;
}

-- what is guessed is stored otherwise
pub guess_other : {T R : Type 0} (stored : T → R) (Fits : T → Type 0) (guess : R → Option T) (given : R) (y : T) → Guesses stored Fits guess → guess given ≡ Some y
    → (stored y ≡ given → ⊥) → IsReadBack stored Fits given None
guess_other stored Fits guess given y again some other = record {
  is = tt;
  only = λ x fit e.
      let both : Some x ≡ Some y = sym (again x fit) ∙ ap guess e ∙ some in
      let same : y ≡ x = cc (both) in
      absurd (other (ap stored same ∙ e));
}

-- no two values are stored as one
pub guess_differ : {T R : Type 0} (stored : T → R) (Fits : T → Type 0) (guess : R → Option T) → Guesses stored Fits guess → (x y : T) → Fits x → Fits y → stored x ≡ stored y → x ≡ y
guess_differ stored Fits guess again x y left right same =
    let both : Some x ≡ Some y = sym (again x left) ∙ ap guess same ∙ again y right in
    cc (both)

-- what is guessed is compared, and is stored so
pub guess_judged : {T R : Type 0} (stored : T → R) (Fits : T → Type 0) (guess : R → Option T) (given : R) (y : T) (b : Bool) → Guesses stored Fits guess → guess given ≡ Some y
    → Fits y → IsTrue b ↔ (stored y ≡ given) → b ≡ true → IsReadBack stored Fits given (Some y)
guess_judged stored Fits guess given y b again some fits judged h = guess_same stored Fits guess given y again some fits (judged.0 h)

-- what is guessed is compared, and is stored otherwise
pub guess_refused : {T R : Type 0} (stored : T → R) (Fits : T → Type 0) (guess : R → Option T) (given : R) (y : T) (b : Bool) → Guesses stored Fits guess → guess given ≡ Some y
    → IsTrue b ↔ (stored y ≡ given) → b ≡ false → IsReadBack stored Fits given None
guess_refused stored Fits guess given y b again some judged h =
    guess_other stored Fits guess given y again some (λ e. let there : b ≡ true = judged.1 e in let bad : true ≡ false = sym there ∙ h in cc (bad))

-- Values are read as the columns that they stand for: `of` gives the columns of a value, `back` the value of columns.
pub columns_none : {T P R : Type 0} (stored : T → R) (Fits : T → Type 0) (part : P → R) (PartFits : P → Type 0) (given : R) (of : T → P) → ((x : T) → part (of x) ≡ stored x)
    → ((x : T) → Fits x → PartFits (of x)) → IsReadBack part PartFits given None → IsReadBack stored Fits given None
columns_none stored Fits part PartFits given of same fits read = record {
  is = tt;
  only = λ x fit e. let bad : None ≡ Some (of x) = read.only (of x) (fits x fit) (same x ∙ e) in absurd (cc (bad));
}

pub columns_some : {T P R : Type 0} (stored : T → R) (Fits : T → Type 0) (part : P → R) (PartFits : P → Type 0) (given : R) (p : P) → IsReadBack part PartFits given (Some p) → (of : T → P) (back : P → T) → ((x : T) → part (of x) ≡ stored x)
    → ((x : T) → Fits x → PartFits (of x)) → ((x : T) → back (of x) ≡ x) → ((q : P) → stored (back q) ≡ part q) → ((q : P) → PartFits q → Fits (back q))
    → IsReadBack stored Fits given (Some (back p))
columns_some stored Fits part PartFits given p read of back same fits again there fit_back = record {
  is = (there p ∙ read.is.0, fit_back p read.is.1);
  only = λ x fit e.
      let both : Some p ≡ Some (of x) = read.only (of x) (fits x fit) (same x ∙ e) in
      let equal : p ≡ of x = cc (both) in
      ap (λ q. Some (back q)) equal ∙ ap Some (again x);
}
