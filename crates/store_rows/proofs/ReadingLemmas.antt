-- A row is read as the value whose row it is, where there is one.
use Rattle.std.proofs.Common.{◌≡◌, ◌<◌, ◌≤◌, ◌^◌, ℕ, ℤ, pos, negsuc, Bool, true, false, cond, List, [], ◌∷◌, length, Option, Some, None, ◌&&◌, eqb, nat_lt, nat_le, int_le, bytes_eq, arith, refl, sym, ap, ◌∙◌}
use Rattle.std.specs.Prelude.{⊤}
use Rattle.std.specs.Option.{option_and_then, option_map}
use Rattle.std.proofs.lemmas.Bool.{and_parts, and_from, eq-eqb}
use Rattle.std.proofs.lemmas.Slice.Eq.{bytes_eq-Decides}
use Rattle.store_rows.specs.Reads.{IsReadBack}
use Rattle.store_rows.specs.Reading.{checked_text, end_of_cells, on_blob, on_number, on_text, then_of}
use Rattle.store_rows.specs.declared.cell.Cell.{Cell}
use Rattle.store_rows.specs.declared.cell.Cell.TheVariants.{Null, Number, Text, Blob, Other}
use Rattle.store_rows.proofs.ReadLemmas.{Guesses, guess_none, guess_same}

same_bytes : (a b : List ℕ) → bytes_eq a b ≡ true → a ≡ b
same_bytes a b h = (bytes_eq-Decides a b).0 h

bytes_same : (a b : List ℕ) → a ≡ b → bytes_eq a b ≡ true
bytes_same a b h = (bytes_eq-Decides a b).1 h

-- a function that reads back what was stored
abbrev pub Reads : {T R : Type 0} → (T → R) → (T → Type 0) → (R → Option T) → Type 0
Reads {T} {R} stored Fits read = (given : R) → IsReadBack stored Fits given (read given)

pub number_reads : {T : Type 0} (stored : T → ℤ) (Fits : T → Type 0) (f : ℤ → Option T) → Reads stored Fits f → Reads (λ x. Number (stored x)) Fits (on_number f)
number_reads stored Fits f reads Null = record { is = tt; only = λ x fit e. absurd (cc (e)) }
number_reads {T} stored Fits f reads (Number n) = go (f n) (reads n)
  where
    go : (found : Option T) → IsReadBack stored Fits n found → IsReadBack (λ x. Number (stored x)) Fits (Number n) found
    go None read = record { is = tt; only = λ x fit e. read.only x fit (cc (e)) }
    go (Some y) read = record { is = (ap Number read.is.0, read.is.1); only = λ x fit e. read.only x fit (cc (e)) }
number_reads stored Fits f reads (Text bytes) = record { is = tt; only = λ x fit e. absurd (cc (e)) }
number_reads stored Fits f reads (Blob bytes) = record { is = tt; only = λ x fit e. absurd (cc (e)) }
number_reads stored Fits f reads Other = record { is = tt; only = λ x fit e. absurd (cc (e)) }

pub text_reads : {T : Type 0} (stored : T → List ℕ) (Fits : T → Type 0) (f : List ℕ → Option T) → Reads stored Fits f → Reads (λ x. Text (stored x)) Fits (on_text f)
text_reads stored Fits f reads Null = record { is = tt; only = λ x fit e. absurd (cc (e)) }
text_reads stored Fits f reads (Number n) = record { is = tt; only = λ x fit e. absurd (cc (e)) }
text_reads {T} stored Fits f reads (Text bytes) = go (f bytes) (reads bytes)
  where
    go : (found : Option T) → IsReadBack stored Fits bytes found → IsReadBack (λ x. Text (stored x)) Fits (Text bytes) found
    go None read = record { is = tt; only = λ x fit e. read.only x fit (cc (e)) }
    go (Some y) read = record { is = (ap Text read.is.0, read.is.1); only = λ x fit e. read.only x fit (cc (e)) }
text_reads stored Fits f reads (Blob bytes) = record { is = tt; only = λ x fit e. absurd (cc (e)) }
text_reads stored Fits f reads Other = record { is = tt; only = λ x fit e. absurd (cc (e)) }

pub blob_reads : {T : Type 0} (stored : T → List ℕ) (Fits : T → Type 0) (f : List ℕ → Option T) → Reads stored Fits f → Reads (λ x. Blob (stored x)) Fits (on_blob f)
blob_reads stored Fits f reads Null = record { is = tt; only = λ x fit e. absurd (cc (e)) }
blob_reads stored Fits f reads (Number n) = record { is = tt; only = λ x fit e. absurd (cc (e)) }
blob_reads stored Fits f reads (Text bytes) = record { is = tt; only = λ x fit e. absurd (cc (e)) }
blob_reads {T} stored Fits f reads (Blob bytes) = go (f bytes) (reads bytes)
  where
    go : (found : Option T) → IsReadBack stored Fits bytes found → IsReadBack (λ x. Blob (stored x)) Fits (Blob bytes) found
    go None read = record { is = tt; only = λ x fit e. read.only x fit (cc (e)) }
    go (Some y) read = record { is = (ap Blob read.is.0, read.is.1); only = λ x fit e. read.only x fit (cc (e)) }
blob_reads stored Fits f reads Other = record { is = tt; only = λ x fit e. absurd (cc (e)) }

-- what is checked is read back
pub checked_reads : {T : Type 0} (stored : T → List ℕ) (Fits : T → Type 0) (fits : T → Bool) (guess : List ℕ → Option T) → Guesses stored Fits guess → ((x : T) → fits x ≡ true → Fits x) → ((x : T) → Fits x → fits x ≡ true)
    → Reads stored Fits (checked_text stored fits guess)
checked_reads {T} stored Fits fits guess again there back given = go (guess given) refl
  where
    judged : (x : T) (b : Bool) → guess given ≡ Some x → bytes_eq (stored x) given && fits x ≡ b → IsReadBack stored Fits given (cond b (Some x) None)
    judged x true some is = let both = and_parts (bytes_eq (stored x) given) (fits x) is in guess_same stored Fits guess given x again some (there x both.1) (same_bytes (stored x) given both.0)
    judged x false some is = record {
      is = tt;
      only = λ y fit e.
          let both : Some y ≡ Some x = sym (again y fit) ∙ ap guess e ∙ some in
          let same : y ≡ x = cc (both) in
          let yes : bytes_eq (stored x) given && fits x ≡ true = and_from _ _ (bytes_same (stored x) given (ap stored (sym same) ∙ e)) (back x (Rattle.std.proofs.Common.subst Fits same fit)) in
          absurd (Rattle.std.proofs.lemmas.Bool.true≢false (sym yes ∙ is));
    }

    go : (found : Option T) → guess given ≡ found → IsReadBack stored Fits given (option_and_then (λ x. cond (bytes_eq (stored x) given && fits x) (Some x) None) found)
    go None none = guess_none stored Fits guess given again none
    go (Some x) some = judged x (bytes_eq (stored x) given && fits x) some refl

pub end_reads : Reads (λ (u : ⊤). let none : List Cell = [] in none) (λ _. ⊤) end_of_cells
end_reads [] = record { is = (refl, tt); only = λ x fit e. refl }
end_reads (c ∷ cs) = record { is = tt; only = λ x fit e. absurd (cc (e)) }

pub then_reads : {A B : Type 0} (stored : A → Cell) (Fits : A → Type 0) (f : Cell → Option A) (cells : B → List Cell) (More : B → Type 0) (g : List Cell → Option B)
    → Reads stored Fits f → Reads cells More g → Reads (λ (p : A × B). stored p.0 ∷ cells p.1) (λ p. Fits p.0 × More p.1) (then_of f g)
then_reads stored Fits f cells More g first more [] = record { is = tt; only = λ x fit e. absurd (cc (e)) }
then_reads {A} {B} stored Fits f cells More g first more (c ∷ cs) = go (f c) (g cs) (first c) (more cs)
  where
    go : (a : Option A) (b : Option B) → IsReadBack stored Fits c a → IsReadBack cells More cs b
        → IsReadBack (λ (p : A × B). stored p.0 ∷ cells p.1) (λ p. Fits p.0 × More p.1) (c ∷ cs) (option_and_then (λ x. option_map (λ y. (x, y)) b) a)
    go None b one two = record { is = tt; only = λ p fit e. let bad : None ≡ Some p.0 = one.only p.0 fit.0 (cc (e)) in absurd (cc (bad)) }
    go (Some x) None one two = record { is = tt; only = λ p fit e. let bad : None ≡ Some p.1 = two.only p.1 fit.1 (cc (e)) in absurd (cc (bad)) }
    go (Some x) (Some y) one two = record {
      is = (Rattle.std.proofs.Common.ap₂ ◌∷◌ one.is.0 two.is.0, (one.is.1, two.is.1));
      only = λ p fit e.
          let left : Some x ≡ Some p.0 = one.only p.0 fit.0 (cc (e)) in
          let right : Some y ≡ Some p.1 = two.only p.1 fit.1 (cc (e)) in
          let a : x ≡ p.0 = cc (left) in
          let b : y ≡ p.1 = cc (right) in
          ap Some (Rattle.std.proofs.Common.ap₂ (λ u v. (u, v)) a b);
    }

-- the value of columns that were read: `of` gives the columns of a value, `back` the value of columns
pub mapped_reads : {T P R : Type 0} (stored : T → R) (Fits : T → Type 0) (part : P → R) (PartFits : P → Type 0) (read : R → Option P) (of : T → P) (back : P → T) → Reads part PartFits read → ((x : T) → part (of x) ≡ stored x)
    → ((x : T) → Fits x → PartFits (of x)) → ((x : T) → back (of x) ≡ x) → ((q : P) → PartFits q → stored (back q) ≡ part q) → ((q : P) → PartFits q → Fits (back q))
    → Reads stored Fits (λ given. option_map back (read given))
mapped_reads {T} {P} stored Fits part PartFits read of back reads same fits again there fit_back given = go (read given) (reads given)
  where
    go : (found : Option P) → IsReadBack part PartFits given found → IsReadBack stored Fits given (option_map back found)
    go None found = record { is = tt; only = λ x fit e. let bad : None ≡ Some (of x) = found.only (of x) (fits x fit) (same x ∙ e) in absurd (cc (bad)) }
    go (Some p) found = record {
      is = (there p found.is.1 ∙ found.is.0, fit_back p found.is.1);
      only = λ x fit e.
          let both : Some p ≡ Some (of x) = found.only (of x) (fits x fit) (same x ∙ e) in
          let equal : p ≡ of x = cc (both) in
          ap (λ q. Some (back q)) equal ∙ ap Some (again x);
    }
