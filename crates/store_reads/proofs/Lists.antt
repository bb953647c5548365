-- Rows of a list, taken one by one.
use Rattle.std.proofs.Common.{◌≡◌, ◌+◌, ◌<◌, zero, suc, ℕ, List, [], ◌∷◌, ◌++◌, map, length, take, get_or, refl, ap, ◌∙◌, arith}
use Rattle.std.specs.List.{AllByRecursion}
use Rattle.std.specs.Prelude.{Contains}
use Rattle.net_rows.specs.Shelf as shelf
use Rattle.net_rows.proofs.Members.{first_member, rest_member}
use Rattle.sqlite_trees.specs.Tree.{IsAscending}
use Rattle.sqlite_value.specs.Order.{Row}
use Rattle.store_rows.specs.Rows.{extra_cells}
use Rattle.store_reads.specs.Readable.{IsReadableExtra, shown_extras, shown_row}
use Rattle.tailcfg.specs.declared.dns.DnsExtra.{DnsExtra}

-- what an element of the list shows
pub record IsAt {A B : Type 0} (f : A → B) (P : A → Type 0) (xs : List A) (i : ℕ) (r : B) : Type 0 where
  pub it : A
  pub is : r ≡ f it
  pub keeps : P it
  pub next : take (i + 1) xs ≡ take i xs ++ it ∷ []

pub at_place : {A B : Type 0} (f : A → B) (P : A → Type 0) (xs : List A) (i : ℕ) (r : B) → i < length (map f xs) → r ≡ get_or (map f xs) i r → AllByRecursion P xs → IsAt f P xs i r
at_place f P [] i r less is all = absurd (omega (arith, less))
at_place f P (x ∷ xs) zero r less is all = record { it = x; is = is; keeps = all.0; next = refl }
at_place f P (x ∷ xs) (suc i) r less is all =
    let later = at_place f P xs i r (omega (arith, less)) is all.1 in
    let on : suc i + 1 ≡ suc (i + 1) = omega arith in
    record { it = later.it; is = later.is; keeps = later.keeps; next = ap (λ n. take n (x ∷ xs)) on ∙ ap (λ l. x ∷ l) later.next }

below_all : {T : Type 0} (id : T → ℕ) (x : T) (xs : List T) → ((y : T) → Contains xs y → id x < id y) → AllByRecursion (λ y. id x < id y) xs
below_all id x [] h = tt
below_all id x (y ∷ ys) h = (h y (first_member y ys), below_all id x ys (λ z in_ys. h z (rest_member y ys z in_ys)))

-- the ids rise in the store's words, too
pub rising : {T : Type 0} (id : T → ℕ) (xs : List T) → shelf.IsAscending id xs → IsAscending (λ a b. id a < id b) xs
rising id [] h = tt
rising id (x ∷ xs) h = (below_all id x xs h.0, rising id xs h.1)

-- the record at a place of those that a query shows
pub record IsExtraAt (place : ℕ) (xs : List DnsExtra) (i : ℕ) (r : Row) : Type 0 where
  pub it : DnsExtra
  pub is : r ≡ shown_row (extra_cells (i + place) it)
  pub keeps : IsReadableExtra it
  pub next : take (i + 1) xs ≡ take i xs ++ it ∷ []

pub extra_at : (place : ℕ) (xs : List DnsExtra) (i : ℕ) (r : Row) → i < length (shown_extras place xs) → r ≡ get_or (shown_extras place xs) i r → AllByRecursion IsReadableExtra xs → IsExtraAt place xs i r
extra_at place [] i r less is all = absurd (omega (arith, less))
extra_at place (x ∷ xs) zero r less is all =
    let here : place ≡ 0 + place = omega arith in
    record { it = x; is = is ∙ ap (λ n. shown_row (extra_cells n x)) here; keeps = all.0; next = refl }
extra_at place (x ∷ xs) (suc i) r less is all =
    let later = extra_at (place + 1) xs i r (omega (arith, less)) is all.1 in
    let on : suc i + 1 ≡ suc (i + 1) = omega arith in
    let there : i + (place + 1) ≡ suc i + place = omega arith in
    record {
      it = later.it;
      is = later.is ∙ ap (λ n. shown_row (extra_cells n later.it)) there;
      keeps = later.keeps;
      next = ap (λ n. take n (x ∷ xs)) on ∙ ap (λ l. x ∷ l) later.next;
    }

pub shown_count : (place : ℕ) (xs : List DnsExtra) → length (shown_extras place xs) ≡ length xs
shown_count place [] = refl
shown_count place (x ∷ xs) = ap suc (shown_count (place + 1) xs)
