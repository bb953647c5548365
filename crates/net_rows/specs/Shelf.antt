-- Rows of one kind, by ascending id.
use Rattle.std.specs.Prelude.{◌≡◌, ◌<◌, ◌≤◌, ℕ, List, [], ◌∷◌, ◌==◌, not, nat_lt, filter, Contains, if◌then◌else◌, Option, Some, None, length, insert, slice_index_or, slice_set}
use Rattle.std.specs.List.{find}

-- The row replaces the row of its id, or stands where its id belongs.
abbrev pub put_row : {T : Type 0} → (T → ℕ) → List T → T → List T
put_row id [] x = x ∷ []
put_row id (y ∷ ys) x =
    if id y == id x then x ∷ ys
    else if nat_lt (id y) (id x) then y ∷ put_row id ys x
    else x ∷ y ∷ ys

-- The rows but the one of this id.
abbrev pub without : {T : Type 0} → (T → ℕ) → List T → ℕ → List T
without id xs k = filter (λ x. not (id x == k)) xs

-- The row of this id.
abbrev pub row_at : {T : Type 0} → (T → ℕ) → List T → ℕ → Option T
row_at id xs k = find (λ x. id x == k) xs

-- The ids rise.
abbrev pub IsAscending : {T : Type 0} → (T → ℕ) → List T → Type 0
IsAscending id [] = Unit {0}
IsAscending {T} id (x ∷ xs) = ((y : T) → Contains xs y → id x < id y) × IsAscending id xs

-- Ids are at least 1 and below the next one.
abbrev pub AreBelow : {T : Type 0} → (T → ℕ) → ℕ → List T → Type 0
AreBelow {T} id next xs = (a : T) → Contains xs a → (1 ≤ id a) × (id a < next)

-- Rows that share it are one row.
abbrev pub Tells : {T K : Type 0} → (T → ℕ) → (T → K) → List T → Type 0
Tells {T} id f xs = (a b : T) → Contains xs a → Contains xs b → f a ≡ f b → id a ≡ id b

-- A row has this id.
abbrev pub HasRow : {T : Type 0} → (T → ℕ) → List T → ℕ → Type 0
HasRow {T} id xs n = (x : T) × Contains xs x × (id x ≡ n)

-- The row of the id stands at this place.
pub record StandsAt {T : Type 0} (id : T → ℕ) (xs : List T) (k i : ℕ) : Type 0 where
  pub inside : i < length xs
  pub is : (d : T) → row_at id xs k ≡ Some (slice_index_or xs i d)
  pub put : (x : T) → id x ≡ k → put_row id xs x ≡ slice_set xs i x

-- No row has the id; one that had it would go to this place.
pub record BelongsAt {T : Type 0} (id : T → ℕ) (xs : List T) (k i : ℕ) : Type 0 where
  pub inside : i ≤ length xs
  pub none : row_at id xs k ≡ None
  pub put : (x : T) → id x ≡ k → put_row id xs x ≡ insert xs i x
