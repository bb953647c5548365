-- The router takes each path of the table.
use Rattle.std.proofs.Common.{◌≡◌, ◌<◌, ◌+◌, ℕ, zero, suc, List, [], ◌∷◌, length, drop, get_or, map, arith, Bool, true, ◌&&◌, is_none, Option, Some, None, Result, Ok, Err, refl, sym, ◌∙◌}
use Rattle.std.proofs.lemmas.Bool.{and_parts}
use Rattle.std.specs.Borrow.{Bor}
use Rattle.matchit.proofs.OnLiterals.{matchit_on_literals}
use Rattle.matchit.specs.Route.{Scan, parse_route}
use Rattle.matchit.specs.Router.{Refused, RouteOf, InsertsRead, nearest}
use Rattle.matchit.specs.Rows.{RowsOf}
use Rattle.matchit.specs.declared.error.InsertError.{InsertError}
use Rattle.matchit.specs.declared.error.InsertError.TheVariants.{Conflict, InvalidParam, InvalidParamSegment, InvalidCatchAll, OutOfMemory}
use Rattle.path_routes.specs.Table.{entered, is_free, paths, table, with_path, with_paths}
use Rattle.path_routes.specs.declared.route.Route.{Route}
use Rattle.path_routes.specs.declared.table.Entry.{Entry}

abbrev pub Kept : Type 0
Kept = RouteOf Entry

none_is : {A : Type 0} (o : Option A) → is_none o ≡ true → o ≡ None
none_is None h = refl
none_is (Some x) h = absurd (cc)

-- a path that was inserted is one more in the table
pub inserted : (scan : Result Scan InsertError) (e : Entry) (old new : RowsOf Kept) (u : Unit {0})
    → is_free old scan ≡ true → InsertsRead scan e old new (Ok u) → new ≡ entered old scan e
inserted (Ok scan) e old new u free h = h.1
inserted (Err error) e old new u free h = absurd (cc)

not_refused : (pattern : List ℕ) (rows : RowsOf Kept) (error : InsertError) → nearest pattern rows ≡ None → Refused pattern rows error → error ≡ OutOfMemory
not_refused pattern rows (Conflict with) free h =
    let found : None ≡ Some h.0 = sym free ∙ h.1 in
    absurd (cc)
not_refused pattern rows OutOfMemory free h = refl
not_refused pattern rows InvalidParamSegment free h = absurd h
not_refused pattern rows InvalidParam free h = absurd h
not_refused pattern rows InvalidCatchAll free h = absurd h

-- a path that is free is not inserted only if there is no memory
pub not_inserted : (scan : Result Scan InsertError) (e : Entry) (old new : RowsOf Kept) (error : InsertError)
    → is_free old scan ≡ true → InsertsRead scan e old new (Err error) → error ≡ OutOfMemory
not_inserted (Ok scan) e old new error free h = not_refused scan.pattern old error (none_is (nearest scan.pattern old) free) h.1
not_inserted (Err fault) e old new error free h = absurd (cc)

-- the router takes these paths, one after the other
abbrev pub are_free : RowsOf Kept → List (List ℕ × Route) → Bool
are_free rows [] = true
are_free rows (path ∷ rest) = is_free rows (parse_route path.0) && are_free (with_path rows path.0 path.1) rest

all_free : are_free [] paths ≡ true
unfolding matchit_on_literals
all_free = refl

pub first_free : (rows : RowsOf Kept) → rows ≡ [] → are_free rows paths ≡ true
first_free rows h = rw h all_free

pub first_with : (rows : RowsOf Kept) → rows ≡ [] → with_paths rows paths ≡ table
unfolding table
first_with rows h = rw h refl

-- a path of the list in code
abbrev pub Item : Type 0
Item = Bor (List ℕ) × Route

abbrev pub shown : Item → List ℕ × Route
shown item = (item.0.now, item.1)

pub next_free : (items : List Item) (i : ℕ) (d : Item) (rows : RowsOf Kept) → i < length items → are_free rows (drop i (map shown items)) ≡ true
    → is_free rows (parse_route (get_or items i d).0.now) ≡ true
next_free [] i d rows below h = elim below [ ]
next_free (item ∷ items) zero d rows below h = (and_parts (is_free rows (parse_route item.0.now)) (are_free (with_path rows item.0.now item.1) (map shown items)) h).0
next_free (item ∷ items) (suc i) d rows below h = next_free items i d rows (omega arith) h

pub rest_free : (items : List Item) (i : ℕ) (d : Item) (rows : RowsOf Kept) → i < length items → are_free rows (drop i (map shown items)) ≡ true
    → are_free (with_path rows (get_or items i d).0.now (get_or items i d).1) (drop (i + 1) (map shown items)) ≡ true
rest_free [] i d rows below h = elim below [ ]
rest_free (item ∷ items) zero d rows below h = (and_parts (is_free rows (parse_route item.0.now)) (are_free (with_path rows item.0.now item.1) (map shown items)) h).1
rest_free (item ∷ items) (suc i) d rows below h =
    let more : suc i + 1 ≡ suc (i + 1) = omega arith in
    rw more (rest_free items i d rows (omega arith) h)

pub rest_with : (items : List Item) (i : ℕ) (d : Item) (rows : RowsOf Kept) → i < length items
    → with_paths rows (drop i (map shown items)) ≡ with_paths (with_path rows (get_or items i d).0.now (get_or items i d).1) (drop (i + 1) (map shown items))
rest_with [] i d rows below = elim below [ ]
rest_with (item ∷ items) zero d rows below = refl
rest_with (item ∷ items) (suc i) d rows below =
    let more : suc i + 1 ≡ suc (i + 1) = omega arith in
    rw more (rest_with items i d rows (omega arith))
