-- Rows of a kind as they stand in their tree: a put there is a put of the row.
use Rattle.std.proofs.Common.{◌≡◌, ◌+◌, ℕ, pos, List, [], ◌∷◌, ◌++◌, map, length, Bool, true, false, cond, nat_eq, nat_lt, Ordering, Less, Equal, Greater, refl, sym, ap, ap₂, subst, subst₂, ◌∙◌, ◌<◌, ◌≤◌, not, set, get_or, swap, arith, IsPermutation}
use Rattle.std.proofs.lemmas.Int.{ints}
use Rattle.std.proofs.lemmas.Bool.Decides.{nat_tests}
use Rattle.std.specs.List.{AllByRecursion}
use Rattle.std.proofs.lemmas.List.{length-map, map-set, get_or-map}
use Rattle.std.proofs.lemmas.List.Edits.{swap_is}
use Rattle.std.proofs.lemmas.List.Elements.{recursion_from_All, All-from_recursion}
use Rattle.std.proofs.lemmas.List.Sorted.{All-permutation, IsPermutation-refl, IsPermutation-cons, IsPermutation-keeps, IsPermutation-map, IsPermutation-middle, IsPermutation-swap, IsPermutation-sym, IsPermutation-to_front, IsPermutation-trans}
use Rattle.sqlite_trees.proofs.ListLemmas.{IsPermutation-filter}
use Rattle.std.specs.Ordering.{is_eq, is_lt, match_ordering}
use Rattle.sqlite_value.specs.declared.value.Value.TheVariants.{Int}
use Rattle.sqlite_value.specs.Order.{Row, value_cmp}
use Rattle.sqlite_value.proofs.OrderLemmas.{value_cmp-Int}
use Rattle.sqlite_trees.specs.Tree as tree
use Rattle.net_rows.specs.Shelf.{put_row, without, IsAscending}
use Rattle.net_rows.proofs.RemoveLemmas.{put_row_is_insertion}
use Rattle.store_rows.specs.Rows.{extra_cells}
use Rattle.store_sql.proofs.Lists.{row_of, left}
use Rattle.tailcfg.specs.declared.dns.DnsExtra.{DnsExtra}
use Rattle.store_commits.specs.Kept.{tree_row, placed_rows}

order_of_ids : (a b : ℕ) → (is_lt (value_cmp (Int (pos a)) (Int (pos b))) ≡ nat_lt a b) × (is_eq (value_cmp (Int (pos a)) (Int (pos b))) ≡ nat_eq a b)
order_of_ids a b = (ap is_lt (value_cmp-Int (pos a) (pos b)) ∙ grind (arith, ints, nat_tests), ap is_eq (value_cmp-Int (pos a) (pos b)) ∙ grind (arith, ints, nat_tests))

module _ {A : Type 0} (key : A → ℕ) (rest : A → Row) where
  put_there : (x : A) (all : List A) → tree.put_row (row_of key rest x) (map (row_of key rest) all) ≡ map (row_of key rest) (put_row key all x)
  put_there x [] = refl
  put_there x (y ∷ ys) = go (value_cmp (Int (pos (key y))) (Int (pos (key x)))) (nat_lt (key y) (key x)) (nat_eq (key y) (key x)) (order_of_ids (key y) (key x)).0 (order_of_ids (key y) (key x)).1 (put_there x ys)
    where
      go : (o : Ordering) (less same : Bool) → is_lt o ≡ less → is_eq o ≡ same → tree.put_row (row_of key rest x) (map (row_of key rest) ys) ≡ map (row_of key rest) (put_row key ys x)
          → match_ordering o (row_of key rest y ∷ tree.put_row (row_of key rest x) (map (row_of key rest) ys)) (row_of key rest x ∷ map (row_of key rest) ys) (row_of key rest x ∷ row_of key rest y ∷ map (row_of key rest) ys)
          ≡ map (row_of key rest) (cond same (x ∷ ys) (cond less (y ∷ put_row key ys x) (x ∷ y ∷ ys)))
      go Less true false l e more = ap (λ others. row_of key rest y ∷ others) more
      go Less true true l e more = absurd cc
      go Less false same l e more = absurd cc
      go Equal less true l e more = refl
      go Equal less false l e more = absurd cc
      go Greater false false l e more = refl
      go Greater true same l e more = absurd cc
      go Greater false true l e more = absurd cc

  -- no row of these has the id
  abbrev pub AreOther : ℕ → List A → Type 0
  AreOther id = AllByRecursion (λ y. nat_eq (key y) id ≡ false)

  left_other : (id : ℕ) (all : List A) → AreOther id (left key rest id all)
  left_other id [] = tt
  left_other id (y ∷ ys) = go (nat_eq (key y) id) refl (left_other id ys)
    where
      go : (b : Bool) → nat_eq (key y) id ≡ b → AreOther id (left key rest id ys) → AreOther id (cond (not b) (y ∷ left key rest id ys) (left key rest id ys))
      go true e more = more
      go false e more = (e, more)

  -- a row of a new id is put beside the others
  put_beside : (x : A) (all : List A) → AreOther (key x) all → IsPermutation (x ∷ all) (put_row key all x)
  put_beside x [] other = IsPermutation-refl (x ∷ [])
  put_beside x (y ∷ ys) other = rw other.0 (go (nat_lt (key y) (key x)) (put_beside x ys other.1))
    where
      go : (b : Bool) → IsPermutation (x ∷ ys) (put_row key ys x) → IsPermutation (x ∷ y ∷ ys) (cond b (y ∷ put_row key ys x) (x ∷ y ∷ ys))
      go true more = IsPermutation-trans _ _ _ (IsPermutation-sym _ _ (IsPermutation-middle (y ∷ []) x ys)) (IsPermutation-cons y _ _ more)
      go false more = IsPermutation-refl (x ∷ y ∷ ys)

  -- rows in some order lose the same row
  pub left_in_order : (id : ℕ) (all us : List A) → IsPermutation all us → IsPermutation (without key all id) (left key rest id us)
  left_in_order id all us same = IsPermutation-filter (λ x. not (nat_eq (key x) id)) all us same

  -- and a row that is put once the row of its id is gone stands among the others
  put_in_order : (x : A) (all us : List A) → IsAscending key all → IsPermutation all us → IsPermutation (put_row key all x) (put_row key (left key rest (key x) us) x)
  put_in_order x all us up same =
      let id = key x in
      let one = put_beside x (left key rest id all) (left_other id all) in
      let two = put_beside x (left key rest id us) (left_other id us) in
      let between = IsPermutation-cons x _ _ (left_in_order id all us same) in
      subst (λ l. IsPermutation l (put_row key (left key rest id us) x)) (sym (put_row_is_insertion key all x up))
      (IsPermutation-trans _ _ _ (IsPermutation-sym _ _ one) (IsPermutation-trans _ _ _ between two))

  -- where the ids rise, a row that is put once the row of its id is gone is put in its place
  pub put_in_place : (x : A) (all us : List A) → IsAscending key all → IsPermutation all us
      → IsPermutation (map (row_of key rest) (put_row key all x)) (tree.put_row (row_of key rest x) (map (row_of key rest) (left key rest (key x) us)))
  put_in_place x all us up same =
      subst (λ l. IsPermutation (map (row_of key rest) (put_row key all x)) l) (sym (put_there x (left key rest (key x) us))) (IsPermutation-map (row_of key rest) _ _ (put_in_order x all us up same))

  -- the same of a row whose id none has
  pub put_new : (x : A) (all us : List A) → AreOther (key x) all → IsPermutation all us
      → IsPermutation (map (row_of key rest) (x ∷ all)) (tree.put_row (row_of key rest x) (map (row_of key rest) us))
  put_new x all us other same =
      let there = recursion_from_All _ us (All-permutation (λ y. nat_eq (key y) (key x) ≡ false) all us same (All-from_recursion _ all other)) in
      subst (λ l. IsPermutation (map (row_of key rest) (x ∷ all)) l) (sym (put_there x us))
      (IsPermutation-map (row_of key rest) _ _ (IsPermutation-trans _ _ _ (IsPermutation-cons x _ _ same) (put_beside x us there)))

-- ---- images in some order are the images of the elements in some order

pub record IsImageOf {A B : Type 0} (f : A → B) (xs : List A) (ys : List B) : Type 0 where
  pub them : List A
  pub are : ys ≡ map f them
  pub same : IsPermutation xs them

swap_image : {A B : Type 0} (f : A → B) (us : List A) (i j : ℕ) → i < length us → j < length us → map f (swap us i j) ≡ swap (map f us) i j
swap_image f [] i j p q = absurd (omega (arith, p))
swap_image f (u ∷ rest) i j p q =
    let us = u ∷ rest in
    let long = length-map us f in
    ap (map f) (sym (swap_is us i j u p q)) ∙ map-set f (set us i (get_or us j u)) j (get_or us i u)
    ∙ ap (λ z. set z j (f (get_or us i u))) (map-set f us i (get_or us j u))
    ∙ ap₂ (λ a b. set (set (map f us) i a) j b) (sym (get_or-map f us j u (f u) q)) (sym (get_or-map f us i u (f u) p))
    ∙ swap_is (map f us) i j (f u) (omega (arith, p, long)) (omega (arith, q, long))

pub image_of : {A B : Type 0} (f : A → B) (xs : List A) (ys : List B) → IsPermutation (map f xs) ys → IsImageOf f xs ys
image_of {A} {B} f xs = IsPermutation-keeps (map f xs) (λ l. IsImageOf f xs l) (record { them = xs; are = refl; same = IsPermutation-refl xs }) step
  where
    step : (l : List B) (i j : ℕ) → i < length l → j < length l → IsImageOf f xs l → IsImageOf f xs (swap l i j)
    step l i j p q was =
        let long : length l ≡ length was.them = ap length was.are ∙ length-map was.them f in
        let left : i < length was.them = omega (arith, p, long) in
        let right : j < length was.them = omega (arith, q, long) in
        record {
          them = swap was.them i j;
          are = ap (λ z. swap z i j) was.are ∙ sym (swap_image f was.them i j left right);
          same = IsPermutation-trans _ _ _ was.same (IsPermutation-swap was.them (swap was.them i j) i j left right refl);
        }

-- the records with their places
abbrev pub with_places : ℕ → List DnsExtra → List (ℕ × DnsExtra)
with_places place [] = []
with_places place (x ∷ xs) = (place, x) ∷ with_places (place + 1) xs

abbrev pub extra_rest : ℕ × DnsExtra → Row
extra_rest (place, extra) = Rattle.std.specs.Prelude.drop 1 (tree_row (extra_cells place extra))

pub placed_are : (place : ℕ) (xs : List DnsExtra) → placed_rows place xs ≡ map (row_of (λ p. p.0) extra_rest) (with_places place xs)
placed_are place [] = refl
placed_are place (x ∷ xs) = ap (λ l. tree_row (extra_cells place x) ∷ l) (placed_are (place + 1) xs)

-- places from one on
later_places : (n place : ℕ) (xs : List DnsExtra) → (place + length xs ≤ n) → AllByRecursion (λ (p : ℕ × DnsExtra). nat_eq p.0 n ≡ false) (with_places place xs)
later_places n place [] h = tt
later_places n place (x ∷ xs) h = (grind (arith, nat_tests), later_places n (place + 1) xs (omega arith))

places_more : (place : ℕ) (xs : List DnsExtra) (x : DnsExtra) → with_places place (xs ++ x ∷ []) ≡ with_places place xs ++ (place + length xs, x) ∷ []
places_more place [] x = ap (λ n. (n, x) ∷ []) (omega arith)
places_more place (y ∷ ys) x =
    let here : (place + 1) + length ys ≡ place + length (y ∷ ys) = omega arith in
    ap (λ l. (place, y) ∷ l) (places_more (place + 1) ys x ∙ ap (λ n. with_places (place + 1) ys ++ (n, x) ∷ []) here)

-- the record of the next place stands among the others
pub put_last : (xs : List DnsExtra) (x : DnsExtra) (rows : List Row) → IsPermutation (placed_rows 1 xs) rows
    → IsPermutation (placed_rows 1 (xs ++ x ∷ [])) (tree.put_row (tree_row (extra_cells (1 + length xs) x)) rows)
put_last xs x rows same =
    let key : ℕ × DnsExtra → ℕ = λ p. p.0 in
    let stood = image_of (row_of key extra_rest) (with_places 1 xs) rows (subst (λ l. IsPermutation l rows) (placed_are 1 xs) same) in
    let beside = put_new key extra_rest (1 + length xs, x) (with_places 1 xs) stood.them (later_places (1 + length xs) 1 xs (omega arith)) stood.same in
    let whole : placed_rows 1 (xs ++ x ∷ []) ≡ map (row_of key extra_rest) (with_places 1 xs ++ (1 + length xs, x) ∷ []) = placed_are 1 (xs ++ x ∷ []) ∙ ap (map (row_of key extra_rest)) (places_more 1 xs x) in
    subst₂ (λ l t. IsPermutation l (tree.put_row (tree_row (extra_cells (1 + length xs) x)) t)) (sym whole) (sym stood.are)
    (IsPermutation-trans _ _ _ (IsPermutation-map (row_of key extra_rest) _ _ (IsPermutation-to_front (with_places 1 xs) (1 + length xs, x))) beside)
