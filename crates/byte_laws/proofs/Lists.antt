-- What holds of each element of a list.
use Rattle.std.proofs.Common.{Bool, true, false, List, [], ◌∷◌, ◌++◌, map, cond, inl, inr}
use Rattle.std.specs.Prelude.{Contains, filter}
use Rattle.std.specs.List.{AllByRecursion, flat_map}
use Rattle.net_rows.proofs.Members.{cut_member, first_member, no_member, rest_member}

module _ {T : Type 0} (P : T → Type 0) where
  pub each_of : (xs : List T) → ((x : T) → Contains xs x → P x) → AllByRecursion P xs
  each_of [] f = tt
  each_of (x ∷ xs) f = (f x (first_member x xs), each_of xs (λ y inside. f y (rest_member x xs y inside)))

  pub all_append : (xs ys : List T) → AllByRecursion P xs → AllByRecursion P ys → AllByRecursion P (xs ++ ys)
  all_append [] ys p q = q
  all_append (x ∷ xs) ys p q = (p.0, all_append xs ys p.1 q)

  pub all_front : (xs ys : List T) → AllByRecursion P (xs ++ ys) → AllByRecursion P xs
  all_front [] ys h = tt
  all_front (x ∷ xs) ys h = (h.0, all_front xs ys h.1)

  pub all_behind : (xs ys : List T) → AllByRecursion P (xs ++ ys) → AllByRecursion P ys
  all_behind [] ys h = h
  all_behind (x ∷ xs) ys h = all_behind xs ys h.1

  kept : (b : Bool) (x : T) (xs : List T) → P x → AllByRecursion P xs → AllByRecursion P (cond b (x ∷ xs) xs)
  kept true x xs p h = (p, h)
  kept false x xs p h = h

  pub all_filter : (test : T → Bool) (xs : List T) → AllByRecursion P xs → AllByRecursion P (filter test xs)
  all_filter test [] h = tt
  all_filter test (x ∷ xs) h = kept (test x) x (filter test xs) h.0 (all_filter test xs h.1)

  pub all_map : {S : Type 0} (f : S → T) (xs : List S) → AllByRecursion (λ x. P (f x)) xs → AllByRecursion P (map f xs)
  all_map f [] h = tt
  all_map f (x ∷ xs) h = (h.0, all_map f xs h.1)

  pub all_mapped : {S : Type 0} (f : S → T) (xs : List S) → AllByRecursion P (map f xs) → AllByRecursion (λ x. P (f x)) xs
  all_mapped f [] h = tt
  all_mapped f (x ∷ xs) h = (h.0, all_mapped f xs h.1)

  -- of the lists that others are made of
  pub all_part : {S : Type 0} (f : S → List T) (xs : List S) (x : S) → AllByRecursion P (flat_map f xs) → Contains xs x → AllByRecursion P (f x)
  all_part f [] x h inside = absurd (no_member x inside)
  all_part f (y ∷ ys) x h inside =
      elim (cut_member y ys x inside) [
        | inl e ↦ rw e (all_front (f y) (flat_map f ys) h)
        | inr rest ↦ all_part f ys x (all_behind (f y) (flat_map f ys) h) rest
      ]
