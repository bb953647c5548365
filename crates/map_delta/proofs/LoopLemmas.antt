-- Loops that add what passes.
use Rattle.std.proofs.Common.{◌≡◌, ◌<◌, ◌+◌, ℕ, Bool, List, [], ◌∷◌, ◌++◌, length, add-one, append_assoc, drop, drop-cons, get_or, refl, ap, sym, ◌∙◌, inl, inr, if◌then◌else◌}
use Rattle.std.specs.Prelude.{filter}
use Rattle.std.proofs.lemmas.Bool.{cases_Bool}

-- what is left at a place begins with what was read there
left_at : {T : Type 0} (xs : List T) (i : ℕ) (x : T) → i < length xs → x ≡ get_or xs i x → drop i xs ≡ x ∷ drop (i + 1) xs
left_at {T} xs i x less is =
    let front : drop i xs ≡ get_or xs i x ∷ drop (i + 1) xs = rw (add-one, drop-cons xs i x) refl in
    front ∙ ap (λ (y : T). y ∷ drop (i + 1) xs) (sym is)

front_passes : {T : Type 0} (p : T → Bool) (x : T) (xs : List T) → (if p x then x ∷ [] else []) ++ filter p xs ≡ filter p (x ∷ xs)
front_passes p x xs = elim (cases_Bool (p x)) [ inl passes ↦ rw passes refl | inr fails ↦ rw fails refl ]

-- one more row that is added where it passes
pub next_kept : {T : Type 0} (p : T → Bool) (xs : List T) (i : ℕ) (x : T) (done new all : List T) → i < length xs → x ≡ get_or xs i x
    → new ≡ done ++ (if p x then x ∷ [] else []) → done ++ filter p (drop i xs) ≡ all → new ++ filter p (drop (i + 1) xs) ≡ all
next_kept {T} p xs i x done new all less is put told =
    ap (λ (ys : List T). ys ++ filter p (drop (i + 1) xs)) put
    ∙ (append_assoc done (if p x then x ∷ [] else []) (filter p (drop (i + 1) xs))
    ∙ (ap (λ (ys : List T). done ++ ys) (front_passes p x (drop (i + 1) xs))
    ∙ (ap (λ (ys : List T). done ++ filter p ys) (sym (left_at xs i x less is)) ∙ told)))
