-- Lists that go together place by place, and searches of lists.
use Rattle.std.proofs.Common.{◌≡◌, ◌<◌, ◌≤◌, ◌+◌, ◌||◌, ℕ, zero, suc, Bool, false, List, [], ◌∷◌, ◌++◌, length, get_or, take, arith, refl, ap, sym, ◌∙◌, subst}
use Rattle.std.specs.Prelude.{slice_index_or}
use Rattle.std.proofs.Math.Seq.{take-length}
use Rattle.std.specs.List.{list_any}
use Rattle.std.proofs.lemmas.List.{take_more}
use Rattle.std.proofs.lemmas.List.Folds.{list_any-append}
use Rattle.policy_eval.specs.Expansion.{AreMatched}

pub AreMatched-push : {A B : Type 0} (Fits : A → B → Type 0) (xs : List A) (ys : List B) (x : A) (y : B) → AreMatched Fits xs ys → Fits x y → AreMatched Fits (xs ++ x ∷ []) (ys ++ y ∷ [])
AreMatched-push Fits [] [] x y h f = (f, tt)
AreMatched-push Fits [] (b ∷ ys) x y h f = absurd h
AreMatched-push Fits (a ∷ xs) [] x y h f = absurd h
AreMatched-push Fits (a ∷ xs) (b ∷ ys) x y h f = (h.0, AreMatched-push Fits xs ys x y h.1 f)

-- one more of a list, which is matched with what is put behind the other
pub matched_more : {A B : Type 0} (Fits : A → B → Type 0) (xs : List A) (i : ℕ) (ys new : List B) (x : A) (y : B) → i < length xs → x ≡ get_or xs i x → AreMatched Fits (take i xs) ys → Fits x y → new ≡ ys ++ y ∷ [] → AreMatched Fits (take (i + 1) xs) new
matched_more {A} {B} Fits xs i ys new x y lt is h f put =
    let pushed : AreMatched Fits (take i xs ++ x ∷ []) (ys ++ y ∷ []) = AreMatched-push Fits (take i xs) ys x y h f in
    let step : take (i + 1) xs ≡ take i xs ++ get_or xs i x ∷ [] = take_more xs i x lt in
    let whole : take (i + 1) xs ≡ take i xs ++ x ∷ [] = step ∙ ap (λ (z : A). take i xs ++ z ∷ []) (sym is) in
    subst (λ (zs : List A). AreMatched Fits zs new) (sym whole) (subst (λ (ws : List B). AreMatched Fits (take i xs ++ x ∷ []) ws) (sym put) pushed)

pub matched_length : {A B : Type 0} (Fits : A → B → Type 0) (xs : List A) (ys : List B) → AreMatched Fits xs ys → length xs ≡ length ys
matched_length Fits [] [] h = refl
matched_length Fits [] (y ∷ ys) h = absurd h
matched_length Fits (x ∷ xs) [] h = absurd h
matched_length Fits (x ∷ xs) (y ∷ ys) h = ap suc (matched_length Fits xs ys h.1)

pub matched_at : {A B : Type 0} (Fits : A → B → Type 0) (xs : List A) (ys : List B) → AreMatched Fits xs ys → (i : ℕ) (d : A) (e : B) → i < length xs → Fits (slice_index_or xs i d) (slice_index_or ys i e)
matched_at Fits [] [] h i d e lt = absurd (omega arith)
matched_at Fits [] (y ∷ ys) h i d e lt = absurd h
matched_at Fits (x ∷ xs) [] h i d e lt = absurd h
matched_at Fits (x ∷ xs) (y ∷ ys) h zero d e lt = h.0
matched_at Fits (x ∷ xs) (y ∷ ys) h (suc i) d e lt = matched_at Fits xs ys h.1 i d e (omega arith)

-- one more that doesn't pass
pub any_more : {A : Type 0} (f : A → Bool) (xs items : List A) (i : ℕ) (x : A) → items ≡ xs → i < length items → x ≡ get_or items i x → list_any f (take i xs) ≡ false → false ≡ f x
    → list_any f (take (i + 1) xs) ≡ false
any_more {A} f xs items i x same lt is told fails =
    let less : i < length xs = subst (λ (zs : List A). i < length zs) same lt in
    let item : x ≡ get_or xs i x = subst (λ (zs : List A). x ≡ get_or zs i x) same is in
    let step : take (i + 1) xs ≡ take i xs ++ x ∷ [] = take_more xs i x less ∙ ap (λ (z : A). take i xs ++ z ∷ []) (sym item) in
    ap (list_any f) step ∙ (list_any-append f (take i xs) (x ∷ []) ∙ (λ j. told j || (sym fails j || false)))

-- where none passed up to the end none does
pub any_end : {A : Type 0} (f : A → Bool) (xs items : List A) (i : ℕ) → items ≡ xs → i ≤ length items → length items ≤ i → list_any f (take i xs) ≡ false → false ≡ list_any f xs
any_end {A} f xs items i same below past told =
    let end : i ≡ length items = omega arith in
    let whole : take i xs ≡ xs = ap (λ (n : ℕ). take n xs) (end ∙ ap length same) ∙ take-length xs in
    sym told ∙ ap (list_any f) whole
