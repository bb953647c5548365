-- Where a row goes, found from the front.
use Rattle.std.proofs.Common.{◌≡◌, ◌<◌, ◌≤◌, ℕ, zero, suc, List, [], ◌∷◌, length, get_or, slice_set, arith}
use Rattle.std.specs.Prelude.{insert}
use Rattle.std.proofs.lemmas.Grind.{common_steps}
use Rattle.net_rows.specs.Shelf.{put_row}

-- the rows before a place have smaller ids
abbrev pub AllLess : {T : Type 0} → (T → ℕ) → List T → ℕ → ℕ → Type 0
AllLess {T} id xs k i = (j : ℕ) (d : T) → j < i → id (get_or xs j d) < k

pub replaced : {T : Type 0} (id : T → ℕ) (xs : List T) (i : ℕ) (x d : T) → AllLess id xs (id x) i → i < length xs → id (get_or xs i d) ≡ id x
    → put_row id xs x ≡ slice_set xs i x
replaced id [] i x d b h e = absurd (omega arith)
replaced id (y ∷ ys) zero x d b h e = grind (arith, common_steps)
replaced id (y ∷ ys) (suc i) x d b h e =
    let first : id y < id x = b 0 x (omega arith) in
    let rest = replaced id ys i x d (λ j e' l. b (suc j) e' (omega arith)) (omega arith) e in
    grind (arith, common_steps)

pub added : {T : Type 0} (id : T → ℕ) (xs : List T) (i : ℕ) (x d : T) → AllLess id xs (id x) i → i ≤ length xs → (i < length xs → id x < id (get_or xs i d))
    → put_row id xs x ≡ insert xs i x
added id [] i x d b h e = grind (arith, common_steps)
added id (y ∷ ys) zero x d b h e =
    let later : id x < id y = e (omega arith) in
    grind (arith, common_steps)
added id (y ∷ ys) (suc i) x d b h e =
    let first : id y < id x = b 0 x (omega arith) in
    let rest = added id ys i x d (λ j e' l. b (suc j) e' (omega arith)) (omega arith) (λ l. e (omega arith)) in
    grind (arith, common_steps)
