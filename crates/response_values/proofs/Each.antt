-- What holds of each element, read one by one.
use Rattle.std.proofs.Common.{◌≡◌, ◌+◌, ◌<◌, ◌≤◌, ℕ, List, [], ◌∷◌, ◌++◌, length, take, get_or, sym, ap, subst, ◌∙◌, arith}
use Rattle.std.specs.List.{AllByRecursion}
use Rattle.std.proofs.Math.Seq.{take-length}
use Rattle.std.proofs.lemmas.List.{take_more}

with_last : {T : Type 0} (P : T → Type 0) (xs : List T) (x : T) → AllByRecursion P xs → P x → AllByRecursion P (xs ++ x ∷ [])
with_last P [] x all one = (one, tt)
with_last P (y ∷ xs) x all one = (all.0, with_last P xs x all.1 one)

pub each_so_far : {T : Type 0} (P : T → Type 0) (xs : List T) (i : ℕ) (x : T) → i < length xs → x ≡ get_or xs i x → AllByRecursion P (take i xs) → P x → AllByRecursion P (take (i + 1) xs)
each_so_far P xs i x less is all one =
    subst (AllByRecursion P) (sym (take_more xs i x less ∙ ap (λ y. take i xs ++ y ∷ []) (sym is))) (with_last P (take i xs) x all one)

pub each_in_all : {T : Type 0} (P : T → Type 0) (xs : List T) (i : ℕ) → i ≡ length xs → AllByRecursion P (take i xs) → AllByRecursion P xs
each_in_all P xs i whole all = subst (AllByRecursion P) (ap (λ n. take n xs) whole ∙ take-length xs) all
