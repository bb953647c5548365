-- What is left of a text without the hyphens at its ends.
use Rattle.std.proofs.Common.{◌≡◌, ◌≢◌, ◌<◌, ◌+◌, ◌-◌, ℕ, false, List, [], ◌∷◌, ◌++◌, length, take, drop, get_or, arith, eqb, refl, sym, ap, ◌∙◌}
use Rattle.std.specs.List.{prefix_len, suffix_len}
use Rattle.std.proofs.lemmas.Bool.{ne_eqb}
use Rattle.std.proofs.lemmas.Grind.{common_steps}
use Rattle.std.proofs.lemmas.List.{reverse-append, take-append-le, take_all, take_more, length-append}
use Rattle.std.proofs.lemmas.List.Sums.{suffix_len-take_no, suffix_len-le-length}
use Rattle.tail_base.specs.Labels.{is_hyphen, trimmed_start, trimmed_end}

drop_next : (n b : ℕ) (bs : List ℕ) → drop (1 + n) (b ∷ bs) ≡ drop n bs
drop_next n b bs = grind (arith, common_steps)

pub start_of_hyphen : (rest : List ℕ) → trimmed_start (45 ∷ rest) ≡ trimmed_start rest
start_of_hyphen rest = drop_next (prefix_len is_hyphen rest) 45 rest

pub start_of_other : (bs : List ℕ) → ((rest : List ℕ) → bs ≢ 45 ∷ rest) → trimmed_start bs ≡ bs
start_of_other [] h = refl
start_of_other (b ∷ bs) h =
    let other : eqb b 45 ≡ false = ne_eqb b 45 (λ e. h bs (ap (λ x. x ∷ bs) e)) in
    rw other refl

pub end_of_hyphen : (front : List ℕ) → trimmed_end (front ++ 45 ∷ []) ≡ trimmed_end front
end_of_hyphen front =
    let more : suffix_len is_hyphen (front ++ 45 ∷ []) ≡ 1 + suffix_len is_hyphen front = ap (prefix_len is_hyphen) (reverse-append front (45 ∷ [])) in
    let long = length-append front (45 ∷ []) in
    let fits = suffix_len-le-length is_hyphen front in
    let same : length (front ++ 45 ∷ []) - suffix_len is_hyphen (front ++ 45 ∷ []) ≡ length front - suffix_len is_hyphen front = omega arith in
    ap (λ n. take n (front ++ 45 ∷ [])) same ∙ take-append-le _ front (45 ∷ []) (omega arith)

pub end_of_other : (bs : List ℕ) → ((front : List ℕ) → bs ≢ front ++ 45 ∷ []) → trimmed_end bs ≡ bs
end_of_other [] h = refl
end_of_other (b ∷ bs) h =
    let all = b ∷ bs in
    let n = length bs in
    let inside : n < length all = omega arith in
    let split : all ≡ take n all ++ get_or all n 0 ∷ [] = sym (take_all (n + 1) all (omega arith)) ∙ take_more all n 0 inside in
    let other : eqb (get_or all n 0) 45 ≡ false = ne_eqb _ 45 (λ e. h (take n all) (split ∙ ap (λ x. take n all ++ x ∷ []) e)) in
    let at_last : get_or all (n + 1 - 1) 0 ≡ get_or all n 0 = ap (λ i. get_or all i 0) (omega arith) in
    let whole : take (n + 1) all ≡ all = take_all (n + 1) all (omega arith) in
    let none : suffix_len is_hyphen all ≡ 0 = sym (ap (suffix_len is_hyphen) whole) ∙ suffix_len-take_no is_hyphen all (n + 1) 0 (omega arith) (omega arith) (ap is_hyphen at_last ∙ other) in
    ap (λ k. take (length all - k) all) none ∙ take_all (length all - 0) all (omega arith)
