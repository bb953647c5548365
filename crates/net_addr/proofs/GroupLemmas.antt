-- Runs of zero groups, and groups that are joined.
use Rattle.std.proofs.Common.{◌≡◌, ◌≢◌, ◌<◌, ◌≤◌, ◌+◌, ℕ, max, Bool, true, false, List, [], ◌∷◌, ◌++◌, length, drop, get_or, arith, eqb, ltb, cond, Some, None, unwrap_or, refl, sym, ap, ◌∙◌, inl, inr}
use Rattle.std.specs.List.{position, position_or_len}
use Rattle.std.proofs.lemmas.Bool.{cases_eq, eq-eqb, ne_eqb}
use Rattle.std.proofs.lemmas.Bool.Decides.{nat_tests}
use Rattle.std.proofs.lemmas.List.{at_drop_more, at_drop_all, drop_more}
use Rattle.std.proofs.lemmas.List.Sums.{prefix_len-le-length}
use Rattle.net_addr.specs.GroupTexts.{zeros, longest_run, start_of_run, group_text, joined}

pub or_length : (p : ℕ → Bool) (xs : List ℕ) → unwrap_or (position p xs) (length xs) ≡ position_or_len p xs
or_length p xs = pick (position_or_len p xs) (length xs) (prefix_len-le-length _ xs)
  where
    pick : (n m : ℕ) → n ≤ m → unwrap_or (cond (ltb n m) (Some n) None) m ≡ n
    pick n m h = grind (arith, nat_tests)

zeros_fit : (groups : List ℕ) → zeros groups ≤ length groups
zeros_fit groups = prefix_len-le-length _ groups

pub longest_next : (groups : List ℕ) (i : ℕ) → i < length groups → longest_run (drop i groups) ≡ max (zeros (drop i groups)) (longest_run (drop (i + 1) groups))
unfolding longest_run
longest_next groups i inside =
    at_drop_more longest_run groups i 0 inside ∙ ap (λ xs. max (zeros xs) (longest_run (drop (i + 1) groups))) (sym (drop_more groups i 0 inside))

pub longest_end : (groups : List ℕ) (i : ℕ) → length groups ≤ i → longest_run (drop i groups) ≡ 0
unfolding longest_run
longest_end groups i past = at_drop_all longest_run groups i past

pub start_here : (n : ℕ) (groups : List ℕ) (i : ℕ) → i < length groups → zeros (drop i groups) ≡ n → start_of_run n (drop i groups) ≡ 0
unfolding start_of_run
start_here n groups i inside h =
    let here : eqb (zeros (get_or groups i 0 ∷ drop (i + 1) groups)) n ≡ true = eq-eqb _ n (ap zeros (sym (drop_more groups i 0 inside)) ∙ h) in
    at_drop_more (start_of_run n) groups i 0 inside ∙ ap (λ t. cond t 0 (start_of_run n (drop (i + 1) groups) + 1)) here

pub start_next : (n : ℕ) (groups : List ℕ) (i : ℕ) → i < length groups → zeros (drop i groups) ≢ n → start_of_run n (drop i groups) ≡ start_of_run n (drop (i + 1) groups) + 1
unfolding start_of_run
start_next n groups i inside h =
    let other : eqb (zeros (get_or groups i 0 ∷ drop (i + 1) groups)) n ≡ false = ne_eqb _ n (λ e. h (ap zeros (drop_more groups i 0 inside) ∙ e)) in
    at_drop_more (start_of_run n) groups i 0 inside ∙ ap (λ t. cond t 0 (start_of_run n (drop (i + 1) groups) + 1)) other

pub start_end : (n : ℕ) (groups : List ℕ) (i : ℕ) → length groups ≤ i → start_of_run n (drop i groups) ≡ 0
unfolding start_of_run
start_end n groups i past = at_drop_all (start_of_run n) groups i past

run_fits_at : (n : ℕ) (groups : List ℕ) → longest_run groups ≡ n → 0 < n → start_of_run n groups + n ≤ length groups
unfolding longest_run start_of_run
run_fits_at n [] h some = absurd (omega arith)
run_fits_at n (group ∷ groups) h some =
    let fits = zeros_fit (group ∷ groups) in
    elim (cases_eq (zeros (group ∷ groups)) n) [
      | inl same ↦ rw (eq-eqb _ n same) (omega arith)
      | inr other ↦
          let below : longest_run groups ≡ n = omega arith in
          let more = run_fits_at n groups below some in
          rw (ne_eqb _ n other) (omega arith)
    ]

pub run_fits : (groups : List ℕ) → 0 < longest_run groups → start_of_run (longest_run groups) groups + longest_run groups ≤ length groups
run_fits groups some = run_fits_at (longest_run groups) groups refl some

pub joined_more : (group : ℕ) (more : List ℕ) → 0 < length more → joined (group ∷ more) ≡ group_text group ++ (58 ∷ joined more)
joined_more group [] some = absurd (omega arith)
joined_more group (next ∷ more) some = refl
