-- What is written of an IPv6 address spells it.
use Rattle.std.proofs.Common.{◌≡◌, ◌<◌, ◌≤◌, ◌+◌, ◌-◌, ◌*◌, ◌/◌, ◌%◌, ◌^◌, ℕ, zero, suc, false, not, List, [], ◌∷◌, ◌++◌, length, take, drop, map, replicate, ltb, Some, arith, refl, sym, ap, subst, ◌∙◌, inl, inr}
use Rattle.std.specs.Prelude.{codes}
use Rattle.std.specs.Fmt.{digits, digits_onto, digit_glyph}
use Rattle.std.proofs.lemmas.Bool.{cases_eq, cases_lt, cond-true, cond-false, eq-eqb, ne_eqb, lt-ltb, le-ltb, not_from_true, not_from_false}
use Rattle.std.proofs.lemmas.Fmt.{digits_is_IsNumeral}
use Rattle.std.proofs.lemmas.Grind.{pow_more}
use Rattle.std.proofs.lemmas.List.{length-take-le, length-drop, append_assoc, take-append-drop, drop-drop}
use Rattle.std.proofs.lemmas.List.Sums.{prefix_len-le-length}
use Rattle.net_addr.specs.GroupReads.{groups_number}
use Rattle.net_addr.specs.GroupTexts.{group_at, v6_groups, group_text, groups_text, joined, longest_run, shortened, start_of_run, zeros}
use Rattle.net_addr.specs.V6Texts.{SpellsGroup, SpellsGroups, IsShortened, SpellsV6}
use Rattle.net_addr.proofs.GroupLemmas.{run_fits}

-- a number below 16 ^ k has at most k digits
short_onto : (f k n : ℕ) (acc : List ℕ) → 1 ≤ k → n < 16 ^ k → length (digits_onto f 16 false n acc) ≤ k + length acc
short_onto zero k n acc some below = omega arith
short_onto (suc f) zero n acc some below = absurd (omega arith)
short_onto (suc f) (suc zero) n acc some below =
    let less : 16 ^ 1 ≡ 16 = refl in
    let top : n / 16 ≡ 0 = omega arith in
    rw (eq-eqb (n / 16) 0 top) (omega arith)
short_onto (suc f) (suc (suc k)) n acc some below =
    let more : 16 ^ (suc k + 1) ≡ 16 ^ suc k * 16 = pow_more 16 (suc k) in
    let place : suc k + 1 ≡ suc (suc k) = omega arith in
    let same : 16 ^ suc (suc k) ≡ 16 ^ suc k * 16 = sym (ap (λ e. 16 ^ e) place) ∙ more in
    let less : n / 16 < 16 ^ suc k = omega arith in
    elim (cases_eq (n / 16) 0) [
      | inl done ↦ rw (eq-eqb (n / 16) 0 done) (omega arith)
      | inr on ↦
          let rest = short_onto f (suc k) (n / 16) (digit_glyph false (n % 16) ∷ acc) (omega arith) less in
          rw (ne_eqb (n / 16) 0 on) (omega arith)
    ]

short_group : (group : ℕ) → group < 65536 → length (group_text group) ≤ 4
unfolding digits
short_group group small = omega (arith, short_onto 64 4 group [] (omega arith) small)

group_spells : (group : ℕ) → group < 65536 → SpellsGroup (group_text group) group
group_spells group small =
    let read = digits_is_IsNumeral 16 false (omega arith) (omega arith) group (omega arith) in
    record { some = read.0.0; short = short_group group small; digits = read.0.1; value = read.1 }

-- all groups are below 65536
abbrev AllSmall : List ℕ → Type 0
AllSmall [] = Unit {0}
AllSmall (group ∷ groups) = (group < 65536) × AllSmall groups

groups_spell : (groups : List ℕ) → AllSmall groups → SpellsGroups (map group_text groups) groups
groups_spell [] h = tt
groups_spell (group ∷ groups) h = (group_spells group h.0, groups_spell groups h.1)

small_take : (n : ℕ) (groups : List ℕ) → AllSmall groups → AllSmall (take n groups)
small_take zero groups h = tt
small_take (suc n) [] h = tt
small_take (suc n) (group ∷ groups) h = (h.0, small_take n groups h.1)

small_drop : (n : ℕ) (groups : List ℕ) → AllSmall groups → AllSmall (drop n groups)
small_drop zero groups h = h
small_drop (suc n) [] h = tt
small_drop (suc n) (group ∷ groups) h = small_drop n groups h.1

zeros_fit : (groups : List ℕ) → zeros groups ≤ length groups
zeros_fit groups = prefix_len-le-length _ groups

-- the run that is found has its length
run_is : (n : ℕ) (groups : List ℕ) → longest_run groups ≡ n → 0 < n → zeros (drop (start_of_run n groups) groups) ≡ n
unfolding longest_run start_of_run
run_is n [] h some = absurd (omega arith)
run_is n (group ∷ groups) h some =
    elim (cases_eq (zeros (group ∷ groups)) n) [
      | inl same ↦ rw (eq-eqb _ n same) same
      | inr other ↦
          let fits = zeros_fit (group ∷ groups) in
          let below : longest_run groups ≡ n = omega arith in
          let start = start_of_run n groups in
          let more : start + 1 ≡ suc start = omega arith in
          rw (ne_eqb _ n other, more) (run_is n groups below some)
    ]

-- the groups of a run are zero
zeros_are : (groups : List ℕ) → take (zeros groups) groups ≡ replicate (zeros groups) 0
zeros_are [] = refl
zeros_are (group ∷ groups) =
    let all = group ∷ groups in
    elim (cases_lt 0 group) [
      | inl other ↦
          let none : zeros all ≡ 0 = cond-false (not (ltb 0 group)) (1 + zeros groups) 0 (not_from_true (ltb 0 group) (lt-ltb 0 group other)) in
          subst (λ (n : ℕ). take n all ≡ replicate n 0) (sym none) refl
      | inr low ↦
          let is_zero : group ≡ 0 = omega arith in
          let one_more : 1 + zeros groups ≡ suc (zeros groups) = omega arith in
          let more : zeros all ≡ suc (zeros groups) = cond-true (not (ltb 0 group)) (1 + zeros groups) 0 (not_from_false (ltb 0 group) (le-ltb 0 group low)) ∙ one_more in
          let rest : group ∷ take (zeros groups) groups ≡ 0 ∷ replicate (zeros groups) 0 = cc (is_zero, zeros_are groups) in
          subst (λ (n : ℕ). take n all ≡ replicate n 0) (sym more) rest
    ]

combined : (g7 g6 g5 g4 g3 g2 g1 g0 q6 q5 q4 q3 q2 q1 q0 : ℕ) → g7 * 65536 + g6 ≡ q6 → q6 * 65536 + g5 ≡ q5 → q5 * 65536 + g4 ≡ q4 → q4 * 65536 + g3 ≡ q3
    → q3 * 65536 + g2 ≡ q2 → q2 * 65536 + g1 ≡ q1 → q1 * 65536 + g0 ≡ q0
    → ((((((g7 * 65536 + g6) * 65536 + g5) * 65536 + g4) * 65536 + g3) * 65536 + g2) * 65536 + g1) * 65536 + g0 ≡ q0
combined g7 g6 g5 g4 g3 g2 g1 g0 q6 q5 q4 q3 q2 q1 q0 a b c d e f g = rw (a, b, c, d, e, f, g) refl

number_is : (bits : ℕ) → bits < 2 ^ 128 → groups_number (v6_groups bits) ≡ Some bits
number_is bits small =
    let top : group_at bits 7 * 65536 + group_at bits 6 ≡ bits / 2 ^ 96 = omega arith in
    let e : bits / 2 ^ 96 * 65536 + group_at bits 5 ≡ bits / 2 ^ 80 = omega arith in
    let d : bits / 2 ^ 80 * 65536 + group_at bits 4 ≡ bits / 2 ^ 64 = omega arith in
    let c : bits / 2 ^ 64 * 65536 + group_at bits 3 ≡ bits / 2 ^ 48 = omega arith in
    let b : bits / 2 ^ 48 * 65536 + group_at bits 2 ≡ bits / 2 ^ 32 = omega arith in
    let a : bits / 2 ^ 32 * 65536 + group_at bits 1 ≡ bits / 2 ^ 16 = omega arith in
    let low : bits / 2 ^ 16 * 65536 + group_at bits 0 ≡ bits = omega arith in
    ap Some (combined (group_at bits 7) (group_at bits 6) (group_at bits 5) (group_at bits 4) (group_at bits 3) (group_at bits 2) (group_at bits 1) (group_at bits 0)
    (bits / 2 ^ 96) (bits / 2 ^ 80) (bits / 2 ^ 64) (bits / 2 ^ 48) (bits / 2 ^ 32) (bits / 2 ^ 16) bits top e d c b a low)

small_groups : (bits : ℕ) → AllSmall (v6_groups bits)
small_groups bits = (omega arith, (omega arith, (omega arith, (omega arith, (omega arith, (omega arith, (omega arith, (omega arith, tt))))))))

shortened_spells : (groups : List ℕ) → AllSmall groups → length groups ≡ 8 → 2 ≤ longest_run groups
    → IsShortened (shortened groups (start_of_run (longest_run groups) groups) (longest_run groups)) groups
shortened_spells groups small eight long =
    let n = longest_run groups in
    let at = start_of_run n groups in
    let before = take at groups in
    let after = drop (at + n) groups in
    let fits = run_fits groups (omega arith) in
    let front : length before ≡ at = length-take-le at groups (omega arith) in
    let back : length after ≡ length groups - (at + n) = length-drop (at + n) groups in
    let count : 8 - (length before + length after) ≡ n = omega arith in
    let run : take n (drop at groups) ≡ replicate n 0 = subst (λ (k : ℕ). take k (drop at groups) ≡ replicate k 0) (run_is n groups refl (omega arith)) (zeros_are (drop at groups)) in
    let split : groups ≡ before ++ (replicate n 0 ++ after) =
    sym (take-append-drop at groups) ∙ ap (λ xs. before ++ xs) (sym (take-append-drop n (drop at groups)) ∙ ap (λ xs. xs ++ drop n (drop at groups)) run ∙ ap (λ xs. replicate n 0 ++ xs) (drop-drop n at groups)) in
    record {
      before_texts = map group_text before;
      after_texts = map group_text after;
      before = before;
      after = after;
      spelled_before = groups_spell before (small_take at groups small);
      spelled_after = groups_spell after (small_drop (at + n) groups small);
      fewer = omega arith;
      is = append_assoc (joined before) (codes "::") (joined after);
      filled = split ∙ sym (append_assoc before (replicate n 0) after) ∙ ap (λ k. before ++ replicate k 0 ++ after) (sym count);
    }

pub v6_written : (bits : ℕ) → bits < 2 ^ 128 → SpellsV6 (groups_text (v6_groups bits)) bits
unfolding groups_text
v6_written bits small =
    let groups = v6_groups bits in
    let n = longest_run groups in
    let at = start_of_run n groups in
    let number = number_is bits small in
    elim (cases_lt n 2) [
      | inl few ↦
          let text : groups_text groups ≡ joined groups = cond-true (ltb n 2) (joined groups) (shortened groups at n) (lt-ltb n 2 few) in
          record { groups = groups; form = inl (record { texts = map group_text groups; spelled = groups_spell groups (small_groups bits); eight = refl; is = text }); number = number }
      | inr many ↦
          let text : groups_text groups ≡ shortened groups at n = cond-false (ltb n 2) (joined groups) (shortened groups at n) (le-ltb n 2 many) in
          record { groups = groups; form = inr (subst (λ (t : List ℕ). IsShortened t groups) (sym text) (shortened_spells groups (small_groups bits) refl many)); number = number }
    ]
