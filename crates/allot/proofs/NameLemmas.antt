-- The search for a free name.
use Rattle.std.proofs.Common.{◌≡◌, ◌<◌, ◌≤◌, ◌+◌, ◌^◌, ℕ, suc, Bool, true, false, not, List, [], ◌∷◌, length, map, Some, None, unwrap_or, arith, sym, ap, ◌∙◌, refl}
use Rattle.std.specs.Set.{is_member}
use Rattle.std.specs.Str.{bytes_eq}
use Rattle.std.proofs.lemmas.Bool.{not-false}
use Rattle.tail_base.specs.Labels.{numbered_label}
use Rattle.tail_base.proofs.NumberLemmas.{numbered_label-injective}
use Rattle.net_rows.specs.declared.limits.TheConstants.{MACHINE_LIMIT}
use Rattle.net_rows.specs.declared.machine.Machine.{Machine}
use Rattle.allot.specs.Addresses.{least_from}
use Rattle.allot.specs.Names.{has_name, free_number}
use Rattle.allot.proofs.SearchLemmas.{least_from-none}
use Rattle.allot.proofs.Pigeonhole.{AreApart, pigeonhole, bytes_eq_equiv}

-- whether no machine has the label with this number
abbrev pub is_free_number : List Machine → List ℕ → ℕ → Bool
is_free_number machines base n = not (has_name machines (numbered_label base n))

pub found_name : (machines : List Machine) (base name : List ℕ) (n : ℕ) → name ≡ numbered_label base n
    → least_from (is_free_number machines base) (length machines + 1) 1 ≡ Some n → name ≡ numbered_label base (free_number machines base)
found_name machines base name n is h = is ∙ ap (λ o. numbered_label base (unwrap_or o 0)) (sym h)

-- the names of the machines
names_of : List Machine → List (List ℕ)
names_of machines = map (λ m. m.name) machines

-- a machine has the name exactly where it is one of their names
member_of_names : (machines : List Machine) (name : List ℕ) → is_member bytes_eq (names_of machines) name ≡ has_name machines name
unfolding names_of
member_of_names [] name = refl
member_of_names (m ∷ ms) name = rw (bytes_eq_equiv.symm name m.name, member_of_names ms name) refl

length_of_names : (machines : List Machine) → length (names_of machines) ≡ length machines
unfolding names_of
length_of_names [] = refl
length_of_names (m ∷ ms) = ap suc (length_of_names ms)

-- labels of different numbers differ
pub numbers_apart : (base : List ℕ) → AreApart (numbered_label base) (2 ^ 32)
numbers_apart base = record { apart = numbered_label-injective base }

-- a number is found
pub number_found : (machines : List Machine) (base : List ℕ) → length machines ≤ MACHINE_LIMIT
    → least_from (is_free_number machines base) (length machines + 1) 1 ≡ None → ⊥
number_found machines base few none =
    let taken : (k : ℕ) → 1 ≤ k → k < 1 + (length (names_of machines) + 1) → is_member bytes_eq (names_of machines) (numbered_label base k) ≡ true =
    λ (k : ℕ) (low : 1 ≤ k) (high : k < 1 + (length (names_of machines) + 1)).
    let fails : is_free_number machines base k ≡ false =
    least_from-none (is_free_number machines base) (length machines + 1) 1 none k low (omega (arith, length_of_names machines)) in
    member_of_names machines (numbered_label base k) ∙ not-false _ fails in
    pigeonhole (numbered_label base) (names_of machines) (2 ^ 32) 1 (numbers_apart base) (omega (arith, length_of_names machines)) taken
