-- What is known of a name that is given.
use Rattle.std.proofs.Common.{◌≡◌, ◌≢◌, ◌<◌, ◌≤◌, ◌+◌, ℕ, true, false, List, length, Option, Some, None, unwrap_or, inl, inr, arith, sym, refl}
use Rattle.std.specs.Prelude.{Contains}
use Rattle.std.specs.Str.{bytes_eq}
use Rattle.tail_base.specs.Labels.{is_label, label_of_host, numbered_label}
use Rattle.tail_base.proofs.NumberLemmas.{numbered_is_label}
use Rattle.tail_base.proofs.HostLemmas.{label_of_host_is_label}
use Rattle.net_rows.specs.declared.limits.TheConstants.{MACHINE_LIMIT}
use Rattle.net_rows.specs.declared.machine.Machine.{Machine}
use Rattle.allot.specs.Addresses.{least_from}
use Rattle.allot.specs.Names.{has_name, free_number, free_label, free_name}
use Rattle.allot.proofs.SearchLemmas.{least_from-passes, least_from-within, least_from-least}
use Rattle.std.proofs.lemmas.Bool.{both_ways, cases_Bool, not-false, not-true}
use Rattle.tail_base.proofs.Bools.{bytes_eq-from}
use Rattle.net_rows.proofs.Members.{list_any_member}
use Rattle.allot.proofs.NameLemmas.{is_free_number, number_found}

-- the number that is found, and what is known of it
pub record IsFreeNumber (machines : List Machine) (base : List ℕ) (n : ℕ) : Type 0 where
  pub found : least_from (is_free_number machines base) (length machines + 1) 1 ≡ Some n
  pub low : 1 ≤ n
  pub high : n < length machines + 2
  pub free : has_name machines (numbered_label base n) ≡ false
  pub least : (k : ℕ) → 1 ≤ k → k < n → has_name machines (numbered_label base k) ≡ true

found_number : (machines : List Machine) (base : List ℕ) (n : ℕ) → least_from (is_free_number machines base) (length machines + 1) 1 ≡ Some n
    → IsFreeNumber machines base n
found_number machines base n h =
    let test = is_free_number machines base in
    let within : (1 ≤ n) × (n < 1 + (length machines + 1)) = least_from-within test (length machines + 1) 1 n h in
    record {
      found = h;
      low = within.0;
      high = omega arith;
      free = not-true _ (least_from-passes test (length machines + 1) 1 n h);
      least = λ k low high. not-false _ (least_from-least test (length machines + 1) 1 n h k low high);
    }

some_number : (machines : List Machine) (base : List ℕ) → length machines ≤ MACHINE_LIMIT
    → (found : Option ℕ) → found ≡ least_from (is_free_number machines base) (length machines + 1) 1 → IsFreeNumber machines base (unwrap_or found 0)
some_number machines base few None is = absurd (number_found machines base few (sym is))
some_number machines base few (Some n) is = found_number machines base n (sym is)

-- the least free number is free, and each smaller one is taken
pub number_free : (machines : List Machine) (base : List ℕ) → length machines ≤ MACHINE_LIMIT → IsFreeNumber machines base (free_number machines base)
number_free machines base few = some_number machines base few _ refl

not_named : (machines : List Machine) (name : List ℕ) → has_name machines name ≡ false → (m : Machine) → Contains machines m → m.name ≢ name
not_named machines name none m inside same =
    let differs : bytes_eq m.name name ≡ false = list_any_member (λ m. bytes_eq m.name name) machines none m inside in
    both_ways _ differs (bytes_eq-from m.name name same)

-- no machine has the label that is given
pub label_untaken : (machines : List Machine) (base : List ℕ) → length machines ≤ MACHINE_LIMIT → has_name machines (free_label machines base) ≡ false
label_untaken machines base few =
    elim (cases_Bool (has_name machines base)) [
      | inl taken ↦ rw taken (number_free machines base few).free
      | inr free ↦ rw free free
    ]

-- no machine has the name that is given
pub name_fresh : (machines : List Machine) (host : List ℕ) → length machines ≤ MACHINE_LIMIT
    → (m : Machine) → Contains machines m → m.name ≢ free_name machines host
name_fresh machines host few = not_named machines (free_name machines host) (label_untaken machines (label_of_host host) few)

-- a label with a number is a label
pub free_label_is_label : (machines : List Machine) (base : List ℕ) → length machines ≤ MACHINE_LIMIT → is_label base ≡ true → is_label (free_label machines base) ≡ true
free_label_is_label machines base few label =
    elim (cases_Bool (has_name machines base)) [
      | inl taken ↦
          let high : free_number machines base < length machines + 2 = (number_free machines base few).high in
          let numbered : is_label (numbered_label base (free_number machines base)) ≡ true = numbered_is_label base (free_number machines base) (omega arith) label in
          rw taken numbered
      | inr free ↦ rw free label
    ]

-- the name that is given is a label
pub name_is_label : (machines : List Machine) (host : List ℕ) → length machines ≤ MACHINE_LIMIT → is_label (free_name machines host) ≡ true
name_is_label machines host few = free_label_is_label machines (label_of_host host) few (label_of_host_is_label host)

-- where the bare name is free, it is given
pub name_bare : (machines : List Machine) (host : List ℕ) → has_name machines (label_of_host host) ≡ false → free_name machines host ≡ label_of_host host
name_bare machines host free = rw free refl

-- else the name with the least number that is free is given
pub name_numbered : (machines : List Machine) (host : List ℕ) → length machines ≤ MACHINE_LIMIT → has_name machines (label_of_host host) ≡ true
    → (n : ℕ) × (1 ≤ n) × (free_name machines host ≡ numbered_label (label_of_host host) n)
    × ((k : ℕ) → 1 ≤ k → k < n → has_name machines (numbered_label (label_of_host host) k) ≡ true)
name_numbered machines host few taken =
    let number = number_free machines (label_of_host host) few in
    (free_number machines (label_of_host host), number.low, rw taken refl, number.least)
