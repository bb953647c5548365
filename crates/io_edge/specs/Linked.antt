-- What a link tells.
use Rattle.std.specs.Prelude.{ℕ, List, Option}

-- what a link tells: its bytes left and written, the addresses that it was asked for, and its counts of faults
pub record LinkTold : Type 0 where
  pub left : Option (List ℕ)
  pub holds : Option (List ℕ)
  pub asked : Option (List (List ℕ))
  pub read_faults : ℕ
  pub write_faults : ℕ

abbrev pub link_told : {L : Type 0} → (L → Option (List ℕ)) → (L → ℕ) → (L → Option (List ℕ)) → (L → ℕ) → (L → Option (List (List ℕ))) → L → LinkTold
link_told left read_faults holds write_faults asked l = record {
  left = left l;
  holds = holds l;
  asked = asked l;
  read_faults = read_faults l;
  write_faults = write_faults l;
}
