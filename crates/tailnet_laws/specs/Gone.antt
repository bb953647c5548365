-- Ids of rows that have gone.
use Rattle.std.specs.Prelude.{◌<◌, ℕ, List}
use Rattle.net_rows.specs.Shelf.{HasRow}
use Rattle.net_rows.specs.declared.rows.Rows.{Rows}

-- The id is below the next one, as that of each row that was removed, and no row has it.
pub record IsGone {T : Type 0} (id : T → ℕ) (rows : List T) (next n : ℕ) : Type 0 where
  pub below : n < next
  pub none : HasRow id rows n → ⊥

abbrev pub IsGoneUser : Rows → ℕ → Type 0
IsGoneUser t n = IsGone (λ r. r.id) t.users t.next.user n

abbrev pub IsGoneKey : Rows → ℕ → Type 0
IsGoneKey t n = IsGone (λ r. r.id) t.keys t.next.key n

abbrev pub IsGonePending : Rows → ℕ → Type 0
IsGonePending t n = IsGone (λ r. r.id) t.pending t.next.pending n

abbrev pub IsGoneMachine : Rows → ℕ → Type 0
IsGoneMachine t n = IsGone (λ r. r.id) t.machines t.next.machine n
