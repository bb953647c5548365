-- The ids of live machines, one machine after the other.
use Rattle.std.proofs.Common.{◌≡◌, ◌∙◌, ◌++◌, ◌∷◌, [], ℕ, List, inl, inr, sym, append_assoc, if◌then◌else◌}
use Rattle.std.proofs.lemmas.List.{append-nil}
use Rattle.std.specs.Prelude.{map, filter}
use Rattle.std.proofs.lemmas.Bool.{cases_Bool}
use Rattle.net_rows.specs.declared.machine.Machine.{Machine}
use Rattle.desk_state.specs.State.{State, is_live}

-- the ids of those of the machines that are live, behind some that were gathered before
abbrev pub with_live : State → List ℕ → List Machine → List ℕ
with_live s ids [] = ids
with_live s ids (m ∷ ms) = with_live s (ids ++ (if is_live s m then m.id ∷ [] else [])) ms

live_step : (s : State) (ids : List ℕ) (m : Machine) (ms : List Machine)
    → (ids ++ (if is_live s m then m.id ∷ [] else [])) ++ map (λ (r : Machine). r.id) (filter (is_live s) ms) ≡ ids ++ map (λ (r : Machine). r.id) (filter (is_live s) (m ∷ ms))
live_step s ids m ms =
    elim (cases_Bool (is_live s m)) [
      | inl live ↦ rw live (append_assoc ids (m.id ∷ []) (map (λ (r : Machine). r.id) (filter (is_live s) ms)))
      | inr gone ↦ rw gone (append_assoc ids [] (map (λ (r : Machine). r.id) (filter (is_live s) ms)))
    ]

pub with_live_is : (s : State) (ids : List ℕ) (ms : List Machine) → with_live s ids ms ≡ ids ++ map (λ (r : Machine). r.id) (filter (is_live s) ms)
with_live_is s ids [] = sym (append-nil ids)
with_live_is s ids (m ∷ ms) = with_live_is s (ids ++ (if is_live s m then m.id ∷ [] else [])) ms ∙ live_step s ids m ms
