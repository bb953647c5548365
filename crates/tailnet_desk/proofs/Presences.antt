-- Machines that rise by id are offline in that order.
use Rattle.std.proofs.Common.{◌≡◌, ℤ, List, [], ◌∷◌, inl, inr, ap}
use Rattle.std.specs.Prelude.{Contains, map}
use Rattle.desk_state.specs.State.{offline_at}
use Rattle.desk_state.specs.declared.presence.MachinePresence.{MachinePresence}
use Rattle.net_rows.specs.Shelf.{IsAscending}
use Rattle.net_rows.specs.declared.machine.Machine.{Machine}
use Rattle.net_rows.proofs.Members.{cut_member, first_member, no_member, rest_member}

-- whose presence it is
owner : (now : ℤ) (machines : List Machine) (p : MachinePresence) → Contains (map (λ (m : Machine). offline_at now m.id) machines) p → (m : Machine) × Contains machines m × (p.id ≡ m.id)
owner now [] p h = absurd (no_member p h)
owner now (m ∷ ms) p h = elim (cut_member (offline_at now m.id) (map (λ (m : Machine). offline_at now m.id) ms) p h) [
  | inl same ↦ (m, first_member m ms, ap (λ (q : MachinePresence). q.id) same)
  | inr rest ↦ (let found = owner now ms p rest in (found.0, rest_member m ms found.0 found.1, found.2))
]

pub presence_rises : (now : ℤ) (machines : List Machine) → IsAscending (λ m. m.id) machines → IsAscending (λ p. p.id) (map (λ (m : Machine). offline_at now m.id) machines)
presence_rises now [] h = tt
presence_rises now (m ∷ ms) h = (
  λ p inside. let found = owner now ms p inside in let less = h.0 found.0 found.1 in rw found.2 less,
  presence_rises now ms h.1,
)
