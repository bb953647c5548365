-- Which rows a decided change puts.
use Rattle.std.proofs.Common.{◌≡◌, ◌⊎◌, inl, inr, ℕ, true, false, not, ◌&&◌, List, [], ◌∷◌, Option, Some, None, Ok, refl, sym, ap, ◌∙◌, subst}
use Rattle.std.specs.Prelude.{Contains}
use Rattle.tail_base.specs.declared.key.MachineKey.{MachineKey}
use Rattle.net_rows.specs.Rows.{machine_of, take_all_out}
use Rattle.net_rows.specs.Shelf.{HasRow}
use Rattle.net_rows.specs.declared.change.Change.{Change}
use Rattle.net_rows.specs.declared.change.Row.{Row}
use Rattle.net_rows.specs.declared.change.Row.TheVariants as row
use Rattle.net_rows.specs.declared.key.AuthKey.{AuthKey}
use Rattle.net_rows.specs.declared.machine.Machine.{Machine}
use Rattle.net_rows.specs.declared.rows.Rows.{Rows}
use Rattle.desk_state.specs.State.{State}
use Rattle.desk_state.specs.declared.decision.Decision.{Decision}
use Rattle.desk_state.specs.Rows.{kept_place, machine_row, place_for}
use Rattle.desk_state.specs.declared.entrant.Entrant.{Entrant}
use Rattle.desk_state.specs.declared.place.Place.{Place}
use Rattle.desk_state.proofs.RowLemmas.{machine_found, new_place_is}

-- a key's row that is put again is reusable or not as it was, and stays used
pub record KeepsUse (old new : AuthKey) : Type 0 where
  pub id : new.id ≡ old.id
  pub reusable : new.reusable ≡ old.reusable
  pub used : old.used ≡ true → new.used ≡ true

-- a key's row that is put has the next id, or stands where one stood
abbrev pub IsKeyPut : Rows → AuthKey → Type 0
IsKeyPut t k = (k.id ≡ t.next.key) ⊎ ((old : AuthKey) × Contains t.keys old × KeepsUse old k)

-- a registration puts a key that it may use, used
abbrev pub IsKeyUsed : Rows → AuthKey → Type 0
IsKeyUsed t k = (old : AuthKey) × Contains t.keys old × ((old.used && not old.reusable) ≡ false) × (k ≡ record old { used = true })

pub used_is_put : (t : Rows) (k : AuthKey) → IsKeyUsed t k → IsKeyPut t k
used_is_put t k (old, inside, usable, is) = inr (old, inside, subst (KeepsUse old) (sym is) (record { id = refl; reusable = refl; used = λ _. refl }))

-- a machine's row that is put has the next id, where the machine enters, or stands where its own stood
abbrev pub IsMachinePut : Rows → (MachineKey → Type 0) → Machine → Type 0
IsMachinePut t enters m = ((m.id ≡ t.next.machine) × enters m.machine) ⊎ ((old : Machine) × Contains t.machines old × (m.id ≡ old.id) × (m.machine ≡ old.machine))

-- what is put: users and pending entries under the next id, and such keys and machines
abbrev pub IsPut : Rows → (AuthKey → Type 0) → (MachineKey → Type 0) → Row → Type 0
IsPut t keys enters (row.User u) = u.id ≡ t.next.user
IsPut t keys enters (row.Key k) = keys k
IsPut t keys enters (row.Pending p) = p.id ≡ t.next.pending
IsPut t keys enters (row.Machine m) = IsMachinePut t enters m
IsPut t keys enters (row.Extras xs) = Unit {0}
IsPut t keys enters (row.Policy text) = Unit {0}

abbrev pub ArePut : Rows → (AuthKey → Type 0) → (MachineKey → Type 0) → List Row → Type 0
ArePut t keys enters [] = Unit {0}
ArePut t keys enters (x ∷ xs) = IsPut t keys enters x × ArePut t keys enters xs

-- a machine's row that is put stands where one stood, or its machine is offline from then on
abbrev pub HasPlace : Rows → List ℕ → Row → Type 0
HasPlace t offline (row.User u) = Unit {0}
HasPlace t offline (row.Key k) = Unit {0}
HasPlace t offline (row.Pending p) = Unit {0}
HasPlace t offline (row.Machine m) = HasRow (λ (r : Machine). r.id) t.machines m.id ⊎ Contains offline m.id
HasPlace t offline (row.Extras xs) = Unit {0}
HasPlace t offline (row.Policy text) = Unit {0}

abbrev pub HavePlaces : Rows → List ℕ → List Row → Type 0
HavePlaces t offline [] = Unit {0}
HavePlaces t offline (x ∷ xs) = HasPlace t offline x × HavePlaces t offline xs

-- so it is with the rows of a change
abbrev pub ArePlaced : Rows → List ℕ → Change → Type 0
ArePlaced t offline c = HavePlaces (take_all_out t c.gone) offline c.puts

-- the change of the decision, if any, puts such rows
abbrev pub Puts : {A : Type 0} → Rows → (AuthKey → Type 0) → (MachineKey → Type 0) → Decision A → Type 0
Puts t keys enters d = (c : Change) → d.change ≡ Some c → ArePut t keys enters c.puts × ArePlaced t d.offline c

pub puts_none : {A : Type 0} (t : Rows) (keys : AuthKey → Type 0) (enters : MachineKey → Type 0) (d : Decision A) → d.change ≡ None → Puts t keys enters d
puts_none t keys enters d none c is = let clash : None ≡ Some c = sym none ∙ is in absurd (cc)

pub puts_some : {A : Type 0} (t : Rows) (keys : AuthKey → Type 0) (enters : MachineKey → Type 0) (d : Decision A) (c : Change)
    → d.change ≡ Some c → ArePut t keys enters c.puts → ArePlaced t d.offline c → Puts t keys enters d
puts_some t keys enters d c some h placed x is =
    let both : Some c ≡ Some x = sym some ∙ is in
    let same : c ≡ x = cc in
    subst (λ (y : Change). ArePut t keys enters y.puts × ArePlaced t d.offline y) same (h, placed)

abbrev key_of_bytes : List ℕ → MachineKey
key_of_bytes bytes = record { 0 = bytes }

-- keys of the same bytes are one key
pub one_key : (a b : MachineKey) → a.0 ≡ b.0 → a ≡ b
one_key a b e = ap key_of_bytes e

-- the row of a machine that has a place for its own
pub placed_put : (s : State) (mk : MachineKey) (e : Entrant) (host : List ℕ) (held : Option Machine) (p : Place) (enters : MachineKey → Type 0)
    → machine_of s.rows.machines mk.0 ≡ held → place_for s host held ≡ Ok p → enters mk → IsMachinePut s.rows enters (machine_row mk e p)
placed_put s mk e host None p enters found placed may = inl ((new_place_is s host p placed).id, may)
placed_put s mk e host (Some m) p enters found placed may =
    let kept : kept_place s m ≡ p = cc in
    let here = machine_found s.rows.machines mk m found in
    inr (m, here.0, sym (ap (λ (x : Place). x.id) kept), one_key mk m.machine (sym here.1))
