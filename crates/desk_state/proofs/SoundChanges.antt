-- Changes of a machine's row are sound: the tables keep their rules, rows differ, and no counter falls.
use Rattle.std.proofs.Common.{◌≡◌, ◌≢◌, ◌≤◌, ℕ, false, List, Option, Some, None, Ok, arith, ap}
use Rattle.std.specs.Prelude.{Contains, IfSome}
use Rattle.tail_base.specs.declared.key.MachineKey.{MachineKey}
use Rattle.net_rows.specs.Rows.{after, machine_of}
use Rattle.net_rows.specs.Sound.{AreSound, MachineKeeps}
use Rattle.net_rows.specs.declared.change.Counters.{Counters}
use Rattle.net_rows.specs.declared.key.AuthKey.{AuthKey}
use Rattle.net_rows.specs.declared.machine.Machine.{Machine}
use Rattle.net_rows.specs.declared.pending.Pending.{Pending}
use Rattle.net_rows.specs.declared.rows.Rows.{Rows}
use Rattle.net_rows.proofs.SoundRemove.{sound_without_machine}
use Rattle.settings.specs.Settings.{AreSettings}
use Rattle.desk_state.specs.Changes.{machine_gone}
use Rattle.desk_state.specs.Decisions.{IsNoLess, IsSoundChange}
use Rattle.desk_state.specs.State.{State}
use Rattle.desk_state.proofs.Proper.{same_counters, sound_change}
use Rattle.desk_state.specs.Rows.{is_taken, kept_place, machine_row, place_for, row_change, row_replaced}
use Rattle.desk_state.specs.declared.entrant.Entrant.{Entrant}
use Rattle.desk_state.specs.declared.place.Place.{Place}
use Rattle.desk_state.proofs.Rests.{gone_differs, replaced_differs}
use Rattle.desk_state.proofs.RowLemmas.{EntrantKeeps, StandsAs, enter_sound, new_place_is, replaced_sound}
use Rattle.net_rows.proofs.Puttable.{IsOwn}

-- the counter of machines alone rises
machines_rise : (next : Counters) (n : ℕ) → next.machine ≤ n → IsNoLess next (record next { machine = n })
machines_rise next n rises = record { user = omega arith; key = omega arith; pending = omega arith; machine = rises }

-- a place takes no id that was given before
place_rises : (s : State) (host : List ℕ) (held : Option Machine) (p : Place) → place_for s host held ≡ Ok p → s.rows.next.machine ≤ p.next
place_rises s host None p placed = let place = new_place_is s host p placed in omega (arith, place.next)
place_rises s host (Some m) p placed =
    let kept : kept_place s m ≡ p = cc in
    let same = ap (λ (x : Place). x.next) kept in
    omega (arith, same)

-- another row takes the place of a machine's row
pub replaced_change : (t : Rows) (m r : Machine) → AreSound t → Contains t.machines m → StandsAs m r → IsOwn (λ x. x.id) (λ x. x.node.0) t.machines r → MachineKeeps t.users r
    → r ≢ m → IsSoundChange t (row_replaced t r)
replaced_change t m r sound inside same own keeps apart =
    sound_change t (row_replaced t r) (replaced_sound t m r sound inside same own keeps) (replaced_differs t m r sound inside same.id apart) (same_counters t.next)

-- a machine's row goes
pub gone_change : (t : Rows) (m : Machine) → AreSound t → Contains t.machines m → IsSoundChange t (machine_gone t m.id)
gone_change t m sound inside = sound_change t (machine_gone t m.id) (sound_without_machine t m.id sound) (gone_differs t m inside) (same_counters t.next)

-- a machine enters, and something of that is new
pub enter_change : (s : State) (mk : MachineKey) (e : Entrant) (host : List ℕ) (held : Option Machine) (p : Place) (key : Option AuthKey) (pending : Option Pending)
    → AreSettings s.settings → AreSound s.rows → machine_of s.rows.machines mk.0 ≡ held → is_taken s.rows.machines mk e.node ≡ false
    → EntrantKeeps s.rows.users e → place_for s host held ≡ Ok p → IfSome key (λ k. Contains s.rows.keys k)
    → after s.rows (row_change s.rows (machine_row mk e p) p.next key pending) ≢ s.rows
    → IsSoundChange s.rows (row_change s.rows (machine_row mk e p) p.next key pending)
enter_change s mk e host held p key pending hold sound found free owed placed inside differs =
    sound_change s.rows (row_change s.rows (machine_row mk e p) p.next key pending)
    (enter_sound s mk e host held p key pending hold sound found free owed placed inside) differs
    (machines_rise s.rows.next p.next (place_rises s host held p placed))
