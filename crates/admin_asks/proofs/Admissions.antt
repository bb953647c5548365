-- An admission is a sound decision.
use Rattle.std.proofs.Common.{◌≡◌, ℕ, List, Some, None, Ok, ap, ◌∙◌, refl, arith}
use Rattle.std.specs.Cmp.Lexicographic.{slice_cmp}
use Rattle.std.specs.Ordering.{nat_cmp}
use Rattle.std.specs.Prelude.{Contains}
use Rattle.std.specs.Str.{bytes_eq}
use Rattle.tail_base.specs.Steps.{◌>>=◌, refuse_if}
use Rattle.tail_base.proofs.SortedLemmas.{length-sorted_once}
use Rattle.tail_base.proofs.StepLemmas.{bind_parts, due_parts}
use Rattle.settings.specs.Settings.{AreSettings}
use Rattle.net_rows.specs.Rows.{machine_of, pending_with}
use Rattle.net_rows.specs.Sound.{AreSound}
use Rattle.net_rows.specs.declared.pending.Pending.{Pending}
use Rattle.net_rows.specs.declared.user.User.{User}
use Rattle.net_rows.proofs.Members.{find_member}
use Rattle.desk_state.specs.Decisions.{IsPlain}
use Rattle.desk_state.specs.State.{State, is_overdue}
use Rattle.desk_state.specs.Tags.{tags_granted}
use Rattle.desk_state.specs.Users.{user_named}
use Rattle.desk_state.specs.declared.refusal.Refusal.TheVariants.{NodeKeyTaken, PendingUnknown}
use Rattle.desk_state.proofs.Proper.{proper_bind, proper_refuse, proper_some}
use Rattle.desk_state.specs.Rows.{is_taken, machine_row, place_for, row_change}
use Rattle.desk_state.specs.declared.place.Place.{Place}
use Rattle.desk_state.proofs.Rests.{admitted_differs}
use Rattle.desk_state.proofs.RowLemmas.{EntrantKeeps}
use Rattle.desk_state.proofs.SoundChanges.{enter_change}
use Rattle.admin_asks.specs.Admit.{admission, admit, entrant_of_entry, timely_entry}
use Rattle.admin_asks.proofs.NamedLaws.{user_there}

-- a timely entry is one of the tables
entry_there : (s : State) (text : List ℕ) (p : Pending) → timely_entry s text ≡ Ok p → Contains s.rows.pending p
entry_there s text p h =
    let found = due_parts PendingUnknown (pending_with s.rows.pending text) (λ (q : Pending). refuse_if (is_overdue s q) PendingUnknown >>= (λ _. Ok q)) p h in
    let timely = bind_parts (refuse_if (is_overdue s found.0) PendingUnknown) (λ _. Ok found.0) p found.2 in
    let same : found.0 ≡ p = cc in
    (find_member (λ (x : Pending). bytes_eq x.text text) s.rows.pending p (found.1 ∙ ap Some same)).0

entrant_keeps : (s : State) (p : Pending) (u : User) → AreSound s.rows → Contains s.rows.pending p → Contains s.rows.users u
    → EntrantKeeps s.rows.users (entrant_of_entry s p u.id)
entrant_keeps s p u sound inside user =
    let entry = sound.pending.keeps p inside in
    record {
      user = (u, user, refl);
      host = entry.host;
      routes = entry.routes;
      tags = omega (arith, entry.tags, length-sorted_once (slice_cmp nat_cmp) p.tags);
    }

pub admit_proper : (s : State) (pending login : List ℕ) → AreSettings s.settings → AreSound s.rows → IsPlain s.rows (admit s pending login)
admit_proper s pending login hold sound =
    let t = s.rows in
    proper_bind t (timely_entry s pending) _ (λ (p : Pending) found.
    let inside = entry_there s pending p found in
    let held = machine_of t.machines p.machine.0 in
    proper_bind t (user_named t login) _ (λ (u : User) named.
    let entrant = entrant_of_entry s p u.id in
    proper_refuse t (is_taken t.machines p.machine p.node) NodeKeyTaken _ (λ free.
    proper_bind t (tags_granted s u.id p.tags) _ (λ _ _.
    proper_bind t (place_for s p.host held) _ (λ (place : Place) placed.
    let row = machine_row p.machine entrant place in
    proper_some t (admission s p row place.next) (row_change t row place.next None (Some p)) refl refl refl
    (enter_change s p.machine entrant p.host held place None (Some p) hold sound refl free
    (entrant_keeps s p u sound inside (user_there t login u named)) placed tt
    (admitted_differs t row place.next None p sound inside)))))))
