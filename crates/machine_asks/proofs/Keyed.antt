-- A registration by a pre-auth key is sound.
use Rattle.std.proofs.Common.{◌≡◌, ◌≢◌, ◌++◌, ℕ, Bool, true, false, not, ◌&&◌, List, Option, Some, None, Ok, if◌then◌else◌, inl, inr, refl, sym, ap, ◌∙◌, arith}
use Rattle.std.specs.Cmp.Lexicographic.{slice_cmp}
use Rattle.std.specs.Ordering.{nat_cmp}
use Rattle.std.proofs.Common.{length-append}
use Rattle.std.specs.List.{list_all}
use Rattle.std.specs.Prelude.{Contains}
use Rattle.std.specs.Str.{bytes_eq}
use Rattle.std.proofs.lemmas.Bool.{cases_Bool}
use Rattle.tail_base.specs.declared.key.MachineKey.{MachineKey}
use Rattle.tail_base.specs.Steps.{refuse_if, or_fault}
use Rattle.tail_base.proofs.SortedLemmas.{length-sorted_once}
use Rattle.tail_base.proofs.StepLemmas.{bind_parts, fault_parts}
use Rattle.settings.specs.Settings.{AreSettings}
use Rattle.net_rows.specs.Rows.{after, key_of, machine_of, pending_of}
use Rattle.net_rows.specs.Sound.{AreSound}
use Rattle.net_rows.specs.declared.change.Change.{Change}
use Rattle.net_rows.specs.declared.key.AuthKey.{AuthKey}
use Rattle.net_rows.specs.declared.machine.Machine.{Machine}
use Rattle.net_rows.specs.declared.pending.Pending.{Pending}
use Rattle.net_rows.specs.declared.rows.Rows.{Rows}
use Rattle.net_rows.proofs.Members.{find_member}
use Rattle.tailcfg.specs.Short.{IsShortForm}
use Rattle.tailcfg.specs.declared.register.Register.{Register}
use Rattle.desk_state.specs.Decisions.{IsPlain, IsSoundChange}
use Rattle.desk_state.specs.State.{State, is_ahead}
use Rattle.desk_state.specs.Tags.{tags_granted}
use Rattle.desk_state.specs.declared.decision.Decision.{Decision}
use Rattle.desk_state.specs.declared.refusal.Refusal.TheVariants.{KeyUnknown, KeyExpired, KeyUsed}
use Rattle.desk_state.proofs.Kept.{is_no_policy}
use Rattle.desk_state.proofs.Proper.{proper_bind, proper_none, proper_some}
use Rattle.desk_state.specs.Rows.{is_taken, kept_place, machine_row, place_for, row_change}
use Rattle.desk_state.specs.Same.{same_row}
use Rattle.desk_state.specs.declared.entrant.Entrant.{Entrant}
use Rattle.desk_state.specs.declared.place.Place.{Place}
use Rattle.desk_state.proofs.Rests.{admitted_differs, entered_differs, first_use_differs, renewed_differs}
use Rattle.desk_state.proofs.RowLemmas.{EntrantKeeps, machine_found, new_place_is}
use Rattle.desk_state.proofs.Sameness.{row_kept}
use Rattle.desk_state.proofs.SoundChanges.{enter_change}
use Rattle.machine_asks.specs.ByKey.{admitted_by_key, by_key, changes_nothing, entrant_of_key, usable_key}

-- a usable key is one of the tables
usable_is : (s : State) (text : List ℕ) (k : AuthKey) → usable_key s text ≡ Ok k → Contains s.rows.keys k
usable_is s text k h =
    let found = bind_parts (or_fault KeyUnknown (key_of s.rows.keys text)) _ k h in
    let timely = bind_parts (refuse_if (not (is_ahead s.now found.0.expiry)) KeyExpired) _ k found.2 in
    let unused = bind_parts (refuse_if (found.0.used && not found.0.reusable) KeyUsed) _ k timely.2 in
    let same : found.0 ≡ k = cc in
    (find_member (λ (r : AuthKey). bytes_eq r.text text) s.rows.keys k (fault_parts KeyUnknown _ _ found.1 ∙ ap Some same)).0

-- the tags of a key and of a form are no more than a machine may have
entrant_keeps : (s : State) (form : Register) (k : AuthKey) → AreSound s.rows → IsShortForm form → Contains s.rows.keys k → EntrantKeeps s.rows.users (entrant_of_key s form k)
entrant_keeps s form k sound short inside =
    let key = sound.keys.keeps k inside in
    record {
      user = key.user;
      host = omega (arith, short.host);
      routes = omega (arith, short.routes);
      tags = omega (arith, key.tags, short.tags, length-sorted_once (slice_cmp nat_cmp) (k.tags ++ form.tags), length-append k.tags form.tags);
    }

-- Of a row that is kept, something changes: the key is new, or else the row is another one.
renewed_apart : (t : Rows) (m r : Machine) (next : ℕ) (k : AuthKey) → AreSound t → Contains t.machines m → Contains t.keys k → r.id ≡ m.id
    → (same_row m r && k.used) ≡ false → after t (row_change t r next (Some k) None) ≢ t
renewed_apart t m r next k sound row key id some =
    elim (cases_Bool k.used) [
      | inr unused ↦ first_use_differs t r next k None sound key unused
      | inl used ↦ elim (cases_Bool (same_row m r)) [
        | inl same ↦ let clash : true ≡ false = rw (same, used) at some in absurd (cc)
        | inr other ↦ renewed_differs t m r next (Some k) None sound row id
            (λ e. let clash : true ≡ false = sym (row_kept m r e) ∙ other in absurd (cc))
      ]
    ]

-- where a machine's entry, its key, its row or its place is new, rows change
entry_apart : (s : State) (mk : MachineKey) (e : Entrant) (host : List ℕ) (held : Option Machine) (p : Place) (k : AuthKey) (pending : Option Pending) → AreSound s.rows
    → machine_of s.rows.machines mk.0 ≡ held → pending_of s.rows.pending mk.0 ≡ pending → Contains s.rows.keys k → place_for s host held ≡ Ok p
    → changes_nothing held (machine_row mk e p) k pending ≡ false → after s.rows (row_change s.rows (machine_row mk e p) p.next (Some k) pending) ≢ s.rows
entry_apart s mk e host None p k pending sound found waits key placed some =
    entered_differs s.rows (machine_row mk e p) p.next (Some k) pending sound (new_place_is s host p placed).next
entry_apart s mk e host (Some m) p k (Some q) sound found waits key placed some =
    admitted_differs s.rows (machine_row mk e p) p.next (Some k) q sound (find_member (λ (r : Pending). bytes_eq r.machine.0 mk.0) s.rows.pending q waits).0
entry_apart s mk e host (Some m) p k None sound found waits key placed some =
    let kept : kept_place s m ≡ p = cc in
    renewed_apart s.rows m (machine_row mk e p) p.next k sound (machine_found s.rows.machines mk m found).0 key
    (sym (ap (λ (x : Place). x.id) kept)) (let both : (same_row m (machine_row mk e p) && k.used && true) ≡ false = some in without_true _ both)
  where
    without_true : (b : Bool) → (b && true) ≡ false → b ≡ false
    without_true true h = h
    without_true false h = refl

-- a change that is made unless a test passes
change_proper : {A : Type 0} (rows : Rows) (d : Decision A) (b : Bool) (c : Change) → d.change ≡ (if b then None else Some c) → d.policy ≡ None → list_all is_no_policy c.puts ≡ true
    → (b ≡ false → IsSoundChange rows c) → IsPlain rows (Ok d)
change_proper rows d true c is none plain h = proper_none rows d is none
change_proper rows d false c is none plain h = proper_some rows d c is none plain (h refl)

pub by_key_proper : (s : State) (mk : MachineKey) (form : Register) (held : Option Machine) → AreSettings s.settings → AreSound s.rows → IsShortForm form
    → machine_of s.rows.machines mk.0 ≡ held → is_taken s.rows.machines mk form.node ≡ false → IsPlain s.rows (by_key s mk form held)
by_key_proper s mk form held hold sound short found free =
    proper_bind s.rows (usable_key s form.auth) _ (λ (k : AuthKey) is.
    let inside = usable_is s form.auth k is in
    let e = entrant_of_key s form k in
    let pending = pending_of s.rows.pending mk.0 in
    proper_bind s.rows (tags_granted s k.user form.tags) _ (λ _ _.
    proper_bind s.rows (place_for s form.host held) _ (λ (p : Place) placed.
    change_proper s.rows (admitted_by_key s held (machine_row mk e p) p.next k) (changes_nothing held (machine_row mk e p) k pending)
    (row_change s.rows (machine_row mk e p) p.next (Some k) pending) refl refl refl (λ some.
    enter_change s mk e form.host held p (Some k) pending hold sound found free (entrant_keeps s form k sound short inside) placed inside
    (entry_apart s mk e form.host held p k pending sound found refl inside placed some)))))
