-- A sweep is a sound decision, and counts what goes.
use Rattle.std.proofs.Common.{◌≡◌, ◌≢◌, ◌≤◌, ◌+◌, ◌==◌, true, false, List, [], ◌∷◌, ◌++◌, None, inl, inr, sym, ap, ◌∙◌, refl, subst, length, arith}
use Rattle.std.specs.Prelude.{Contains}
use Rattle.std.specs.List.{list_all}
use Rattle.net_rows.specs.Damage.{damage}
use Rattle.net_rows.specs.declared.limits.TheConstants.{MACHINE_LIMIT, PENDING_LIMIT}
use Rattle.net_rows.specs.Rows.{after, take_out, take_all_out}
use Rattle.net_rows.specs.Sound.{AreSound}
use Rattle.net_rows.specs.declared.change.RowKey.{RowKey}
use Rattle.net_rows.specs.declared.change.RowKey.TheVariants as key
use Rattle.net_rows.specs.declared.machine.Machine.{Machine}
use Rattle.net_rows.specs.declared.pending.Pending.{Pending}
use Rattle.net_rows.specs.declared.rows.Rows.{Rows}
use Rattle.net_rows.proofs.Members.{cut_member, no_member}
use Rattle.net_rows.proofs.RemoveLemmas.{without_member}
use Rattle.net_rows.proofs.SoundGone.{is_unnamed, sound_take_all_out, take_all_out-append}
use Rattle.net_rows.proofs.Sounds.{sound_of}
use Rattle.desk_state.specs.Decisions.{IsPlain}
use Rattle.desk_state.specs.State.{State, is_overdue}
use Rattle.desk_state.proofs.Proper.{proper_choice, proper_none, proper_some, same_counters, sound_change}
use Rattle.admin_asks.specs.Sweep.{is_lost, lost_machines, overdue_entries, sweep_change, sweep}
use Rattle.admin_asks.proofs.NamedLaws.{after_gone, chosen_unnamed, first_chosen, length-chosen}

-- no more machines go than there may be
pub few_machines : (s : State) → damage s.rows ≡ None → length (lost_machines s s.rows.machines) ≤ MACHINE_LIMIT
few_machines s none = omega (arith, length-chosen (is_lost s) (λ (m : Machine). key.Machine m.id) s.rows.machines, (sound_of s.rows none).machines.count)

pub few_pending : (s : State) → damage s.rows ≡ None → length (overdue_entries s s.rows.pending) ≤ PENDING_LIMIT
few_pending s none = omega (arith, length-chosen (is_overdue s) (λ (p : Pending). key.Pending p.id) s.rows.pending, (sound_of s.rows none).pending.count)

-- machines and then pending entries go
both_gone : (t : Rows) (machines pending : List RowKey) → list_all is_unnamed machines ≡ true → list_all is_unnamed pending ≡ true → AreSound t
    → AreSound (after t (sweep_change t machines pending))
both_gone t machines pending m p sound =
    let left : AreSound (take_all_out (take_all_out t machines) pending) = sound_take_all_out (take_all_out t machines) pending p (sound_take_all_out t machines m sound) in
    after_gone t (machines ++ pending) (subst (λ (x : Rows). AreSound x) (sym (take_all_out-append t machines pending)) left)

-- a machine that is left is none of those that went
machine_left : (t : Rows) (ks : List RowKey) (m : Machine) → Contains (take_all_out t ks).machines m → Contains t.machines m × (Contains ks (key.Machine m.id) → ⊥)
machine_left t [] m h = (h, λ gone. no_member (key.Machine m.id) gone)
machine_left t (key.User id ∷ ks) m h =
    let rest = machine_left (take_out t (key.User id)) ks m h in
    (rest.0, λ gone. elim (cut_member (key.User id) ks (key.Machine m.id) gone) [ inl e ↦ absurd (cc) | inr r ↦ rest.1 r ])
machine_left t (key.Key id ∷ ks) m h =
    let rest = machine_left (take_out t (key.Key id)) ks m h in
    (rest.0, λ gone. elim (cut_member (key.Key id) ks (key.Machine m.id) gone) [ inl e ↦ absurd (cc) | inr r ↦ rest.1 r ])
machine_left t (key.Pending id ∷ ks) m h =
    let rest = machine_left (take_out t (key.Pending id)) ks m h in
    (rest.0, λ gone. elim (cut_member (key.Pending id) ks (key.Machine m.id) gone) [ inl e ↦ absurd (cc) | inr r ↦ rest.1 r ])
machine_left t (key.Machine id ∷ ks) m h =
    let rest = machine_left (take_out t (key.Machine id)) ks m h in
    let here = without_member (λ (r : Machine). r.id) t.machines id m rest.0 in
    (here.0, λ gone. elim (cut_member (key.Machine id) ks (key.Machine m.id) gone) [ inl e ↦ let same : m.id ≡ id = cc in here.1 same | inr r ↦ rest.1 r ])

-- an entry that is left is none of those that went
pending_left : (t : Rows) (ks : List RowKey) (p : Pending) → Contains (take_all_out t ks).pending p → Contains t.pending p × (Contains ks (key.Pending p.id) → ⊥)
pending_left t [] p h = (h, λ gone. no_member (key.Pending p.id) gone)
pending_left t (key.User id ∷ ks) p h =
    let rest = pending_left (take_out t (key.User id)) ks p h in
    (rest.0, λ gone. elim (cut_member (key.User id) ks (key.Pending p.id) gone) [ inl e ↦ absurd (cc) | inr r ↦ rest.1 r ])
pending_left t (key.Key id ∷ ks) p h =
    let rest = pending_left (take_out t (key.Key id)) ks p h in
    (rest.0, λ gone. elim (cut_member (key.Key id) ks (key.Pending p.id) gone) [ inl e ↦ absurd (cc) | inr r ↦ rest.1 r ])
pending_left t (key.Machine id ∷ ks) p h =
    let rest = pending_left (take_out t (key.Machine id)) ks p h in
    (rest.0, λ gone. elim (cut_member (key.Machine id) ks (key.Pending p.id) gone) [ inl e ↦ absurd (cc) | inr r ↦ rest.1 r ])
pending_left t (key.Pending id ∷ ks) p h =
    let rest = pending_left (take_out t (key.Pending id)) ks p h in
    let here = without_member (λ (r : Pending). r.id) t.pending id p rest.0 in
    (here.0, λ gone. elim (cut_member (key.Pending id) ks (key.Pending p.id) gone) [ inl e ↦ let same : p.id ≡ id = cc in here.1 same | inr r ↦ rest.1 r ])

-- where any go, one that was there isn't there any more
swept_differs : (s : State) → (length (lost_machines s s.rows.machines) + length (overdue_entries s s.rows.pending) == 0) ≡ false
    → after s.rows (sweep_change s.rows (lost_machines s s.rows.machines) (overdue_entries s s.rows.pending)) ≢ s.rows
swept_differs s some e =
    let t = s.rows in
    let ms = lost_machines s t.machines in
    let ps = overdue_entries s t.pending in
    let split = take_all_out-append t ms ps in
    let machines : (take_all_out (take_all_out t ms) ps).machines ≡ t.machines = sym (ap (λ (u : Rows). u.machines) split) ∙ ap (λ (u : Rows). u.machines) e in
    let entries : (take_all_out (take_all_out t ms) ps).pending ≡ t.pending = sym (ap (λ (u : Rows). u.pending) split) ∙ ap (λ (u : Rows). u.pending) e in
    elim (first_chosen (is_lost s) (λ (m : Machine). key.Machine m.id) t.machines) [
      | inr found ↦
          let m = found.0 in
          let last = machine_left (take_all_out t ms) ps m (subst (λ (xs : List Machine). Contains xs m) (sym machines) found.1) in
          (machine_left t ms m last.0).1 found.2
      | inl nothing ↦ elim (first_chosen (is_overdue s) (λ (p : Pending). key.Pending p.id) t.pending) [
        | inr found ↦
            let p = found.0 in
            (pending_left (take_all_out t ms) ps p (subst (λ (xs : List Pending). Contains xs p) (sym entries) found.1)).1 found.2
        | inl nothing_either ↦
            let clash : (0 == 0) ≡ false = rw (nothing, nothing_either) at some in absurd (cc)
      ]
    ]

pub sweep_proper : (s : State) → AreSound s.rows → IsPlain s.rows (sweep s)
sweep_proper s sound =
    let t = s.rows in
    let ms = lost_machines s t.machines in
    let ps = overdue_entries s t.pending in
    proper_choice t (length ms + length ps == 0) _ _ (λ _. proper_none t _ refl refl) (λ some.
    proper_some t _ (sweep_change t ms ps) refl refl refl
    (sound_change t _ (both_gone t ms ps (chosen_unnamed (is_lost s) (λ (m : Machine). key.Machine m.id) (λ m. refl) t.machines)
    (chosen_unnamed (is_overdue s) (λ (p : Pending). key.Pending p.id) (λ p. refl) t.pending) sound)
    (swept_differs s some) (same_counters t.next)))
