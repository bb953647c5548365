-- That a machine waits is sound: a pending entry that is made keeps the rules of the tables.
use Rattle.std.proofs.Common.{◌≡◌, ◌≢◌, ◌<◌, ◌+◌, ℕ, true, false, not, List, Option, Some, None, Ok, inl, sym, ◌∙◌, ap, refl, nat_lt, arith, length, codes, take}
use Rattle.std.specs.Prelude.{Contains}
use Rattle.std.specs.Str.{bytes_eq}
use Rattle.tail_base.specs.declared.key.MachineKey.{MachineKey}
use Rattle.net_rows.specs.declared.limits.TheConstants.{COUNTER_LIMIT, PENDING_LIMIT}
use Rattle.net_rows.specs.Rows.{after, pending_of}
use Rattle.net_rows.specs.Sound.{AreSound}
use Rattle.net_rows.specs.declared.change.Counters.{Counters}
use Rattle.net_rows.specs.declared.pending.Pending.{Pending}
use Rattle.net_rows.specs.declared.rows.Rows.{Rows}
use Rattle.std.proofs.lemmas.Bool.{and_parts, not-false, ltb-true}
use Rattle.tail_base.proofs.Bools.{bytes_eq-true, bytes_eq-from}
use Rattle.net_rows.proofs.Members.{find_member, find_none}
use Rattle.net_rows.proofs.RemoveLemmas.{without_member}
use Rattle.net_rows.proofs.SoundPut.{sound_pending}
use Rattle.net_rows.proofs.SoundRemove.{sound_without_pending}
use Rattle.tailcfg.specs.Short.{IsShortForm}
use Rattle.tailcfg.specs.declared.register.Register.{Register}
use Rattle.desk_state.specs.Decisions.{IsNoLess, IsPlain}
use Rattle.desk_state.specs.State.{State}
use Rattle.desk_state.specs.declared.refusal.Refusal.TheVariants.{EntropyFault, Full}
use Rattle.desk_state.specs.declared.refusal.Scarce.TheVariants as scarce
use Rattle.desk_state.proofs.Proper.{proper_if, proper_none, proper_or, proper_refuse, proper_some, sound_change}
use Rattle.desk_state.proofs.TextLemmas.{fresh_pending_text, row_text_names}
use Rattle.machine_asks.specs.Waiting.{entry_change, has_place, new_entry, pending_left, wait, wait_anew, wait_as, waiting_entered, waits, waits_on}
use Rattle.net_rows.proofs.Puttable.{FitsPending}

-- the tables without the entry that goes
abbrev left : Rows → Option Pending → Rows
left t old = record t { pending = pending_left t.pending old }

left_sound : (t : Rows) (old : Option Pending) → AreSound t → AreSound (left t old)
left_sound t None sound = sound
left_sound t (Some p) sound = sound_without_pending t p.id sound

-- no entry that is left has the machine key
none_left : (t : Rows) (mk : MachineKey) (old : Option Pending) → AreSound t → pending_of t.pending mk.0 ≡ old
    → (a : Pending) → Contains (pending_left t.pending old) a → a.machine.0 ≢ mk.0
none_left t mk None sound found a inside e =
    let fails : bytes_eq a.machine.0 mk.0 ≡ false = find_none (λ (r : Pending). bytes_eq r.machine.0 mk.0) t.pending found a inside in
    let passes : bytes_eq a.machine.0 mk.0 ≡ true = bytes_eq-from _ _ e in
    cc
none_left t mk (Some p) sound found a inside e =
    let here = find_member (λ (r : Pending). bytes_eq r.machine.0 mk.0) t.pending p found in
    let there = without_member (λ (r : Pending). r.id) t.pending p.id a inside in
    there.1 (sound.pending.machine_keys a p there.0 here.0 (e ∙ sym (bytes_eq-true _ _ here.1)))

fits_entry : (s : State) (mk : MachineKey) (form : Register) (words : List ℕ) (old : Option Pending) → AreSound s.rows → IsShortForm form
    → pending_of s.rows.pending mk.0 ≡ old → has_place s.rows old ≡ true → FitsPending (left s.rows old) (new_entry s mk form words)
fits_entry s mk form words old sound short found place =
    let room = and_parts (nat_lt (length (pending_left s.rows.pending old)) PENDING_LIMIT) (nat_lt s.rows.next.pending COUNTER_LIMIT) place in
    record {
      id = sound.counters.pending.0;
      room = inl (ltb-true _ _ room.0);
      text = fresh_pending_text (left s.rows old) (new_entry s mk form words) (take 2 words) (left_sound s.rows old sound) refl refl;
      machine_key = λ a inside e. absurd (none_left s.rows mk old sound found a inside e);
      keeps = record {
        text = row_text_names (codes "reg-") s.rows.next.pending (take 2 words);
        host = omega (arith, short.host);
        routes = omega (arith, short.routes);
        tags = omega (arith, short.tags);
      };
    }

-- the change is a put into what is left
entry_sound : (t : Rows) (p : Pending) (old : Option Pending) → AreSound t → FitsPending (left t old) p → p.id ≡ t.next.pending → t.next.pending < COUNTER_LIMIT
    → AreSound (after t (entry_change t p old))
entry_sound t p None sound fits is below = sound_pending t p (t.next.pending + 1) sound fits (omega (arith, is)) (omega arith) (omega arith)
entry_sound t p (Some o) sound fits is below =
    sound_pending (left t (Some o)) p (t.next.pending + 1) (left_sound t (Some o) sound) fits (omega (arith, is)) (omega arith) (omega arith)

-- the counter of pending entries rises
entry_differs : (t : Rows) (p : Pending) (old : Option Pending) → after t (entry_change t p old) ≢ t
entry_differs t p None e = let n : t.next.pending + 1 ≡ t.next.pending = ap (λ (u : Rows). u.next.pending) e in absurd (omega (arith, n))
entry_differs t p (Some q) e = let n : t.next.pending + 1 ≡ t.next.pending = ap (λ (u : Rows). u.next.pending) e in absurd (omega (arith, n))

entries_rise : (next : Counters) → IsNoLess next (record next { pending = next.pending + 1 })
entries_rise next = record { user = omega arith; key = omega arith; pending = omega arith; machine = omega arith }

anew_proper : (s : State) (mk : MachineKey) (form : Register) (words : Option (List ℕ)) (old : Option Pending) → AreSound s.rows → IsShortForm form
    → pending_of s.rows.pending mk.0 ≡ old → IsPlain s.rows (wait_anew s mk form words old)
anew_proper s mk form words old sound short found =
    proper_refuse s.rows (not (has_place s.rows old)) (Full scarce.Pending) _ (λ free.
    let place = not-false (has_place s.rows old) free in
    let room = and_parts (nat_lt (length (pending_left s.rows.pending old)) PENDING_LIMIT) (nat_lt s.rows.next.pending COUNTER_LIMIT) place in
    proper_or s.rows EntropyFault words _ (λ (drawn : List ℕ) _.
    let p = new_entry s mk form drawn in
    proper_some s.rows (waiting_entered s.rows p old) (entry_change s.rows p old) refl refl refl
    (sound_change s.rows (entry_change s.rows p old)
    (entry_sound s.rows p old sound (fits_entry s mk form drawn old sound short found place) refl (ltb-true _ _ room.1))
    (entry_differs s.rows p old) (entries_rise s.rows.next))))

as_proper : (s : State) (mk : MachineKey) (form : Register) (words : Option (List ℕ)) (old : Option Pending) → AreSound s.rows → IsShortForm form
    → pending_of s.rows.pending mk.0 ≡ old → IsPlain s.rows (wait_as s mk form words old)
as_proper s mk form words None sound short found = anew_proper s mk form words None sound short found
as_proper s mk form words (Some p) sound short found =
    proper_if s.rows (waits s form.node p) (Ok (waits_on p)) (wait_anew s mk form words (Some p))
    (λ _. proper_none s.rows (waits_on p) refl refl) (λ _. anew_proper s mk form words (Some p) sound short found)

pub wait_proper : (s : State) (mk : MachineKey) (form : Register) (words : Option (List ℕ)) → AreSound s.rows → IsShortForm form → IsPlain s.rows (wait s mk form words)
wait_proper s mk form words sound short = as_proper s mk form words (pending_of s.rows.pending mk.0) sound short refl
