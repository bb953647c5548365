-- Which rows machines' asks put, and a seed.
use Rattle.std.proofs.Common.{◌≡◌, ◌<◌, ℕ, Bool, true, false, not, ◌&&◌, List, [], Option, Some, None, Ok, inl, inr, refl, sym, nat_lt, length, if◌then◌else◌}
use Rattle.std.specs.Prelude.{Contains}
use Rattle.std.specs.Str.{bytes_eq}
use Rattle.std.proofs.lemmas.Bool.{ltb-true}
use Rattle.tail_base.specs.declared.key.MachineKey.{MachineKey}
use Rattle.net_rows.specs.Room.{has_room}
use Rattle.net_rows.specs.Rows.{key_of, machine_of, pending_of}
use Rattle.net_rows.specs.declared.change.Kind.TheVariants as kind
use Rattle.net_rows.specs.declared.key.AuthKey.{AuthKey}
use Rattle.net_rows.specs.declared.machine.Machine.{Machine}
use Rattle.net_rows.specs.declared.pending.Pending.{Pending}
use Rattle.net_rows.proofs.Members.{find_member, first_member}
use Rattle.tailcfg.specs.declared.register.Register.{Register}
use Rattle.tailcfg.specs.declared.update.Update.{Update}
use Rattle.desk_state.specs.Decisions.{changing, only}
use Rattle.desk_state.specs.State.{State, is_ahead}
use Rattle.desk_state.specs.Tags.{tags_granted}
use Rattle.desk_state.specs.declared.decision.Decision.{Decision}
use Rattle.desk_state.specs.declared.refusal.Refusal.TheVariants.{EntropyFault, Full, KeyExpired, KeyUnknown, KeyUsed, NodeKeyTaken, UnknownMachine}
use Rattle.desk_state.specs.declared.refusal.Scarce.TheVariants as scarce
use Rattle.desk_state.specs.Rows.{is_taken, machine_row, place_for, row_change, row_replaced}
use Rattle.desk_state.specs.Same.{same_told}
use Rattle.desk_state.specs.declared.place.Place.{Place}
use Rattle.desk_state.proofs.RowLemmas.{machine_found}
use Rattle.machine_asks.specs.Asking.{asking}
use Rattle.machine_asks.specs.ByKey.{admitted_by_key, by_key, changes_nothing, entrant_of_key, usable_key}
use Rattle.machine_asks.specs.Decision.{decision}
use Rattle.machine_asks.specs.Logout.{expired_row, is_logout, logout, logout_again, logout_now, machine_removed, node_key_replaced, rotates}
use Rattle.machine_asks.specs.OneMap.{after_change, map_decision, map_for}
use Rattle.machine_asks.specs.Register.{register, registered_again, repeats}
use Rattle.machine_asks.specs.Seed.{is_past_seed, seed, seed_change}
use Rattle.machine_asks.specs.Update.{told_row, updated}
use Rattle.machine_asks.specs.Waiting.{entry_change, has_place, new_entry, wait_anew, wait_as, waiting_entered, waits, waits_on}
use Rattle.machine_asks.specs.declared.answer.MachineAnswer.{MachineAnswer}
use Rattle.machine_asks.specs.declared.answer.MachineAnswer.TheVariants.{Updated}
use Rattle.machine_asks.specs.declared.ask.MachineAsk.{MachineAsk}
use Rattle.machine_asks.specs.declared.ask.MachineAsk.TheVariants as ask
use Rattle.tailnet_laws.specs.Entering.{IsKeyed}
use Rattle.tailnet_laws.proofs.Every.{Every, either_of, every_bind, every_err, every_if, every_of_row, every_ok, every_or, every_refuse}
use Rattle.tailnet_laws.proofs.LiveMachines.{asking_live}
use Rattle.tailnet_laws.proofs.Puts.{IsKeyPut, IsKeyUsed, IsMachinePut, Puts, placed_put, puts_none, puts_some}

-- a key of a text that may be used
abbrev IsUsable : State → AuthKey → Type 0
IsUsable s k = Contains s.rows.keys k × ((k.used && not k.reusable) ≡ false)

pub usable_is : (s : State) (text : List ℕ) → Every (IsUsable s) (usable_key s text)
usable_is s text =
    let P = IsUsable s in
    every_or P KeyUnknown (key_of s.rows.keys text) _ (λ k found.
    every_refuse P (not (is_ahead s.now k.expiry)) KeyExpired _ (λ _.
    every_refuse P (k.used && not k.reusable) KeyUsed _ (λ unused.
    every_ok P k ((find_member (λ (r : AuthKey). bytes_eq r.text text) s.rows.keys k found).0, unused))))

module _ (s : State) (mk : MachineKey) (form : Register) (words : Option (List ℕ)) where
  abbrev Entering : MachineKey → Type 0
  Entering = IsKeyed (ask.Register mk form)

  abbrev Registers : Decision MachineAnswer → Type 0
  Registers = Puts s.rows (IsKeyUsed s.rows) Entering

  -- nothing changes
  quiet : (d : Decision MachineAnswer) → d.change ≡ None → Registers d
  quiet d none = puts_none s.rows (IsKeyUsed s.rows) Entering d none

  -- a row of the tables is put again
  again : (d : Decision MachineAnswer) (m r : Machine) → d.change ≡ Some (row_replaced s.rows r) → Contains s.rows.machines m → r.id ≡ m.id → r.machine ≡ m.machine → Registers d
  again d m r some inside id machine = puts_some s.rows (IsKeyUsed s.rows) Entering d (row_replaced s.rows r) some (inr (m, inside, id, machine), tt) (inl (m, inside, sym id), tt)

  logout_puts : (held : Option Machine) → machine_of s.rows.machines mk.0 ≡ held → Every Registers (logout s form.node held)
  logout_puts None found = every_err Registers UnknownMachine
  logout_puts (Some m) found =
      let here = machine_found s.rows.machines mk m found in
      every_if Registers (not (bytes_eq m.node.0 form.node.0)) _ _ (λ _. every_err Registers UnknownMachine) (λ _.
      every_if Registers m.ephemeral _ _ (λ _. every_ok Registers (machine_removed s m) (puts_some s.rows (IsKeyUsed s.rows) Entering (machine_removed s m) _ refl tt tt)) (λ _.
      every_if Registers (not (is_ahead s.now m.expiry)) _ _ (λ _. every_ok Registers (logout_again s m) (quiet (logout_again s m) refl))
      (λ _. every_ok Registers (logout_now s m) (again (logout_now s m) m (expired_row s m) refl here.0 refl refl))))

  -- the row and the key are put, unless nothing changes
  admitted_puts : (held : Option Machine) (r : Machine) (next : ℕ) (k : AuthKey) (b : Bool) (pending : Option Pending) (d : Decision MachineAnswer)
      → d.change ≡ (if b then None else Some (row_change s.rows r next (Some k) pending)) → IsMachinePut s.rows Entering r → IsUsable s k → Contains d.offline r.id → Registers d
  admitted_puts held r next k true pending d is put usable off = quiet d is
  admitted_puts held r next k false pending d is put usable off =
      puts_some s.rows (IsKeyUsed s.rows) Entering d (row_change s.rows r next (Some k) pending) is (put, ((k, usable.0, usable.1, refl), tt)) (inr off, (tt, tt))

  key_puts : 0 < length form.auth → Every Registers (by_key s mk form (machine_of s.rows.machines mk.0))
  key_puts keyed =
      let held = machine_of s.rows.machines mk.0 in
      every_bind Registers (usable_key s form.auth) _ (λ (k : AuthKey) is.
      let usable = usable_is s form.auth k is in
      let e = entrant_of_key s form k in
      every_bind Registers (tags_granted s k.user form.tags) _ (λ _ _.
      every_bind Registers (place_for s form.host held) _ (λ (p : Place) placed.
      let r = machine_row mk e p in
      let pending = pending_of s.rows.pending mk.0 in
      every_ok Registers (admitted_by_key s held r p.next k)
      (admitted_puts held r p.next k (changes_nothing held r k pending) pending (admitted_by_key s held r p.next k) refl
      (placed_put s mk e form.host held p Entering refl placed (refl, keyed)) usable (first_member r.id [])))))

  anew_puts : (old : Option Pending) → Every Registers (wait_anew s mk form words old)
  anew_puts old =
      every_refuse Registers (not (has_place s.rows old)) (Full scarce.Pending) _ (λ _.
      every_or Registers EntropyFault words _ (λ (drawn : List ℕ) _.
      let p = new_entry s mk form drawn in
      every_ok Registers (waiting_entered s.rows p old)
      (puts_some s.rows (IsKeyUsed s.rows) Entering (waiting_entered s.rows p old) (entry_change s.rows p old) refl (refl, tt) (tt, tt))))

  wait_puts : (old : Option Pending) → Every Registers (wait_as s mk form words old)
  wait_puts None = anew_puts None
  wait_puts (Some p) = every_if Registers (waits s form.node p) _ _ (λ _. every_ok Registers (waits_on p) (quiet (waits_on p) refl)) (λ _. anew_puts (Some p))

  register_puts : Every Registers (register s mk form words)
  register_puts =
      let held = machine_of s.rows.machines mk.0 in
      every_if Registers (is_logout s form.expiry) _ _ (λ _. logout_puts held refl) (λ _.
      every_of_row Registers held (repeats s form.node) (registered_again s) _ (λ m _. quiet (registered_again s m) refl) (
      every_if Registers (is_taken s.rows.machines mk form.node) _ _ (λ _. every_err Registers NodeKeyTaken) (λ _.
      every_if Registers (nat_lt 0 (length form.auth)) _ _ (λ keyed. key_puts (ltb-true _ _ keyed)) (λ _.
      every_of_row Registers held (rotates s form.old) (node_key_replaced s form.node) _
      (λ m found. again (node_key_replaced s form.node m) m (record m { node = form.node }) refl (machine_found s.rows.machines mk m found).0 refl refl)
      (wait_puts (pending_of s.rows.pending mk.0))))))

-- what a machine tells of itself puts its own row again
told_puts : (s : State) (x : MachineAsk) (m : Machine) (u : Update) (a b : MachineAnswer) → Contains s.rows.machines m
    → Puts s.rows (IsKeyUsed s.rows) (IsKeyed x) (if same_told m (told_row m u) then only a else changing (row_replaced s.rows (told_row m u)) b)
told_puts s x m u a b inside =
    let change = row_replaced s.rows (told_row m u) in
    either_of (Puts s.rows (IsKeyUsed s.rows) (IsKeyed x)) (same_told m (told_row m u)) (only a) (changing change b)
    (λ _. puts_none s.rows (IsKeyUsed s.rows) (IsKeyed x) (only a) refl)
    (λ _. puts_some s.rows (IsKeyUsed s.rows) (IsKeyed x) (changing change b) change refl (inr (m, inside, refl, refl), tt) (inl (m, inside, refl), tt))

map_puts : (s : State) (x : MachineAsk) (m : Machine) (told : Option Update) → Contains s.rows.machines m → Puts s.rows (IsKeyUsed s.rows) (IsKeyed x) (map_decision s m told)
map_puts s x m None inside = puts_none s.rows (IsKeyUsed s.rows) (IsKeyed x) (only (map_for s m)) refl
map_puts s x m (Some u) inside = told_puts s x m u (map_for s m) (map_for (after_change s (row_replaced s.rows (told_row m u))) (told_row m u)) inside

pub machine_puts : (s : State) (x : MachineAsk) (words : Option (List ℕ)) → Every (Puts s.rows (IsKeyUsed s.rows) (IsKeyed x)) (decision s x words)
machine_puts s (ask.Register mk form) words = register_puts s mk form words
machine_puts s (ask.Update mk node u) words =
    let P = Puts s.rows (IsKeyUsed s.rows) (IsKeyed (ask.Update mk node u)) in
    every_bind P (asking s mk node) (λ m. Ok (updated s m (told_row m u)))
    (λ m is. every_ok P (updated s m (told_row m u)) (told_puts s (ask.Update mk node u) m u Updated Updated (asking_live s mk node m is).0))
machine_puts s (ask.OneMap mk node told) words =
    let P = Puts s.rows (IsKeyUsed s.rows) (IsKeyed (ask.OneMap mk node told)) in
    every_bind P (asking s mk node) (λ m. Ok (map_decision s m told))
    (λ m is. every_ok P (map_decision s m told) (map_puts s (ask.OneMap mk node told) m told (asking_live s mk node m is).0))

pub seed_puts : (s : State) (text : List ℕ) → Every (Puts {A = Unit {0}} s.rows (IsKeyPut s.rows) (λ _. ⊥)) (seed s text)
seed_puts s text =
    let P = Puts {A = Unit {0}} s.rows (IsKeyPut s.rows) (λ _. ⊥) in
    let made = changing {A = Unit {0}} (seed_change s.rows text) tt in
    let past = only {A = Unit {0}} tt in
    every_if P (is_past_seed s.rows text) _ _ (λ _. every_ok P past (puts_none s.rows (IsKeyPut s.rows) (λ _. ⊥) past refl)) (λ _.
    every_refuse P (not (has_room s.rows kind.User)) (Full scarce.User) _ (λ _.
    every_refuse P (not (has_room s.rows kind.Key)) (Full scarce.Key) _ (λ _.
    every_ok P made (puts_some s.rows (IsKeyPut s.rows) (λ _. ⊥) made (seed_change s.rows text) refl (refl, (inl refl, tt)) (tt, (tt, tt))))))
