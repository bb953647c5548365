-- A registration that gives its machine a row takes a key.
use Rattle.std.proofs.Common.{◌≡◌, ◌<◌, ℕ, Bool, true, false, List, Option, Some, None, Result, Ok, Err, refl, sym, ap, ◌∙◌, nat_lt, length, if◌then◌else◌, arith}
use Rattle.tail_base.specs.declared.key.MachineKey.{MachineKey}
use Rattle.tail_base.proofs.StepLemmas.{bind_parts}
use Rattle.net_rows.specs.Rows.{machine_of, pending_of}
use Rattle.net_rows.specs.declared.machine.Machine.{Machine}
use Rattle.net_rows.specs.declared.rows.Rows.{Rows}
use Rattle.tailcfg.specs.declared.register.Register.{Register}
use Rattle.desk_state.specs.Decisions.{rows_after}
use Rattle.desk_state.specs.State.{State}
use Rattle.desk_state.specs.Tags.{tags_granted}
use Rattle.desk_state.specs.declared.decision.Decision.{Decision}
use Rattle.desk_state.specs.declared.refusal.Refusal.{Refusal}
use Rattle.desk_state.specs.declared.refusal.Refusal.TheVariants.{NodeKeyTaken, UnknownMachine}
use Rattle.desk_state.specs.Rows.{is_taken, machine_row, place_for}
use Rattle.machine_asks.specs.ByKey.{admitted_by_key, by_key, entrant_of_key, usable_key}
use Rattle.machine_asks.specs.Decision.{decision}
use Rattle.machine_asks.specs.Logout.{is_logout}
use Rattle.machine_asks.specs.Register.{register_as}
use Rattle.machine_asks.specs.declared.answer.MachineAnswer.{MachineAnswer}
use Rattle.machine_asks.specs.declared.ask.MachineAsk.TheVariants as ask
use Rattle.tailnet_laws.specs.Entering.{IsKeyed}
use Rattle.tailnet_laws.specs.Entrances.{HasMachine}
use Rattle.tailnet_laws.specs.KeyUse.{PutsByText}
use Rattle.tailnet_laws.proofs.Entered.{found_machine, grown_enters}
use Rattle.tailnet_laws.proofs.Growth.{rows_grown}
use Rattle.tailnet_laws.proofs.MachinePuts.{machine_puts}
use Rattle.tailnet_laws.proofs.Puts.{IsKeyUsed}

-- what was decided was not refused
past_refusal : {A : Type 0} (b : Bool) (e : Refusal) (y : Result A Refusal) (d : A) → (if b then Err e else y) ≡ Ok d → y ≡ Ok d
past_refusal true e y d h = absurd (cc)
past_refusal false e y d h = h

first_of_two : {A : Type 0} (b : Bool) (x y : Result A Refusal) (d : A) → b ≡ true → (if b then x else y) ≡ Ok d → x ≡ Ok d
first_of_two true x y d is h = h
first_of_two false x y d is h = absurd (cc)

ok_is : {A : Type 0} (x y : A) (r : Result A Refusal) → r ≡ Ok x → r ≡ Ok y → x ≡ y
ok_is x y r p q = cc

-- no row is found by the key
none_held : (t : Rows) (mk : MachineKey) (held : Option Machine) → machine_of t.machines mk.0 ≡ held → (HasMachine t mk → ⊥) → held ≡ None
none_held t mk None found none = refl
none_held t mk (Some m) found none = absurd (none (found_machine t mk m found))

-- the steps of a registration with a key, where there is no row
by_key_then : (s : State) (mk : MachineKey) (form : Register) (words : Option (List ℕ)) (d : Decision MachineAnswer) → 0 < length form.auth
    → register_as s mk form words None ≡ Ok d → by_key s mk form None ≡ Ok d
by_key_then s mk form words d keyed h =
    let given : nat_lt 0 (length form.auth) ≡ true = grind arith in
    first_of_two (nat_lt 0 (length form.auth)) (by_key s mk form None) _ d given
    (past_refusal (is_taken s.rows.machines mk form.node) NodeKeyTaken _ d (past_refusal (is_logout s form.expiry) UnknownMachine _ d h))

by_key_puts : (s : State) (mk : MachineKey) (form : Register) (d : Decision MachineAnswer) → by_key s mk form None ≡ Ok d → PutsByText s d mk form
by_key_puts s mk form d h =
    let key = bind_parts (usable_key s form.auth) _ d h in
    let tags = bind_parts (tags_granted s key.0.user form.tags) _ d key.2 in
    let place = bind_parts (place_for s form.host None) _ d tags.2 in
    let r = machine_row mk (entrant_of_key s form key.0) place.0 in
    let made = admitted_by_key s None r place.0.next key.0 in
    let same = ok_is made d (Ok made) refl place.2 in
    record {
      key = key.0;
      usable = key.1;
      puts = record {
        machine = r;
        next = place.0.next;
        pending = pending_of s.rows.pending mk.0;
        change = ap (λ (x : Decision MachineAnswer). x.change) (sym same);
      };
      whose = refl;
      user = refl;
      tags = refl;
    }

pub registration_takes : (s : State) (mk : MachineKey) (form : Register) (words : Option (List ℕ)) (d : Decision MachineAnswer) → (HasMachine s.rows mk → ⊥)
    → decision s (ask.Register mk form) words ≡ Ok d → HasMachine (rows_after s.rows d.change) mk → PutsByText s d mk form
registration_takes s mk form words d none is row =
    let enters = IsKeyed (ask.Register mk form) in
    let grown = rows_grown s.rows (IsKeyUsed s.rows) enters d.change (λ c e. (machine_puts s (ask.Register mk form) words d is c e).0) in
    let keyed = grown_enters s.rows (IsKeyUsed s.rows) enters (rows_after s.rows d.change) mk grown none row in
    let held = none_held s.rows mk (machine_of s.rows.machines mk.0) refl none in
    let steps : register_as s mk form words None ≡ Ok d = sym (ap (λ (m : Option Machine). register_as s mk form words m) held) ∙ is in
    by_key_puts s mk form d (by_key_then s mk form words d keyed.1 steps)
