-- Each registration is sound.
use Rattle.std.proofs.Common.{◌≡◌, ℕ, ℤ, Bool, true, false, not, ◌&&◌, List, Option, Some, None, Result, Ok, refl, sym, ap, ◌∙◌, subst, nat_lt, arith, length}
use Rattle.std.proofs.lemmas.Bool.{and_parts, not-false}
use Rattle.std.specs.Prelude.{Contains}
use Rattle.std.specs.Str.{bytes_eq}
use Rattle.tail_base.specs.declared.key.MachineKey.{MachineKey}
use Rattle.tail_base.specs.declared.key.NodeKey.{NodeKey}
use Rattle.tail_base.proofs.Bools.{bytes_eq-from}
use Rattle.settings.specs.Settings.{AreSettings}
use Rattle.net_rows.specs.Rows.{machine_of}
use Rattle.net_rows.specs.Sound.{AreSound}
use Rattle.net_rows.specs.declared.machine.Machine.{Machine}
use Rattle.net_rows.specs.declared.rows.Rows.{Rows}
use Rattle.tailcfg.specs.Short.{IsShortForm}
use Rattle.tailcfg.specs.declared.register.Register.{Register}
use Rattle.desk_state.specs.Changes.{machine_gone}
use Rattle.desk_state.specs.Decisions.{IsPlain, IsSoundChange}
use Rattle.desk_state.specs.State.{State, is_ahead, is_live}
use Rattle.desk_state.specs.declared.decision.Decision.{Decision}
use Rattle.desk_state.specs.declared.refusal.Refusal.{Refusal}
use Rattle.desk_state.specs.declared.refusal.Refusal.TheVariants.{NodeKeyTaken, UnknownMachine}
use Rattle.desk_state.proofs.Proper.{proper_err, proper_if, proper_none, proper_some}
use Rattle.desk_state.specs.Rows.{is_taken, row_replaced}
use Rattle.desk_state.proofs.RowLemmas.{machine_found, own_node}
use Rattle.desk_state.proofs.SoundChanges.{gone_change, replaced_change}
use Rattle.machine_asks.specs.Logout.{expired_row, is_logout, is_old, logout, logout_again, logout_now, machine_removed, node_key_replaced, rotates}
use Rattle.machine_asks.specs.Register.{of_row, register, registered_again, repeats}
use Rattle.machine_asks.specs.declared.answer.MachineAnswer.{MachineAnswer}
use Rattle.machine_asks.proofs.Keyed.{by_key_proper}
use Rattle.machine_asks.proofs.Waits.{wait_proper}

not_ahead : (now : ℤ) → is_ahead now (Some now) ≡ true → ⊥
not_ahead now h = grind arith

-- a machine's row that changes in its expiry alone
expired_change : (s : State) (m : Machine) → AreSound s.rows → Contains s.rows.machines m → is_ahead s.now m.expiry ≡ true → IsSoundChange s.rows (row_replaced s.rows (expired_row s m))
expired_change s m sound inside ahead =
    let row = sound.machines.keeps m inside in
    replaced_change s.rows m (expired_row s m) sound inside
    (record { id = refl; machine = refl; name = refl; v4 = refl; v6 = refl })
    (λ a within q. sound.machines.node_keys a m within inside q)
    (record {
      user = row.user;
      v4 = row.v4;
      v6 = row.v6;
      host = row.host;
      endpoints = row.endpoints;
      routes = row.routes;
      approved = row.approved;
      tags = row.tags;
    })
    (λ e. not_ahead s.now (subst (λ (x : Option ℤ). is_ahead s.now x ≡ true) (sym (ap (λ (x : Machine). x.expiry) e)) ahead))

-- a machine's row that changes in its node key alone, which no other row has
node_change : (s : State) (mk : MachineKey) (node : NodeKey) (m : Machine) → AreSound s.rows → machine_of s.rows.machines mk.0 ≡ Some m
    → is_taken s.rows.machines mk node ≡ false → bytes_eq m.node.0 node.0 ≡ false → IsSoundChange s.rows (row_replaced s.rows (record m { node = node }))
node_change s mk node m sound found free other =
    let here = machine_found s.rows.machines mk m found in
    let row = sound.machines.keeps m here.0 in
    replaced_change s.rows m (record m { node = node }) sound here.0
    (record { id = refl; machine = refl; name = refl; v4 = refl; v6 = refl })
    (own_node s.rows mk node m sound found free)
    (record {
      user = row.user;
      v4 = row.v4;
      v6 = row.v6;
      host = row.host;
      endpoints = row.endpoints;
      routes = row.routes;
      approved = row.approved;
      tags = row.tags;
    })
    (λ e.
    let is : bytes_eq m.node.0 node.0 ≡ true = bytes_eq-from m.node.0 node.0 (sym (ap (λ (x : Machine). x.node.0) e)) in
    let clash : true ≡ false = sym is ∙ other in
    absurd (cc))

logout_proper : (s : State) (mk : MachineKey) (node : NodeKey) (held : Option Machine) → AreSound s.rows → machine_of s.rows.machines mk.0 ≡ held
    → IsPlain s.rows (logout s node held)
logout_proper s mk node None sound found = proper_err s.rows UnknownMachine
logout_proper s mk node (Some m) sound found =
    let inside = (machine_found s.rows.machines mk m found).0 in
    proper_if s.rows (not (bytes_eq m.node.0 node.0)) _ _ (λ _. proper_err s.rows UnknownMachine) (λ _.
    proper_if s.rows m.ephemeral _ _ (λ _. proper_some s.rows (machine_removed s m) (machine_gone s.rows m.id) refl refl refl (gone_change s.rows m sound inside)) (λ _.
    proper_if s.rows (not (is_ahead s.now m.expiry)) _ _ (λ _. proper_none s.rows (logout_again s m) refl refl) (λ lives.
    proper_some s.rows (logout_now s m) (row_replaced s.rows (expired_row s m)) refl refl refl (expired_change s m sound inside (not-false _ lives)))))

-- a rule for the machine's row, and the later rules for a row that it doesn't fit
of_row_proper : (rows : Rows) (held : Option Machine) (fits : Machine → Bool) (decides : Machine → Decision MachineAnswer) (later : Result (Decision MachineAnswer) Refusal)
    → ((m : Machine) → held ≡ Some m → fits m ≡ true → IsPlain rows (Ok (decides m)))
    → (((m : Machine) → held ≡ Some m → fits m ≡ false) → IsPlain rows later) → IsPlain rows (of_row held fits decides later)
of_row_proper rows None fits decides later h k = k (λ m e. absurd (cc))
of_row_proper rows (Some m) fits decides later h k =
    proper_if rows (fits m) (Ok (decides m)) later (h m refl)
    (λ not_this. k (λ r e. let same : m ≡ r = cc in subst (λ (x : Machine). fits x ≡ false) same not_this))

-- a live machine that doesn't repeat its registration has another node key
other_node : (live same : Bool) → (live && same) ≡ false → live ≡ true → same ≡ false
other_node true same h l = h
other_node false same h l = absurd (cc)

pub register_proper : (s : State) (mk : MachineKey) (form : Register) (words : Option (List ℕ)) → AreSettings s.settings → AreSound s.rows → IsShortForm form → IsPlain s.rows (register s mk form words)
register_proper s mk form words hold sound short =
    let held = machine_of s.rows.machines mk.0 in
    proper_if s.rows (is_logout s form.expiry) _ _ (λ _. logout_proper s mk form.node held sound refl) (λ _.
    of_row_proper s.rows held (repeats s form.node) (registered_again s) _ (λ m found _. proper_none s.rows (registered_again s m) refl refl) (λ new.
    proper_if s.rows (is_taken s.rows.machines mk form.node) _ _ (λ _. proper_err s.rows NodeKeyTaken) (λ free.
    proper_if s.rows (nat_lt 0 (length form.auth)) _ _ (λ _. by_key_proper s mk form held hold sound short refl free) (λ _.
    of_row_proper s.rows held (rotates s form.old) (node_key_replaced s form.node) _ (λ m found fits.
    let live = (and_parts (is_live s m) (is_old form.old m.node) fits).0 in
    let other = other_node (is_live s m) (bytes_eq m.node.0 form.node.0) (new m found) live in
    proper_some s.rows (node_key_replaced s form.node m) (row_replaced s.rows (record m { node = form.node })) refl refl refl (node_change s mk form.node m sound found free other))
    (λ _. wait_proper s mk form words sound short)))))
