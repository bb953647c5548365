-- Which answers to machines are maps: those to machines that ask for theirs, which are computed afresh.
use Rattle.std.proofs.Common.{◌≡◌, ℕ, Bool, not, List, map, Option, Some, None, Ok, nat_lt, length}
use Rattle.std.specs.Str.{bytes_eq}
use Rattle.tail_base.specs.declared.key.MachineKey.{MachineKey}
use Rattle.tail_base.specs.declared.key.NodeKey.{NodeKey}
use Rattle.net_rows.specs.Rows.{machine_of, pending_of}
use Rattle.net_rows.specs.declared.key.AuthKey.{AuthKey}
use Rattle.net_rows.specs.declared.pending.Pending.{Pending}
use Rattle.net_rows.specs.declared.machine.Machine.{Machine}
use Rattle.tailcfg.specs.declared.profile.Profile.{Profile}
use Rattle.tailcfg.specs.declared.register.Register.{Register}
use Rattle.fresh_maps.specs.declared.view.View.{View}
use Rattle.tailcfg.specs.declared.update.Update.{Update}
use Rattle.desk_state.specs.Decisions.{changing, only}
use Rattle.desk_state.specs.State.{State, is_ahead}
use Rattle.desk_state.specs.Tags.{tags_granted}
use Rattle.desk_state.specs.declared.decision.Decision.{Decision}
use Rattle.desk_state.specs.declared.refusal.Refusal.TheVariants.{EntropyFault, Full, NodeKeyTaken, UnknownMachine}
use Rattle.desk_state.specs.declared.refusal.Scarce.TheVariants as scarce
use Rattle.desk_state.specs.Rows.{is_taken, machine_row, place_for, row_replaced}
use Rattle.desk_state.specs.declared.place.Place.{Place}
use Rattle.desk_state.specs.Same.{same_told}
use Rattle.machine_asks.specs.Asking.{asking}
use Rattle.machine_asks.specs.Decision.{decision}
use Rattle.machine_asks.specs.ByKey.{admitted_by_key, by_key, entrant_of_key, usable_key}
use Rattle.machine_asks.specs.Logout.{is_logout, logout, logout_again, logout_now, machine_removed, node_key_replaced, rotates}
use Rattle.machine_asks.specs.OneMap.{after_change, fresh_for, map_decision, map_for, one_map}
use Rattle.machine_asks.specs.Register.{register, registered_again, repeats}
use Rattle.machine_asks.specs.Update.{told_row, update, updated}
use Rattle.machine_asks.specs.Waiting.{has_place, new_entry, wait_anew, wait_as, waiting_entered, waits, waits_on}
use Rattle.machine_asks.specs.declared.answer.MachineAnswer.{MachineAnswer}
use Rattle.machine_asks.specs.declared.answer.MachineAnswer.TheVariants.{LoginAt, Map, Registered, Updated}
use Rattle.machine_asks.specs.declared.ask.MachineAsk.{MachineAsk}
use Rattle.machine_asks.specs.declared.ask.MachineAsk.TheVariants as ask
use Rattle.tailnet_desk.specs.Step.{settled}
use Rattle.tailnet_laws.proofs.Every.{Every, either_of, every_bind, every_err, every_if, every_of_row, every_ok, every_or, every_refuse}

-- the answer is no map
abbrev IsNoMap : Decision MachineAnswer → Type 0
IsNoMap d = (map : View) → d.answer ≡ Map map → ⊥

-- other answers are no map
registered_apart : (p : Profile) (expired : Bool) (map : View) → Registered p expired ≡ Map map → ⊥
registered_apart p expired map is = absurd (cc)

login_apart : (text : List ℕ) (map : View) → LoginAt text ≡ Map map → ⊥
login_apart text map is = absurd (cc)

updated_apart : (map : View) → Updated ≡ Map map → ⊥
updated_apart map is = absurd (cc)

pub register_no_map : (s : State) (mk : MachineKey) (form : Register) (words : Option (List ℕ)) → Every IsNoMap (register s mk form words)
register_no_map s mk form words =
    let P = IsNoMap in
    let held = machine_of s.rows.machines mk.0 in
    every_if P (is_logout s form.expiry) _ _ (λ _. logout_no_map held) (λ _.
    every_of_row P held (repeats s form.node) (registered_again s) _ (λ m _ map is. registered_apart _ _ map is) (
    every_if P (is_taken s.rows.machines mk form.node) _ _ (λ _. every_err P NodeKeyTaken) (λ _.
    every_if P (nat_lt 0 (length form.auth)) _ _ (λ _. key_no_map held) (λ _.
    every_of_row P held (rotates s form.old) (node_key_replaced s form.node) _ (λ m _ map is. registered_apart _ _ map is)
    (wait_no_map (pending_of s.rows.pending mk.0))))))
  where
    logout_no_map : (held : Option Machine) → Every IsNoMap (logout s form.node held)
    logout_no_map None = every_err IsNoMap UnknownMachine
    logout_no_map (Some m) =
        let P = IsNoMap in
        every_if P (not (bytes_eq m.node.0 form.node.0)) _ _ (λ _. every_err P UnknownMachine) (λ _.
        every_if P m.ephemeral _ _ (λ _. every_ok P (machine_removed s m) (λ map is. registered_apart _ _ map is)) (λ _.
        every_if P (not (is_ahead s.now m.expiry)) _ _ (λ _. every_ok P (logout_again s m) (λ map is. registered_apart _ _ map is))
        (λ _. every_ok P (logout_now s m) (λ map is. registered_apart _ _ map is))))

    key_no_map : (held : Option Machine) → Every IsNoMap (by_key s mk form held)
    key_no_map held =
        let P = IsNoMap in
        every_bind P (usable_key s form.auth) _ (λ (k : AuthKey) _.
        every_bind P (tags_granted s k.user form.tags) _ (λ _ _.
        every_bind P (place_for s form.host held) _ (λ (p : Place) _.
        every_ok P (admitted_by_key s held (machine_row mk (entrant_of_key s form k) p) p.next k) (λ map is. registered_apart _ _ map is))))

    anew_no_map : (old : Option Pending) → Every IsNoMap (wait_anew s mk form words old)
    anew_no_map old =
        let P = IsNoMap in
        every_refuse P (not (has_place s.rows old)) (Full scarce.Pending) _ (λ _.
        every_or P EntropyFault words _ (λ (drawn : List ℕ) _.
        every_ok P (waiting_entered s.rows (new_entry s mk form drawn) old) (λ map is. login_apart _ map is)))

    wait_no_map : (old : Option Pending) → Every IsNoMap (wait_as s mk form words old)
    wait_no_map None = anew_no_map None
    wait_no_map (Some p) =
        let P = IsNoMap in
        every_if P (waits s form.node p) _ _ (λ _. every_ok P (waits_on p) (λ map is. login_apart _ map is)) (λ _. anew_no_map (Some p))

pub update_no_map : (s : State) (mk : MachineKey) (node : NodeKey) (u : Update) → Every IsNoMap (update s mk node u)
update_no_map s mk node u =
    let P = IsNoMap in
    every_bind P (asking s mk node) (λ v. Ok (updated s v (told_row v u))) (λ v _.
    every_ok P (updated s v (told_row v u)) (either_of P (same_told v (told_row v u)) (only Updated) (changing (row_replaced s.rows (told_row v u)) Updated)
    (λ _ map is. updated_apart map is) (λ _ map is. updated_apart map is)))

-- the state after a decision
abbrev state_with : State → Decision MachineAnswer → State
state_with s d = settled s d.change d.policy d.ended d.offline

-- a map that is answered is a machine's, computed afresh from the state after the decision
abbrev IsAfresh : State → Decision MachineAnswer → Type 0
IsAfresh s d = (map : View) → d.answer ≡ Map map → (v : Machine) × (map ≡ fresh_for (state_with s d) v)

map_is : (s : State) (v : Machine) (map : View) → map_for s v ≡ Map map → map ≡ fresh_for s v
map_is s v map is = cc

decided_afresh : (s : State) (v : Machine) (told : Option Update) → IsAfresh s (map_decision s v told)
decided_afresh s v None = λ answer is. (v, map_is s v answer is)
decided_afresh s v (Some u) =
    let change = row_replaced s.rows (told_row v u) in
    either_of (IsAfresh s) (same_told v (told_row v u)) (only (map_for s v)) (changing change (map_for (after_change s change) (told_row v u)))
    (λ _ map is. (v, map_is s v map is))
    (λ _ map is. (told_row v u, map_is (after_change s change) (told_row v u) map is))

asked_afresh : (s : State) (mk : MachineKey) (node : NodeKey) (told : Option Update) → Every (IsAfresh s) (one_map s mk node told)
asked_afresh s mk node told =
    every_bind (IsAfresh s) (asking s mk node) (λ v. Ok (map_decision s v told)) (λ v _. every_ok (IsAfresh s) (map_decision s v told) (decided_afresh s v told))

pub answers_afresh : (s : State) (x : MachineAsk) (words : Option (List ℕ)) → Every (IsAfresh s) (decision s x words)
answers_afresh s (ask.Register mk form) words d is map answer = absurd (register_no_map s mk form words d is map answer)
answers_afresh s (ask.Update mk node told) words d is map answer = absurd (update_no_map s mk node told d is map answer)
answers_afresh s (ask.OneMap mk node told) words d is map answer = asked_afresh s mk node told d is map answer
