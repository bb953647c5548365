-- A map that is answered shows no machine whose node key has expired.
use Rattle.std.proofs.Common.{◌≡◌, ◌≢◌, ℕ, List, map, Option, Some, None, Ok, inl, inr, sym, ap, ◌∙◌, subst}
use Rattle.tail_base.specs.declared.key.MachineKey.{MachineKey}
use Rattle.tail_base.specs.declared.key.NodeKey.{NodeKey}
use Rattle.net_rows.specs.Sound.{AreSound}
use Rattle.net_rows.specs.declared.machine.Machine.{Machine}
use Rattle.net_rows.proofs.PutLemmas.{put_member}
use Rattle.fresh_maps.specs.declared.view.View.{View}
use Rattle.tailcfg.specs.declared.update.Update.{Update}
use Rattle.desk_state.specs.Decisions.{changing, only}
use Rattle.desk_state.specs.State.{State}
use Rattle.desk_state.specs.declared.decision.Decision.{Decision}
use Rattle.desk_state.specs.Rows.{row_replaced}
use Rattle.desk_state.specs.Same.{same_told}
use Rattle.machine_asks.specs.Asking.{asking}
use Rattle.machine_asks.specs.Drain.{drain}
use Rattle.machine_asks.specs.declared.draining.DrainDecision.{DrainDecision}
use Rattle.machine_asks.proofs.Drains.{sent_fresh}
use Rattle.machine_asks.specs.Decision.{decision}
use Rattle.machine_asks.specs.OneMap.{after_change, fresh_for, map_decision, map_for, node_in, one_map}
use Rattle.machine_asks.specs.Update.{told_row}
use Rattle.machine_asks.specs.declared.answer.MachineAnswer.{MachineAnswer}
use Rattle.machine_asks.specs.declared.answer.MachineAnswer.TheVariants.{Map}
use Rattle.machine_asks.specs.declared.ask.MachineAsk.{MachineAsk}
use Rattle.machine_asks.specs.declared.ask.MachineAsk.TheVariants as ask
use Rattle.tailnet_laws.specs.Shown.{Hides, IsExpired}
use Rattle.tailnet_laws.proofs.Every.{Every, either_of, every_bind, every_ok}
use Rattle.tailnet_laws.proofs.MapAnswers.{register_no_map, update_no_map}
use Rattle.tailnet_laws.proofs.LiveMachines.{NoneLive, asking_live, none_live, peer_live}

map_hides : (s : State) (v : Machine) (n : ℕ) → NoneLive s n → v.id ≢ n → Hides (fresh_for s v) n
map_hides s v n none other = record {
  own = other;
  peers = λ p inside e. let live = peer_live s (node_in s v) p inside in none live.0 live.1 live.2 (sym live.3 ∙ e);
}

-- what a machine tells of itself makes no other machine live
none_after : (s : State) (v : Machine) (u : Update) (n : ℕ) → NoneLive s n → v.id ≢ n → NoneLive (after_change s (row_replaced s.rows (told_row v u))) n
none_after s v u n none other a inside live e =
    elim (put_member (λ (r : Machine). r.id) s.rows.machines (told_row v u) a inside) [
      | inl new ↦ other (sym (ap (λ (r : Machine). r.id) new) ∙ e)
      | inr old ↦ none a old live e
    ]

-- the map that is answered shows no node of this id
abbrev Hidden : ℕ → Decision MachineAnswer → Type 0
Hidden n d = (map : View) → d.answer ≡ Map map → Hides map n

hidden_map : (s : State) (v : Machine) (n : ℕ) → NoneLive s n → v.id ≢ n → (map : View) → map_for s v ≡ Map map → Hides map n
hidden_map s v n none other map is =
    let same : fresh_for s v ≡ map = cc in
    subst (λ (r : View). Hides r n) same (map_hides s v n none other)

hidden_decision : (s : State) (v : Machine) (told : Option Update) (n : ℕ) → NoneLive s n → v.id ≢ n → Hidden n (map_decision s v told)
hidden_decision s v None n none other = hidden_map s v n none other
hidden_decision s v (Some u) n none other =
    let change = row_replaced s.rows (told_row v u) in
    either_of (Hidden n) (same_told v (told_row v u)) (only (map_for s v)) (changing change (map_for (after_change s change) (told_row v u)))
    (λ _. hidden_map s v n none other)
    (λ _. hidden_map (after_change s change) (told_row v u) n (none_after s v u n none other) other)

map_answer_hides : (s : State) (m : Machine) (mk : MachineKey) (node : NodeKey) (told : Option Update) → AreSound s.rows → IsExpired s m → Every (Hidden m.id) (one_map s mk node told)
map_answer_hides s m mk node told sound h =
    every_bind (Hidden m.id) (asking s mk node) (λ v. Ok (map_decision s v told)) (λ v is.
    let live = asking_live s mk node v is in
    let none = none_live s m sound h in
    every_ok (Hidden m.id) (map_decision s v told) (hidden_decision s v told m.id none (none v live.0 live.1)))

answers_hide : (s : State) (m : Machine) (x : MachineAsk) (words : Option (List ℕ)) → AreSound s.rows → IsExpired s m → Every (Hidden m.id) (decision s x words)
answers_hide s m (ask.Register mk form) words sound h d is map answer = absurd (register_no_map s mk form words d is map answer)
answers_hide s m (ask.Update mk node told) words sound h d is map answer = absurd (update_no_map s mk node told d is map answer)
answers_hide s m (ask.OneMap mk node told) words sound h d is map answer = map_answer_hides s m mk node told sound h d is map answer

pub expired_hidden : (s : State) (m : Machine) (x : MachineAsk) (words : Option (List ℕ)) (d : Decision MachineAnswer) (map : View)
    → AreSound s.rows → IsExpired s m → decision s x words ≡ Ok d → d.answer ≡ Map map → Hides map m.id
expired_hidden s m x words d map sound h is answer = answers_hide s m x words sound h d is map answer

-- what a drain sends shows no such machine either
pub drained_hidden : (s : State) (m : Machine) (mk : MachineKey) (handle : List ℕ) (d : DrainDecision) (map : View)
    → AreSound s.rows → IsExpired s m → drain s mk handle ≡ Some d → d.session.sent ≡ Some map → Hides map m.id
drained_hidden s m mk handle d map sound h is sent =
    let from = sent_fresh s mk handle d is in
    let both : Some (fresh_for s from.0) ≡ Some map = sym from.2 ∙ sent in
    let same : fresh_for s from.0 ≡ map = cc in
    let none = none_live s m sound h in
    subst (λ (r : View). Hides r m.id) same (map_hides s from.0 m.id none (none from.0 from.1.inside from.1.live))
