-- A map that is replied in a step shows no machine whose node key has expired by then.
use Rattle.std.proofs.Common.{◌≡◌, ◌∙◌, ℕ, List, Option, Some, None, Result, Ok, Err, ap, refl}
use Rattle.tail_base.specs.Steps.{◌>>=◌}
use Rattle.net_rows.specs.Sound.{AreSound}
use Rattle.net_rows.specs.declared.machine.Machine.{Machine}
use Rattle.fresh_maps.specs.declared.view.View.{View}
use Rattle.desk_state.specs.Decisions.{answered}
use Rattle.desk_state.specs.State.{State, at_moment}
use Rattle.desk_state.specs.declared.decision.Decision.{Decision}
use Rattle.desk_state.specs.declared.refusal.Refusal.{Refusal}
use Rattle.admin_asks.specs.Decision as operator
use Rattle.admin_asks.specs.declared.operator_answer.OperatorAnswer.{OperatorAnswer}
use Rattle.machine_asks.specs.Decision as machine
use Rattle.machine_asks.specs.OneMap.{fresh_for}
use Rattle.machine_asks.specs.Seed.{seed}
use Rattle.machine_asks.specs.declared.answer.MachineAnswer.{MachineAnswer}
use Rattle.machine_asks.specs.declared.answer.MachineAnswer.TheVariants.{Map}
use Rattle.policy_asks.specs.Decision.{policy_decision}
use Rattle.policy_asks.specs.declared.answer.PolicyAnswer.{PolicyAnswer}
use Rattle.machine_asks.specs.Attach.{attach}
use Rattle.machine_asks.specs.Detach.{detach}
use Rattle.machine_asks.specs.Drain.{drain}
use Rattle.machine_asks.specs.declared.ask.MachineAsk.{MachineAsk}
use Rattle.machine_asks.specs.declared.attaching.AttachDecision.{AttachDecision}
use Rattle.machine_asks.specs.declared.draining.DrainDecision.{DrainDecision}
use Rattle.tailnet_desk.specs.Step.{attach_turn, decision, detach_turn, drain_turn, moment_of, outcome, settled, step}
use Rattle.tailnet_desk.specs.declared.ask.Ask.TheVariants as ask
use Rattle.tailnet_desk.specs.declared.entry.Event.{Event}
use Rattle.tailnet_desk.specs.declared.entry.Event.TheVariants as event
use Rattle.tailnet_desk.specs.declared.reply.Answer.TheVariants as answer
use Rattle.tailnet_desk.specs.declared.reply.Reply.TheVariants.{Done}
use Rattle.tailnet_laws.specs.Shown.{Hides, IsExpired}
use Rattle.tailnet_laws.proofs.MapAnswers.{answers_afresh}
use Rattle.tailnet_laws.proofs.Hiding.{expired_hidden}

-- a map that is replied to a machine is one that was decided
machine_reply : (s : State) (r : Result (Decision MachineAnswer) Refusal) (map : View) → (outcome s (r >>= λ d. Ok (answered answer.Machine d))).reply ≡ Done (answer.Machine (Map map))
    → (d : Decision MachineAnswer) × (r ≡ Ok d) × (d.answer ≡ Map map)
machine_reply s (Err e) map is = absurd (cc)
machine_reply s (Ok d) map is = (d, refl, cc)

-- others are replied no map
operator_reply : (s : State) (r : Result (Decision OperatorAnswer) Refusal) (map : View) → (outcome s (r >>= λ d. Ok (answered answer.Operator d))).reply ≡ Done (answer.Machine (Map map)) → ⊥
operator_reply s (Err e) map is = absurd (cc)
operator_reply s (Ok d) map is = absurd (cc)

policy_reply : (s : State) (r : Result (Decision PolicyAnswer) Refusal) (map : View) → (outcome s (r >>= λ d. Ok (answered answer.Policy d))).reply ≡ Done (answer.Machine (Map map)) → ⊥
policy_reply s (Err e) map is = absurd (cc)
policy_reply s (Ok d) map is = absurd (cc)

seed_reply : (s : State) (r : Result (Decision (Unit {0})) Refusal) (map : View) → (outcome s (r >>= λ d. Ok (answered (λ nothing. answer.Seeded) d))).reply ≡ Done (answer.Machine (Map map)) → ⊥
seed_reply s (Err e) map is = absurd (cc)
seed_reply s (Ok d) map is = absurd (cc)

-- polls are answered no map: they are told by frames
attach_apart : (s : State) (r : Result AttachDecision Refusal) (map : View) → (attach_turn s r).reply ≡ Done (answer.Machine (Map map)) → ⊥
attach_apart s (Err e) map is = absurd (cc)
attach_apart s (Ok d) map is = absurd (cc)

drain_apart : (s : State) (o : Option DrainDecision) (map : View) → (drain_turn s o).reply ≡ Done (answer.Machine (Map map)) → ⊥
drain_apart s None map is = absurd (cc)
drain_apart s (Some d) map is = absurd (cc)

detach_apart : (s : State) (o : Option ℕ) (map : View) → (detach_turn s o).reply ≡ Done (answer.Machine (Map map)) → ⊥
detach_apart s o map is = absurd (cc)

pub reply_hides : (s : State) (m : Machine) (e : Event) (map : View) → AreSound s.rows → IsExpired (at_moment s (moment_of e)) m
    → (step s e).reply ≡ Done (answer.Machine (Map map)) → Hides map m.id
reply_hides s m (event.Ask (ask.Seed text) moment words) map sound h is = absurd (seed_reply (at_moment s moment) (seed (at_moment s moment) text) map is)
reply_hides s m (event.Ask (ask.Operator x) moment words) map sound h is =
    absurd (operator_reply (at_moment s moment) (operator.decision (at_moment s moment) x words) map is)
reply_hides s m (event.Ask (ask.Policy x) moment words) map sound h is = absurd (policy_reply (at_moment s moment) (policy_decision (at_moment s moment) x) map is)
reply_hides s m (event.Ask (ask.Machine x) moment words) map sound h is =
    let d = machine_reply (at_moment s moment) (machine.decision (at_moment s moment) x words) map is in
    expired_hidden (at_moment s moment) m x words d.0 map sound h d.1 d.2
reply_hides s m (event.Attach mk node handle seq moment words) map sound h is =
    absurd (attach_apart (at_moment s moment) (attach (at_moment s moment) mk node handle seq words) map is)
reply_hides s m (event.Drain mk handle moment) map sound h is = absurd (drain_apart (at_moment s moment) (drain (at_moment s moment) mk handle) map is)
reply_hides s m (event.Detach mk handle moment) map sound h is = absurd (detach_apart (at_moment s moment) (detach (at_moment s moment) mk handle) map is)

-- ---- maps that are replied

machine_state : (s : State) (r : Result (Decision MachineAnswer) Refusal) (d : Decision MachineAnswer) → r ≡ Ok d
    → settled s d.change d.policy d.ended d.offline ≡ (outcome s (r >>= λ d. Ok (answered answer.Machine d))).state
machine_state s (Err e) d is = absurd (cc)
machine_state s (Ok b) d is =
    let same : d ≡ b = cc in
    ap (λ (x : Decision MachineAnswer). settled s x.change x.policy x.ended x.offline) same

asked_afresh : (s : State) (x : MachineAsk) (words : Option (List ℕ)) (map : View) → (outcome s (decision s (ask.Machine x) words)).reply ≡ Done (answer.Machine (Map map))
    → (v : Machine) × (map ≡ fresh_for (outcome s (decision s (ask.Machine x) words)).state v)
asked_afresh s x words map is =
    let d = machine_reply s (machine.decision s x words) map is in
    let from = answers_afresh s x words d.0 d.1 map d.2 in
    (from.0, from.1 ∙ ap (λ (t : State). fresh_for t from.0) (machine_state s (machine.decision s x words) d.0 d.1))

-- a map that a step replies is a machine's, computed afresh from the state after the step
pub reply_afresh : (s : State) (e : Event) (map : View) → (step s e).reply ≡ Done (answer.Machine (Map map)) → (v : Machine) × (map ≡ fresh_for (step s e).state v)
reply_afresh s (event.Ask (ask.Seed text) moment words) map is = absurd (seed_reply (at_moment s moment) (seed (at_moment s moment) text) map is)
reply_afresh s (event.Ask (ask.Operator x) moment words) map is = absurd (operator_reply (at_moment s moment) (operator.decision (at_moment s moment) x words) map is)
reply_afresh s (event.Ask (ask.Policy x) moment words) map is = absurd (policy_reply (at_moment s moment) (policy_decision (at_moment s moment) x) map is)
reply_afresh s (event.Ask (ask.Machine x) moment words) map is = asked_afresh (at_moment s moment) x words map is
reply_afresh s (event.Attach mk node handle seq moment words) map is = absurd (attach_apart (at_moment s moment) (attach (at_moment s moment) mk node handle seq words) map is)
reply_afresh s (event.Drain mk handle moment) map is = absurd (drain_apart (at_moment s moment) (drain (at_moment s moment) mk handle) map is)
reply_afresh s (event.Detach mk handle moment) map is = absurd (detach_apart (at_moment s moment) (detach (at_moment s moment) mk handle) map is)
