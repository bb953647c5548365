-- Requests, one after the other.
use Rattle.std.proofs.Common.{◌≡◌, ◌+◌, ◌-◌, ◌<◌, ◌≤◌, ◌++◌, ℕ, ℤ, inl, inr, Bool, true, false, cond, Option, None, Some, List, [], ◌∷◌, length, length-append, refl, ap, sym, ◌∙◌, subst, arith, codes}
use Rattle.std.proofs.Math.Bool.{or-true}
use Rattle.std.specs.Prelude.{nat_eq, ◌||◌}
use Rattle.std.specs.Fmt.{digits}
use Rattle.std.specs.List.{flat_map, starts_with}
use Rattle.std.proofs.lemmas.List.{append-nil}
use Rattle.http_front.specs.AnswerBytes.{answer}
use Rattle.desk_front.specs.Wanted.{wanted_of}
use Rattle.desk_front.specs.declared.front_settings.FrontSettings.{FrontSettings}
use Rattle.tailnet_desk.specs.Chains.{Chain, Turned}
use Rattle.tailnet_desk.specs.Turns.{IsTurn}
use Rattle.tailnet_desk.proofs.Histories.{Chain-append}
use Rattle.connections.specs.Exchanges.{Exchange, IsAnswered, IsExchange, IsUnanswered, turns_of}
use Rattle.load_run.specs.Counting.{is_busy_answer}
use Rattle.load_run.specs.Steps.{IsStep, Runs, Stand, LoadSteps}
use Rattle.load_run.specs.Messages.{kind_message, message, task_message}
use Rattle.load_run.specs.declared.known.MachineMemory.{MachineMemory}
use Rattle.load_run.specs.declared.task.LoadPlan.{LoadPlan}
use Rattle.load_run.specs.declared.task.Task.{Task}
use Rattle.load_run.specs.declared.task.TaskKind.{TaskKind}
use Rattle.load_run.specs.declared.task.TaskKind.TheVariants as kind

-- an answer of lack of memory is seen by its status
busy_seen : (body : List ℕ) (close : Bool) → is_busy_answer (answer 503 body close) ≡ true
unfolding answer digits
busy_seen body close = refl

-- the last request of a connection is answered as one that ends it
closing : (given : FrontSettings) (x : Exchange) → IsAnswered given 0 (x.request.close || true) (wanted_of given x.request) x.turns x.bytes x.ended x.broken
    → IsAnswered given 0 true (wanted_of given x.request) x.turns x.bytes x.ended x.broken
closing given x answered = subst (λ (close : Bool). IsAnswered given 0 close (wanted_of given x.request) x.turns x.bytes x.ended x.broken) (or-true x.request.close) answered

pub answered_of : (given : FrontSettings) (x : Exchange) → IsExchange given 0 true x → is_busy_answer x.bytes ≡ false → IsAnswered given 0 true (wanted_of given x.request) x.turns x.bytes x.ended x.broken
answered_of given x is fed = elim is [
  | inl none ↦ absurd (let bad : true ≡ false = sym (busy_seen (codes "{\"error\":\"NoMemory\"}") _) ∙ ap is_busy_answer (sym none.1) ∙ fed in cc)
  | inr answered ↦ closing given x answered
]

-- one request more before the others
pub runs_more : (plan : LoadPlan) (given : FrontSettings) (s : Stand) (x : Exchange) (u t : Stand) → IsStep plan given s x u → Runs plan given u t → Runs plan given s t
runs_more plan given s x u t step runs = record { exchanges = x ∷ runs.exchanges; steps = (u, step, runs.steps) }

pub runs_none : (plan : LoadPlan) (given : FrontSettings) (s : Stand) → Runs plan given s s
runs_none plan given s = record { exchanges = []; steps = refl }

-- the turns of all requests, at the desk
pub steps_chain : (plan : LoadPlan) (given : FrontSettings) (s : Stand) (xs : List Exchange) (t : Stand) → LoadSteps plan given s xs t → Chain IsTurn s.point (turns_of xs) t.point
steps_chain plan given s [] t e = ap (λ (a : Stand). a.point) e
steps_chain plan given s (x ∷ xs) t (u, step, rest) = Chain-append IsTurn s.point x.turns (turns_of xs) u.point t.point step.chain (steps_chain plan given u xs t rest)

begins_some : (front rest : List ℕ) → 0 < length front → 0 < length (front ++ rest)
begins_some front rest some = omega (arith, some, length-append front rest)

sent_some : (method path line body : List ℕ) → 0 < length method → 0 < length (message method path line body)
unfolding message
sent_some method path line body some =
    begins_some _ _ (begins_some _ _ (begins_some _ _ (begins_some _ _ (begins_some _ _ (begins_some _ _ (begins_some _ _ (begins_some method _ some)))))))

post_some : 0 < length (codes "POST")
post_some = omega arith

put_some : 0 < length (codes "PUT")
put_some = omega arith

kind_some : (machine : ℕ) (k : TaskKind) (known : MachineMemory) → 0 < length (kind_message machine k known)
kind_some machine kind.Register known = sent_some (codes "POST") _ _ _ post_some
kind_some machine (kind.Point last) known = sent_some (codes "POST") _ _ _ post_some
kind_some machine kind.Poll known = sent_some (codes "POST") _ _ _ post_some
kind_some machine (kind.Save choice) known = sent_some (codes "PUT") _ _ _ put_some
kind_some machine (kind.Announce second) known = sent_some (codes "POST") _ _ _ post_some
kind_some machine kind.Approve known = sent_some (codes "POST") _ _ _ post_some
kind_some machine (kind.Rename number) known = sent_some (codes "POST") _ _ _ post_some

-- a request has bytes
pub message_some : (task : Task) (known : MachineMemory) → 0 < length (task_message task known)
unfolding task_message
message_some task known = kind_some task.machine task.kind known
