-- A load that ends before its last request.
use Rattle.std.proofs.Common.{◌≡◌, ℕ, List, [], Some, subst}
use Rattle.desk_front.specs.declared.front_settings.FrontSettings.{FrontSettings}
use Rattle.tailnet_desk.specs.Seated.{Point, Seated}
use Rattle.tailnet_desk.specs.Turns.{IsTurn}
use Rattle.tailnet_desk.specs.declared.entry.Event.{Event}
use Rattle.tailnet_desk.specs.declared.reply.Reply.{Reply}
use Rattle.connections.specs.Connection.{IsConnection, Told}
use Rattle.connections.proofs.Seen.{serves_map}
use Rattle.exit_status.specs.declared.closed.Closed.TheVariants.{Early}
use Rattle.load_run.specs.Beginning.{IsBegun}
use Rattle.load_run.specs.Early.{IsNextEarly, IsRunEarly, IsServedEarly}
use Rattle.load_run.specs.Loads.{IsLoadEarly, load_front}
use Rattle.load_run.specs.Messages.{task_message}
use Rattle.load_run.specs.Running.{stand_of}
use Rattle.load_run.specs.Steps.{Stand, first_stand, next_known, next_task}
use Rattle.load_run.specs.Watching.{IsWatchedTurn, Watched}
use Rattle.load_run.specs.declared.run.Run.{Run}
use Rattle.load_run.specs.declared.task.LoadPlan.{LoadPlan}

-- a connection that held one message
pub served_early : {S : Type 0} (turn : S → Event → Reply → S → Type 0) (given : FrontSettings) (message : List ℕ) (old new : Told) (s t : S) → old.left ≡ Some message → IsConnection turn given 0 Early 1 [] old new s t → IsServedEarly turn given message s t
served_early turn given message old new s t left serves = record { old = old; new = new; left = left; serves = serves }

-- a connection over a desk whose replies are heard is one over the desk
pub early_at_desk : (given : FrontSettings) (message : List ℕ) (p q : Watched) → IsServedEarly IsWatchedTurn given message p q → IsServedEarly IsTurn given message p.point q.point
early_at_desk given message p q e = record {
  old = e.old;
  new = e.new;
  left = e.left;
  serves = serves_map IsWatchedTurn IsTurn given 0 (λ (w : Watched). w.point) (λ s event reply t h. h.turn) Early 1 [] e.old e.new p q e.serves;
}

-- the message of the next request
pub next_early : (plan : LoadPlan) (given : FrontSettings) (s : Stand) (message : List ℕ) (after : Point) → message ≡ task_message (next_task plan s) (next_known plan s) → IsServedEarly IsTurn given message s.point after → IsNextEarly plan given s
next_early plan given s message after made e = record { after = after; early = subst (λ (m : List ℕ). IsServedEarly IsTurn given m s.point after) made e }

-- a load that began and was stopped early
pub load_early : {K : Type 0} (plan : LoadPlan) (point : Seated K → Point) (before : Run K) → IsBegun plan point before → IsRunEarly plan load_front (stand_of point 0 before) → IsLoadEarly plan
load_early plan point before begun early = record {
  keeping = begun.keeping;
  reply = begun.reply;
  seeded = point before.watched.desk;
  seeds = begun.seeds;
  faultless = begun.faultless;
  early = subst (λ (s : Stand). IsRunEarly plan load_front s) begun.stand early;
}
