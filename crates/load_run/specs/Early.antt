-- A load that ends before its last request, since a request isn't served as the others are.
use Rattle.std.specs.Prelude.{◌≡◌, List, [], ℕ, Some}
use Rattle.desk_front.specs.declared.front_settings.FrontSettings.{FrontSettings}
use Rattle.tailnet_desk.specs.Seated.{Point}
use Rattle.tailnet_desk.specs.Turns.{IsTurn}
use Rattle.tailnet_desk.specs.declared.entry.Event.{Event}
use Rattle.tailnet_desk.specs.declared.reply.Reply.{Reply}
use Rattle.connections.specs.Connection.{IsConnection, Told}
use Rattle.exit_status.specs.declared.closed.Closed.TheVariants.{Early}
use Rattle.load_run.specs.Messages.{task_message}
use Rattle.load_run.specs.Steps.{Runs, Stand, next_known, next_task}
use Rattle.load_run.specs.declared.task.LoadPlan.{LoadPlan}

-- The connection of a message ended early: its bytes are no whole request, or are refused, or the request is answered as one
-- that has a fault.
pub record IsServedEarly {S : Type 0} (turn : S → Event → Reply → S → Type 0) (given : FrontSettings) (message : List ℕ) (p q : S) : Type 0 where
  pub old : Told
  pub new : Told
  pub left : old.left ≡ Some message
  pub serves : IsConnection turn given 0 Early 1 [] old new p q

-- so did that of the next request of a load
pub record IsNextEarly (plan : LoadPlan) (given : FrontSettings) (s : Stand) : Type 0 where
  pub after : Point
  pub early : IsServedEarly IsTurn given (task_message (next_task plan s) (next_known plan s)) s.point after

-- so did that of a request behind some others
pub record IsRunEarly (plan : LoadPlan) (given : FrontSettings) (s : Stand) : Type 0 where
  pub at : Stand
  pub runs : Runs plan given s at
  pub next : IsNextEarly plan given at
