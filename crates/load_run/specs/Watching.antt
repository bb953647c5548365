-- A desk whose replies are heard.
use Rattle.tailnet_desk.specs.Seated.{Point, Seated}
use Rattle.tailnet_desk.specs.Turns.{IsTurn}
use Rattle.tailnet_desk.specs.declared.entry.Event.{Event}
use Rattle.tailnet_desk.specs.declared.reply.Reply.{Reply}
use Rattle.load_run.specs.Hearing.{IsHeard}
use Rattle.load_run.specs.declared.heard.Heard.{Heard}
use Rattle.load_run.specs.declared.watched.WatchedDesk.{WatchedDesk}

-- a point of the desk, and what was heard
pub record Watched : Type 0 where
  pub point : Point
  pub heard : Heard

abbrev pub watched_of : {K : Type 0} → (Seated K → Point) → WatchedDesk K → Watched
watched_of point w = record { point = point w.desk; heard = w.heard }

-- a turn of the desk, whose reply was heard
pub record IsWatchedTurn (p : Watched) (e : Event) (reply : Reply) (q : Watched) : Type 0 where
  pub turn : IsTurn p.point e reply q.point
  pub heard : IsHeard p.heard reply q.heard
