-- How a load begins.
use Rattle.std.specs.Prelude.{◌≡◌, ℕ, ℤ, false, List, [], None, replicate}
use Rattle.tailnet_desk.specs.Seated.{Keeping, Point, Seated}
use Rattle.tailnet_desk.specs.Turns.{IsTurn}
use Rattle.tailnet_desk.specs.declared.ask.Ask.TheVariants as ask
use Rattle.tailnet_desk.specs.declared.entry.Event.TheVariants as event
use Rattle.tailnet_desk.specs.declared.reply.Loss.TheVariants.{NoMemory}
use Rattle.tailnet_desk.specs.declared.reply.Reply.{Reply}
use Rattle.tailnet_desk.specs.declared.reply.Reply.TheVariants.{Lost}
use Rattle.net_rows.specs.Rows.{empty_rows}
use Rattle.tailnet_desk.specs.Opening.{opening}
use Rattle.load_run.specs.Draws.{first_source}
use Rattle.load_run.specs.Given.{load_settings}
use Rattle.load_run.specs.Knowing.{nothing}
use Rattle.load_run.specs.Loads.{load_moment, opening_point, seeding}
use Rattle.load_run.specs.Running.{IsLoadReady, stand_of}
use Rattle.load_run.specs.Steps.{first_stand}
use Rattle.load_run.specs.Watching.{IsWatchedTurn, Watched}
use Rattle.load_run.specs.declared.heard.Heard.{Heard}
use Rattle.load_run.specs.declared.run.Run.{Run}
use Rattle.load_run.specs.declared.task.LoadPlan.{LoadPlan}

-- nothing was heard
abbrev pub unheard : Heard
unheard = record { handle = []; seq = 0; frames = 0; starved = false }

-- a seed was asked, and its reply heard
pub record IsSeedAsked (text : List ℕ) (moment : ℤ) (p q : Watched) : Type 0 where
  pub reply : Reply
  pub turn : IsWatchedTurn p (event.Ask (ask.Seed text) moment None) reply q

-- a seed was asked, and memory wasn't refused to it
pub record IsSeedHeard (text : List ℕ) (moment : ℤ) (p q : Watched) : Type 0 where
  pub reply : Reply
  pub memory : reply ≡ Lost NoMemory → ⊥
  pub turn : IsTurn p.point (event.Ask (ask.Seed text) moment None) reply q.point
  pub fed : q.heard.starved ≡ false
  pub uncounted : q.heard.frames ≡ 0

-- the seed of a load was asked, and memory wasn't refused to it
pub record IsLoadSeeded (p q : Watched) : Type 0 where
  pub reply : Reply
  pub memory : reply ≡ Lost NoMemory → ⊥
  pub seeds : IsTurn p.point (seeding reply).event reply q.point
  pub fed : q.heard.starved ≡ false
  pub uncounted : q.heard.frames ≡ 0

-- a load before its seed: nothing was asked or heard
pub record IsUnseeded {K : Type 0} (plan : LoadPlan) (run : Run K) : Type 0 where
  pub state : run.watched.desk.state ≡ opening load_settings empty_rows load_moment
  pub heard : run.watched.heard ≡ unheard
  pub words : run.words.drawn ≡ 0
  pub roll : run.roll ≡ replicate plan.machines nothing
  pub source : run.source ≡ first_source plan.machines plan.events
  pub counts : run.counts ≡ record { ok = 0; refused = 0 }

-- a load before its first request
pub record IsBegun {K : Type 0} (plan : LoadPlan) (point : Seated K → Point) (run : Run K) : Type 0 where
  pub keeping : Keeping
  pub reply : Reply
  pub memory : reply ≡ Lost NoMemory → ⊥
  pub seeds : IsTurn (opening_point keeping) (seeding reply).event reply (point run.watched.desk)
  pub faultless : keeping.faults ≡ 0
  pub stand : stand_of point 0 run ≡ first_stand plan 0 (point run.watched.desk)
  pub ready : IsLoadReady plan 0 run
