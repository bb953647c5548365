-- A load under way.
use Rattle.std.specs.Prelude.{◌≡◌, ℕ, ◌+◌, ℤ, false, true, List, length}
use Rattle.desk_front.specs.Wanted.{wanted_of}
use Rattle.desk_front.specs.declared.front_settings.FrontSettings.{FrontSettings}
use Rattle.tailnet_desk.specs.Chains.{Chain}
use Rattle.tailnet_desk.specs.Seated.{Point, Seated}
use Rattle.tailnet_desk.specs.Turns.{IsTurn}
use Rattle.connections.specs.Exchanges.{Exchange, IsAnswered}
use Rattle.connections.specs.Tellings.{MomentsTold, WordsTold, drawn, failed_draws, from_number}
use Rattle.load_run.specs.Counting.{counted}
use Rattle.load_run.specs.Hearing.{HadMemory, hear_turns}
use Rattle.load_run.specs.Knowing.{known_of, with_known}
use Rattle.load_run.specs.Outside as outside
use Rattle.load_run.specs.Steps.{Begins, IsStep, Stand, known_after}
use Rattle.load_run.specs.declared.counts.Counts.{Counts}
use Rattle.load_run.specs.declared.heard.Heard.{Heard}
use Rattle.load_run.specs.declared.known.MachineMemory.{MachineMemory}
use Rattle.load_run.specs.declared.run.Run.{Run}
use Rattle.load_run.specs.declared.task.LoadPlan.{LoadPlan}
use Rattle.load_run.specs.declared.task.Task.{Task}

-- the parts of a load that a request changes when it is served
pub record LoadTaking : Type 0 where
  pub point : Point
  pub heard : Heard
  pub words : ℕ
  pub counts : Counts

abbrev pub taking_of : {K : Type 0} → (Seated K → Point) → Run K → LoadTaking
taking_of point run = record { point = point run.watched.desk; heard = run.watched.heard; words = run.words.drawn; counts = run.counts }

-- where a load stands before the request of this number
abbrev pub stand_of : {K : Type 0} → (Seated K → Point) → ℕ → Run K → Stand
stand_of point number run = record {
  number = number;
  source = run.source;
  roll = run.roll;
  words = run.words.drawn;
  counts = run.counts;
  frames = run.watched.heard.frames;
  point = point run.watched.desk;
}

-- a request was served, heard and counted
pub record IsTaskTaken (given : FrontSettings) (message : List ℕ) (moment : ℤ) (old new : LoadTaking) : Type 0 where
  pub exchange : Exchange
  pub request : Begins message exchange.request
  pub answered : IsAnswered given 0 true (wanted_of given exchange.request) exchange.turns exchange.bytes exchange.ended exchange.broken
  pub unbroken : exchange.broken ≡ false
  pub memory : HadMemory exchange.turns
  pub moments : MomentsTold (outside.still moment) exchange.turns
  pub words : WordsTold (outside.counted old.words) exchange.turns
  pub all_drawn : failed_draws exchange.turns ≡ 0
  pub words_on : (k : ℕ) → outside.counted new.words k ≡ from_number (drawn exchange.turns) (outside.counted old.words) k
  pub chain : Chain IsTurn old.point exchange.turns new.point
  pub heard : new.heard ≡ hear_turns old.heard exchange.turns
  pub fed : new.heard.starved ≡ false
  pub counts : new.counts ≡ counted old.counts exchange.bytes
  pub sum : new.counts.ok + new.counts.refused ≡ old.counts.ok + old.counts.refused + 1

-- a load whose replies are heard over this
abbrev pub heard_by : {K : Type 0} → MachineMemory → Run K → Run K
heard_by known run = record run { watched = record run.watched { heard = record run.watched.heard { handle = known.handle; seq = known.seq } } }

-- a load in which the machine of a task knows what was heard
abbrev pub run_with_known : {K : Type 0} → Task → Run K → Run K
run_with_known task run = record run { roll = with_known run.roll task.machine (known_after task (known_of run.roll task.machine) run.watched.heard) }

-- one request led from one to the other
pub record IsNextRequest (plan : LoadPlan) (given : FrontSettings) (s t : Stand) : Type 0 where
  pub exchange : Exchange
  pub step : IsStep plan given s exchange t

-- so many requests were served and counted, and memory was refused to none
pub record IsLoadReady {K : Type 0} (plan : LoadPlan) (number : ℕ) (run : Run K) : Type 0 where
  pub roll : length run.roll ≡ plan.machines
  pub fed : run.watched.heard.starved ≡ false
  pub sum : run.counts.ok + run.counts.refused ≡ number
