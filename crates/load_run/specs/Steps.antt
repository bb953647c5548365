-- A load, request by request.
use Rattle.std.specs.Prelude.{◌≡◌, ℕ, ◌+◌, Bool, true, false, Option, Some, List, [], ◌∷◌, ◌++◌, replicate}
use Rattle.http_front.specs.Requests.{Leads}
use Rattle.http_front.specs.declared.request.Request.{Request}
use Rattle.tailnet_desk.specs.Chains.{Chain, Turned}
use Rattle.tailnet_desk.specs.Seated.{Point}
use Rattle.tailnet_desk.specs.Turns.{IsTurn}
use Rattle.desk_front.specs.Wanted.{wanted_of}
use Rattle.desk_front.specs.declared.front_settings.FrontSettings.{FrontSettings}
use Rattle.connections.specs.Exchanges.{Exchange, IsAnswered}
use Rattle.connections.specs.Tellings.{MomentsTold, WordsTold, drawn, failed_draws, from_number}
use Rattle.load_run.specs.Counting.{counted, is_busy_answer}
use Rattle.load_run.specs.Draws.{first_source}
use Rattle.load_run.specs.Hearing.{HadMemory, hear_turns}
use Rattle.load_run.specs.Knowing.{known_of, nothing, with_known}
use Rattle.load_run.specs.Messages.{task_message}
use Rattle.load_run.specs.Outside as outside
use Rattle.load_run.specs.Tasks.{moment_at, source_after, task_at}
use Rattle.load_run.specs.declared.counts.Counts.{Counts}
use Rattle.load_run.specs.declared.heard.Heard.{Heard}
use Rattle.load_run.specs.declared.known.MachineMemory.{MachineMemory}
use Rattle.load_run.specs.declared.task.LoadPlan.{LoadPlan}
use Rattle.load_run.specs.declared.task.Task.{Task}
use Rattle.load_run.specs.declared.task.TaskKind.{TaskKind}
use Rattle.load_run.specs.declared.task.TaskKind.TheVariants as kind

-- Where a load stands: how many requests there were, the source of the draws, what machines know, how often random words
-- were drawn, what was counted, and the desk.
pub record Stand : Type 0 where
  pub number : ℕ
  pub source : ℕ
  pub roll : List MachineMemory
  pub words : ℕ
  pub counts : Counts
  pub frames : ℕ
  pub point : Point

-- before the first request
abbrev pub first_stand : LoadPlan → ℕ → Point → Stand
first_stand plan frames point = record {
  number = 0;
  source = first_source plan.machines plan.events;
  roll = replicate plan.machines nothing;
  words = 0;
  counts = record { ok = 0; refused = 0 };
  frames = frames;
  point = point;
}

-- the request is the one that the bytes begin with
pub record Begins (bytes : List ℕ) (request : Request) : Type 0 where
  pub read : List ℕ
  pub unread : List ℕ
  pub bytes_are : bytes ≡ read ++ unread
  pub behind : List ℕ
  pub whole : Leads read (request ∷ []) behind

-- the route that a machine told of last, after a request of this kind
abbrev pub route_after : TaskKind → Option ℕ → Option ℕ
route_after kind.Register route = route
route_after (kind.Point last) route = route
route_after kind.Poll route = route
route_after (kind.Save choice) route = route
route_after (kind.Announce second) route = Some second
route_after kind.Approve route = route
route_after (kind.Rename number) route = route

-- what the next request asks, and what its machine knows
abbrev pub next_task : LoadPlan → Stand → Task
next_task plan s = task_at plan s.number s.source

abbrev pub next_known : LoadPlan → Stand → MachineMemory
next_known plan s = known_of s.roll (next_task plan s).machine

-- what is heard of its replies, beginning with the handle and the number that the machine has
abbrev pub heard_from : ℕ → MachineMemory → List Turned → Heard
heard_from frames known turns = hear_turns (record { handle = known.handle; seq = known.seq; frames = frames; starved = false }) turns

abbrev pub next_heard : LoadPlan → Stand → List Turned → Heard
next_heard plan s turns = heard_from s.frames (next_known plan s) turns

-- what its machine knows then
abbrev pub known_after : Task → MachineMemory → Heard → MachineMemory
known_after task known heard = record { handle = heard.handle; seq = heard.seq; route = route_after task.kind known.route }

-- where the load stands then
abbrev pub stand_after : LoadPlan → Stand → Exchange → ℕ → Point → Stand
stand_after plan s x words point = record {
  number = s.number + 1;
  source = source_after plan s.number s.source;
  roll = with_known s.roll (next_task plan s).machine (known_after (next_task plan s) (next_known plan s) (next_heard plan s x.turns));
  words = words;
  counts = counted s.counts x.bytes;
  frames = (next_heard plan s x.turns).frames;
  point = point;
}

-- One request: it is made of where the load stands, and served as the last of a connection, and its
-- answer is whole. Its turns come at its moment, with the random words that are next, and memory was refused to none.
pub record IsStep (plan : LoadPlan) (given : FrontSettings) (s : Stand) (x : Exchange) (t : Stand) : Type 0 where
  pub request : Begins (task_message (next_task plan s) (next_known plan s)) x.request
  pub answered : IsAnswered given 0 true (wanted_of given x.request) x.turns x.bytes x.ended x.broken
  pub unbroken : x.broken ≡ false
  pub memory : HadMemory x.turns
  pub moments : MomentsTold (outside.still (moment_at plan s.number)) x.turns
  pub words : WordsTold (outside.counted s.words) x.turns
  pub all_drawn : failed_draws x.turns ≡ 0
  pub words_on : (k : ℕ) → outside.counted t.words k ≡ from_number (drawn x.turns) (outside.counted s.words) k
  pub chain : Chain IsTurn s.point x.turns t.point
  pub next : t ≡ stand_after plan s x t.words t.point

-- requests, one after the other
abbrev pub LoadSteps : LoadPlan → FrontSettings → Stand → List Exchange → Stand → Type 0
LoadSteps plan given s [] t = s ≡ t
LoadSteps plan given s (x ∷ xs) t = (u : Stand) × IsStep plan given s x u × LoadSteps plan given u xs t

-- some requests lead from one to the other
pub record Runs (plan : LoadPlan) (given : FrontSettings) (s t : Stand) : Type 0 where
  pub exchanges : List Exchange
  pub steps : LoadSteps plan given s exchanges t
