-- The outcome of the command `load`.
use Rattle.std.specs.Prelude.{◌≡◌, ℕ, ℤ, pos, ◌+◌, Bool, true, false, Option, None, Some, List, [], ◌∷◌, ◌++◌, codes, if◌then◌else◌}
use Rattle.net_addr.specs.Moments.{clamped}
use Rattle.net_rows.specs.Rows.{empty_rows}
use Rattle.tailnet_desk.specs.Chains.{IsHistory, Turned}
use Rattle.tailnet_desk.specs.Opening.{opening}
use Rattle.tailnet_desk.specs.Seated.{Keeping, Point}
use Rattle.tailnet_desk.specs.Turns.{IsTurn}
use Rattle.tailnet_desk.specs.declared.ask.Ask.TheVariants as ask
use Rattle.tailnet_desk.specs.declared.entry.Event.{Event}
use Rattle.tailnet_desk.specs.declared.entry.Event.TheVariants as event
use Rattle.tailnet_desk.specs.declared.reply.Loss.TheVariants.{NoMemory}
use Rattle.tailnet_desk.specs.declared.reply.Reply.{Reply}
use Rattle.tailnet_desk.specs.declared.reply.Reply.TheVariants.{Lost}
use Rattle.desk_front.specs.Wanted.{front_settings}
use Rattle.desk_front.specs.declared.front_settings.FrontSettings.{FrontSettings}
use Rattle.connections.specs.Exchanges.{turns_of}
use Rattle.exit_status.specs.Pieces.{Wrote}
use Rattle.exit_status.specs.declared.status.Status.{Status}
use Rattle.exit_status.specs.declared.status.Status.TheVariants as status
use Rattle.load_run.specs.Early.{IsRunEarly}
use Rattle.load_run.specs.Given.{load_server, load_settings}
use Rattle.load_run.specs.Report.{report}
use Rattle.load_run.specs.Steps.{Runs, Stand, first_stand}
use Rattle.load_run.specs.Tasks.{request_count}
use Rattle.load_run.specs.declared.task.LoadPlan.{LoadPlan}

-- what the front of a load is told
abbrev pub load_front : FrontSettings
load_front = front_settings load_server

-- when the seed and the registrations come
abbrev pub load_moment : ℤ
load_moment = clamped (pos 1000000000)

-- the desk over empty tables
abbrev pub opening_point : Keeping → Point
opening_point keeping = record { state = opening load_settings empty_rows load_moment; keeping = keeping }

-- the seed
unfoldable pub seed_event : Event
seed_event = event.Ask (ask.Seed (codes "k1")) load_moment None

-- and its reply
abbrev pub seeding : Reply → Turned
seeding reply = record { event = seed_event; reply = reply }

-- A load: from empty tables the seed and then each request, as the replies so far say. All of it is one legal history of a
-- keeper that never failed.
pub record IsLoad (plan : LoadPlan) (final : Stand) : Type 0 where
  pub keeping : Keeping
  pub reply : Reply
  pub memory : reply ≡ Lost NoMemory → ⊥
  pub seeded : Point
  pub seeds : IsTurn (opening_point keeping) (seeding reply).event reply seeded
  pub runs : Runs plan load_front (first_stand plan 0 seeded) final
  pub whole : final.number ≡ request_count plan
  pub sum : final.counts.ok + final.counts.refused ≡ request_count plan
  pub history : IsHistory (opening_point keeping) (seeding reply ∷ turns_of runs.exchanges) final.point
  pub faultless : (keeping.faults ≡ 0) × (final.point.keeping.faults ≡ 0)

-- A load that didn't end: a request's connection ended early.
pub record IsLoadEarly (plan : LoadPlan) : Type 0 where
  pub keeping : Keeping
  pub reply : Reply
  pub seeded : Point
  pub seeds : IsTurn (opening_point keeping) (seeding reply).event reply seeded
  pub faultless : keeping.faults ≡ 0
  pub early : IsRunEarly plan load_front (first_stand plan 0 seeded)

-- the six lines of a load
pub record IsLoadText (plan : LoadPlan) (text : List ℕ) : Type 0 where
  pub final : Stand
  pub load : IsLoad plan final
  pub text_is : text ≡ report plan final.counts final.frames

-- nothing was written
abbrev pub IsLoadUnwritten : Option (List ℕ) → Option (List ℕ) → ℕ → ℕ → Type 0
IsLoadUnwritten old new before now = (new ≡ old) × (now ≡ before)

-- the six lines of a load were written or, where a write failed, a front of them
pub record IsReported (plan : LoadPlan) (ended : Status) (old new : Option (List ℕ)) (before now : ℕ) : Type 0 where
  pub final : Stand
  pub load : IsLoad plan final
  pub failed : Bool
  pub wrote : Wrote old new before now (report plan final.counts final.frames) failed
  pub status_is : ended ≡ (if failed then status.WriteFault else status.Ok)

-- what a status says, with the output and its count
abbrev pub Loaded : LoadPlan → Status → Option (List ℕ) → Option (List ℕ) → ℕ → ℕ → Type 0
Loaded plan status.Ok old new before now = IsReported plan status.Ok old new before now
Loaded plan status.WriteFault old new before now = IsReported plan status.WriteFault old new before now
Loaded plan status.NoMemory old new before now = IsLoadUnwritten old new before now
Loaded plan status.Early old new before now = IsLoadUnwritten old new before now × IsLoadEarly plan
Loaded plan status.Usage old new before now = ⊥
Loaded plan status.Settings old new before now = ⊥
Loaded plan status.ReadFault old new before now = ⊥
Loaded plan status.KeeperFault old new before now = ⊥
Loaded plan status.Damaged old new before now = ⊥
Loaded plan status.DoorFault old new before now = ⊥
Loaded plan status.Refused old new before now = ⊥
Loaded plan status.EntropyFault old new before now = ⊥

-- the line of a status on errors
abbrev pub load_line : Status → List ℕ
load_line status.Early = codes "tailnetd: closed early\n"
load_line status.WriteFault = codes "tailnetd: write fault\n"
load_line status.NoMemory = codes "tailnetd: no memory\n"
load_line status.Ok = []
load_line status.Usage = []
load_line status.Settings = []
load_line status.ReadFault = []
load_line status.KeeperFault = []
load_line status.Damaged = []
load_line status.DoorFault = []
load_line status.Refused = []
load_line status.EntropyFault = []
