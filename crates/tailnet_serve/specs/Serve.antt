-- What the command `serve` does.
use Rattle.std.specs.Prelude.{◌≡◌, ◌⊎◌, ℕ, ℤ, Bool, false, Option, None, List, [], IfSome, codes, if◌then◌else◌}
use Rattle.io_edge.specs.Edge.{Rose, IsWhereTold}
use Rattle.net_rows.specs.declared.rows.Rows.{Rows}
use Rattle.server_settings.specs.declared.file_settings.FileSettings.{FileSettings}
use Rattle.exit_status.specs.Lines.{Noted, ended_line, is_made}
use Rattle.exit_status.specs.Statuses.{status_of}
use Rattle.exit_status.specs.declared.ended.Ended.{Ended}
use Rattle.exit_status.specs.declared.status.Status.{Status}
use Rattle.exit_status.specs.declared.status.Status.TheVariants as status
use Rattle.connections.specs.Connection.{Told}
use Rattle.tailnet_commands.specs.Outside.{DoorsTold, Outside}
use Rattle.tailnet_commands.specs.Pipe.{AreSettingsOf, Piped}
use Rattle.tailnet_commands.specs.Run.{IsAskedFor, IsOpeningFault, Ran}
use Rattle.tailnet_serve.specs.Service.{AreDoorsAsked, Service}
use Rattle.tailnet_serve.specs.declared.serve_end.ServeEnd.{ServeEnd}
use Rattle.tailnet_serve.specs.declared.serve_end.ServeEnd.TheVariants as end

-- what serving may touch, around any rest: neither input nor output nor a link
abbrev pub besides : {E F P C N D : Type 0} → (E → Option (List ℕ)) → (E → ℕ) → (F → List ℕ → Option (Option (List ℕ))) → (F → ℕ)
    → (P → Option Rows) → (P → Option (List (List ℕ))) → (P → ℕ) → (C → ℕ → Option ℤ) → (N → ℕ → Option (List ℕ)) → (N → ℕ) → (D → DoorsTold) → Outside → E → F → P → C → N → D → Outside
besides errors error_faults files file_faults rows asked keeper_faults answer word word_faults doors rest e f p c n d = record {
  told = record {
    left = rest.told.left;
    read_faults = rest.told.read_faults;
    giving = record {
      held = rest.told.giving.held;
      write_faults = rest.told.giving.write_faults;
      answers = answer c;
      words = word n;
      word_faults = word_faults n;
    };
  };
  rows = rows p;
  asked = asked p;
  keeper_faults = keeper_faults p;
  files = files f;
  file_faults = file_faults f;
  errors = errors e;
  error_faults = error_faults e;
  doors = doors d;
  link = rest.link;
}

-- the same of a run whose settings are read, around any streams and any rest
abbrev pub behind_settings : {P C N D : Type 0} → (P → Option Rows) → (P → Option (List (List ℕ))) → (P → ℕ) → (C → ℕ → Option ℤ) → (N → ℕ → Option (List ℕ)) → (N → ℕ) → (D → DoorsTold)
    → Told → Outside → P → C → N → D → Outside
behind_settings rows asked keeper_faults answer word word_faults doors streams rest p c n d = record {
  told = record {
    left = streams.left;
    read_faults = streams.read_faults;
    giving = record {
      held = streams.giving.held;
      write_faults = streams.giving.write_faults;
      answers = answer c;
      words = word n;
      word_faults = word_faults n;
    };
  };
  rows = rows p;
  asked = asked p;
  keeper_faults = keeper_faults p;
  files = rest.files;
  file_faults = rest.file_faults;
  errors = rest.errors;
  error_faults = rest.error_faults;
  doors = doors d;
  link = rest.link;
}

-- of workers that have stopped: whether a door failed, and whether a connection ended because memory was refused
abbrev pub workers_status : Bool → Bool → Status
workers_status failed starved = if failed then status.DoorFault else if starved then status.NoMemory else status.Ok

abbrev pub workers_line : Bool → Bool → List ℕ
workers_line failed starved = if failed then codes "tailnetd: door fault\n" else if starved then codes "tailnetd: no memory\n" else []

abbrev pub serve_status : ServeEnd → Status
serve_status (end.Unopened e) = status_of e
serve_status end.EntropyFault = status.EntropyFault
serve_status end.DoorFault = status.DoorFault
serve_status end.NoMemory = status.NoMemory
serve_status (end.Served failed starved) = workers_status failed starved

-- the line of how a run ended
abbrev pub serve_line : ServeEnd → List ℕ
serve_line (end.Unopened e) = ended_line e
serve_line end.EntropyFault = codes "tailnetd: entropy fault\n"
serve_line end.DoorFault = codes "tailnetd: door fault\n"
serve_line end.NoMemory = codes "tailnetd: no memory\n"
serve_line (end.Served failed starved) = workers_line failed starved

-- the line takes memory to make
abbrev pub is_line_made : ServeEnd → Bool
is_line_made (end.Unopened e) = is_made e
is_line_made end.EntropyFault = false
is_line_made end.DoorFault = false
is_line_made end.NoMemory = false
is_line_made (end.Served failed starved) = false

-- A desk was opened, and closed before anything was served.
pub record IsUnserved (settings : FileSettings) (old new : Outside) : Type 0 where
  pub asked : IsAskedFor settings old new
  pub rows : IfSome old.rows (λ rows. IsWhereTold rows new.rows)
  pub words : (k : ℕ) → new.told.giving.words k ≡ old.told.giving.words k

-- What a run over settings does.
abbrev pub ServeRan : ServeEnd → FileSettings → Outside → Outside → Type 0
ServeRan (end.Unopened e) settings old new = IsOpeningFault e × Ran e settings None old new × (new.doors ≡ old.doors)
ServeRan end.EntropyFault settings old new =
    IsUnserved settings old new × (new.doors ≡ old.doors) × Rose old.told.giving.word_faults new.told.giving.word_faults
ServeRan end.DoorFault settings old new =
    IsUnserved settings old new × AreDoorsAsked settings old.doors new.doors × Rose old.doors.faults new.doors.faults
ServeRan end.NoMemory settings old new =
    IsUnserved settings old new × ((new.doors.asked ≡ old.doors.asked) ⊎ AreDoorsAsked settings old.doors new.doors)
ServeRan (end.Served failed starved) settings old new = Service failed starved settings old new

-- A run over the settings of the file of this name.
pub record ServeRanUnder (how : ServeEnd) (name : List ℕ) (old new : Outside) : Type 0 where
  pub settings : FileSettings
  pub settings_are : AreSettingsOf (old.files name) settings
  pub ran : ServeRan how settings old new

-- What `serve` did, by how it ended. Whatever kept a desk from being opened is as for `pipe`.
abbrev pub ServeDone : ServeEnd → List ℕ → Outside → Outside → Type 0
ServeDone (end.Unopened e) name old new = IsOpeningFault e × Piped e name None old new × (new.doors ≡ old.doors)
ServeDone end.EntropyFault name old new = ServeRanUnder end.EntropyFault name old new
ServeDone end.DoorFault name old new = ServeRanUnder end.DoorFault name old new
ServeDone end.NoMemory name old new = ServeRanUnder end.NoMemory name old new
ServeDone (end.Served failed starved) name old new = ServeRanUnder (end.Served failed starved) name old new

-- What a status of `serve` says of the settings file of this name: how it ended, what was done then, and the line that
-- errors got. Nothing is read of the input or written to the output, and the link is as before.
pub record ServeOutcome (status : Status) (name : List ℕ) (old new : Outside) : Type 0 where
  pub ended : ServeEnd
  pub status_is : status ≡ serve_status ended
  pub done : ServeDone ended name old new
  pub noted : Noted (serve_line ended) (is_line_made ended) old.errors new.errors old.error_faults new.error_faults
  pub left : new.told.left ≡ old.told.left
  pub read_faults : new.told.read_faults ≡ old.told.read_faults
  pub held : new.told.giving.held ≡ old.told.giving.held
  pub write_faults : new.told.giving.write_faults ≡ old.told.giving.write_faults
  pub link : new.link ≡ old.link
