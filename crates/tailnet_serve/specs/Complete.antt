-- When a run of `serve` can't but end well, and how it leaves its connections.
use Rattle.std.specs.Prelude.{◌≡◌, ◌⊎◌, ℕ, Bool, false, List}
use Rattle.std.specs.List.{AllByRecursion}
use Rattle.io_edge.specs.Edge.{Rose}
use Rattle.exit_status.specs.declared.closed.Closed.TheVariants.{End, Early}
use Rattle.exit_status.specs.declared.status.Status.{Status}
use Rattle.exit_status.specs.declared.status.Status.TheVariants as status
use Rattle.server_settings.specs.declared.file_settings.FileSettings.{FileSettings}
use Rattle.tailnet_commands.specs.Complete.{IsOpenable}
use Rattle.tailnet_commands.specs.Outside.{Outside}
use Rattle.tailnet_serve.specs.Serve.{ServeOutcome}
use Rattle.tailnet_serve.specs.Service.{Service, Shift}
use Rattle.tailnet_serve.specs.Visits.{Visit}

-- Nothing stands in the way of a run: its desk is opened, and neither the doors' count of faults rises nor the random
-- source's.
pub record IsServable (name : List ℕ) (old new : Outside) : Type 0 where
  pub openable : IsOpenable name old new
  pub no_door_fault : Rose old.doors.faults new.doors.faults → ⊥
  pub no_word_fault : Rose old.told.giving.word_faults new.told.giving.word_faults → ⊥

-- Then it ends with status 0, or for lack of memory.
abbrev pub IsServingComplete : Type 0
IsServingComplete = (s : Status) (name : List ℕ) (old new : Outside)
    → ServeOutcome s name old new → IsServable name old new → (s ≡ status.Ok) ⊎ (s ≡ status.NoMemory)

-- a connection at which neither a read nor a write failed was served to its end, or to the request or the refusal that
-- ended it
abbrev pub IsServedWell : Visit → Type 0
IsServedWell v =
    (Rose v.came.read_faults v.left.read_faults → ⊥)
    → (Rose v.came.giving.write_faults v.left.giving.write_faults → ⊥)
    → (v.closed ≡ End) ⊎ (v.closed ≡ Early)

-- so was each that was taken, unless memory ran out at one
abbrev pub ServesWell : Type 0
ServesWell = (failed : Bool) (settings : FileSettings) (old new : Outside) (run : Service failed false settings old new)
    → AllByRecursion (λ (w : Shift). AllByRecursion IsServedWell w.visits) run.shifts
