-- When a run of `pipe` can't but end well, and when nothing keeps a command from opening its desk.
use Rattle.std.specs.Prelude.{◌≡◌, ◌≢◌, ◌≤◌, ◌⊎◌, ℕ, Option, None, Some, List, [], length, Ok, IsSome}
use Rattle.std.specs.List.{AllByRecursion}
use Rattle.io_edge.specs.Edge.{Rose}
use Rattle.http_front.specs.Requests.{Leads}
use Rattle.http_front.specs.declared.request.Request.{Request}
use Rattle.desk_front.specs.Wanted.{front_settings, wanted_of}
use Rattle.desk_front.specs.declared.want.Wanted.{Wanted}
use Rattle.desk_front.specs.declared.want.Wanted.TheVariants as wants
use Rattle.net_rows.specs.declared.rows.Rows.{Rows}
use Rattle.server_settings.specs.declared.file_settings.FileSettings.{FileSettings}
use Rattle.tail_words.specs.SettingsText.{settings_of}
use Rattle.tailnet_desk.specs.Opening.{unread_policy}
use Rattle.tailnet_commands.specs.Pipe.{Outcome}
use Rattle.tailnet_commands.specs.Outside.{Outside}
use Rattle.tailnet_commands.specs.declared.limits.TheConstants.{FILE_LIMIT}
use Rattle.exit_status.specs.declared.status.Status.{Status}
use Rattle.exit_status.specs.declared.status.Status.TheVariants as status

-- the request isn't answered 400
abbrev pub IsAccepted : Wanted → Type 0
IsAccepted (wants.Fault body) = ⊥
IsAccepted (wants.Answer status body) = Unit {0}
IsAccepted (wants.Ask ask) = Unit {0}
IsAccepted (wants.Poll p) = Unit {0}

-- Nothing keeps a desk from being opened: the settings file is there and keeps its rules, the tables are opened, and the
-- opener tells rows at the end too; neither the files' count of faults rises nor the keeper's.
pub record IsOpenable (name : List ℕ) (old new : Outside) : Type 0 where
  pub text : List ℕ
  pub file_is : old.files name ≡ Some (Some text)
  pub small : length text ≤ FILE_LIMIT
  pub settings : FileSettings
  pub settings_are : settings_of text ≡ Ok settings
  pub rows : Rows
  pub rows_are : old.rows ≡ Some rows
  pub rows_stay : IsSome new.rows
  pub opened : unread_policy rows ≡ None
  pub no_file_fault : Rose old.file_faults new.file_faults → ⊥
  pub no_keeper_fault : Rose old.keeper_faults new.keeper_faults → ⊥

-- Nothing stands in the way of a run: its desk is opened, the input is whole requests that are accepted, and no count of
-- faults rises.
pub record IsClear (name : List ℕ) (old new : Outside) : Type 0 where
  pub openable : IsOpenable name old new
  pub input : List ℕ
  pub input_is : old.told.left ≡ Some input
  pub requests : List Request
  pub whole : Leads input requests []
  pub accepted : AllByRecursion (λ r. IsAccepted (wanted_of (front_settings openable.settings.server) r)) requests
  pub no_read_fault : Rose old.told.read_faults new.told.read_faults → ⊥
  pub no_write_fault : Rose old.told.giving.write_faults new.told.giving.write_faults → ⊥

-- Then it ends with status 0, or for lack of memory.
abbrev pub IsComplete : Type 0
IsComplete = (s : Status) (name : List ℕ) (seed : Option (List ℕ)) (old new : Outside)
    → Outcome s name seed old new → IsClear name old new → (s ≡ status.Ok) ⊎ (s ≡ status.NoMemory)
