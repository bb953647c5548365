-- The outcome of the command `pipe`.
use Rattle.std.specs.Prelude.{◌≡◌, ◌<◌, ◌≤◌, ◌⊎◌, ℕ, Option, List, length, Result, Ok, Err, IfSome, IsSomeAnd}
use Rattle.io_edge.specs.Edge.{Rose}
use Rattle.server_settings.specs.declared.file_settings.FileSettings.{FileSettings}
use Rattle.tail_words.specs.SettingsText.{broken_at, settings_of}
use Rattle.tail_words.specs.declared.fault.SettingsRule.{SettingsRule}
use Rattle.exit_status.specs.Lines.{Noted, is_made, ended_line}
use Rattle.exit_status.specs.Statuses.{status_of}
use Rattle.tailnet_commands.specs.Outside.{Outside}
use Rattle.tailnet_commands.specs.Run.{Conversation, IsAskedFor, IsUnasked, IsUnbegun, IsUnopened, Untouched}
use Rattle.exit_status.specs.declared.closed.Closed.{Closed}
use Rattle.exit_status.specs.declared.ended.Ended.{Ended}
use Rattle.exit_status.specs.declared.ended.Ended.TheVariants as ended
use Rattle.tailnet_commands.specs.declared.limits.TheConstants.{FILE_LIMIT}
use Rattle.exit_status.specs.declared.status.Status.{Status}

-- where the file is told, it has at most 1 MiB, and these are its settings
abbrev pub AreSettingsOf : Option (Option (List ℕ)) → FileSettings → Type 0
AreSettingsOf file settings = IfSome file (λ held. IsSomeAnd held (λ text. (length text ≤ FILE_LIMIT) × (settings_of text ≡ Ok settings)))

-- where the file is told, it is larger than may be
abbrev pub IsTooLarge : Option (Option (List ℕ)) → Type 0
IsTooLarge file = IfSome file (λ held. IsSomeAnd held (λ text. FILE_LIMIT < length text))

-- where the file is told, it has at most 1 MiB, and this is the first rule that its settings break, at this key
abbrev pub IsFaulty : SettingsRule → List ℕ → Option (Option (List ℕ)) → Type 0
IsFaulty rule key file = IfSome file (λ held. IsSomeAnd held (λ text. (length text ≤ FILE_LIMIT) × (settings_of text ≡ Err (broken_at rule key))))

-- this holds under the settings of the file
abbrev pub IsUnder : Option (Option (List ℕ)) → (FileSettings → Type 0) → Type 0
IsUnder file holds = (settings : FileSettings) × AreSettingsOf file settings × holds settings

-- why the settings file gave no settings
abbrev pub IsUnread : Ended → Option (Option (List ℕ)) → ℕ → ℕ → Type 0
IsUnread (ended.Settings rule key) file before now = IsFaulty rule key file
IsUnread ended.TooLarge file before now = IsTooLarge file
IsUnread ended.FileFault file before now = Rose before now
IsUnread ended.NoMemory file before now = Unit {0}
IsUnread (ended.Closed closing) file before now = ⊥
IsUnread ended.KeeperFault file before now = ⊥
IsUnread (ended.Damaged kind id) file before now = ⊥

-- what reading the settings file gave
abbrev pub IsSettingsFile : Result FileSettings Ended → Option (Option (List ℕ)) → ℕ → ℕ → Type 0
IsSettingsFile (Ok settings) file before now = AreSettingsOf file settings
IsSettingsFile (Err e) file before now = IsUnread e file before now

-- A connection was served, under the settings of the file of this name.
pub record Served (closing : Closed) (name : List ℕ) (seed : Option (List ℕ)) (old new : Outside) : Type 0 where
  pub settings : FileSettings
  pub settings_are : AreSettingsOf (old.files name) settings
  pub talk : Conversation closing settings seed old new

-- what `pipe` results in, by how it ended
abbrev pub Piped : Ended → List ℕ → Option (List ℕ) → Outside → Outside → Type 0
Piped (ended.Closed closing) name seed old new = Served closing name seed old new
Piped (ended.Settings rule key) name seed old new = IsUnbegun old new × IsFaulty rule key (old.files name)
Piped ended.TooLarge name seed old new = IsUnbegun old new × IsTooLarge (old.files name)
Piped ended.FileFault name seed old new = IsUnbegun old new × Rose old.file_faults new.file_faults
Piped ended.KeeperFault name seed old new =
    Untouched old new × IsUnder (old.files name) (λ settings. IsAskedFor settings old new) × Rose old.keeper_faults new.keeper_faults
Piped (ended.Damaged kind id) name seed old new =
    Untouched old new × IsUnder (old.files name) (λ settings. IsAskedFor settings old new) × IsUnopened kind id new.rows
Piped ended.NoMemory name seed old new =
    Untouched old new × (IsUnasked old new ⊎ IsUnder (old.files name) (λ settings. IsAskedFor settings old new))

-- What a status of `pipe` says of the settings file of this name and the seed: how it ended, what that results in, and
-- the line that errors got. Doors and the link are as before.
pub record Outcome (status : Status) (name : List ℕ) (seed : Option (List ℕ)) (old new : Outside) : Type 0 where
  pub ended : Ended
  pub status_is : status ≡ status_of ended
  pub piped : Piped ended name seed old new
  pub noted : Noted (ended_line ended) (is_made ended) old.errors new.errors old.error_faults new.error_faults
  pub doors : new.doors ≡ old.doors
  pub link : new.link ≡ old.link
