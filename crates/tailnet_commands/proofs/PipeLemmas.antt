-- The outcome of the command `pipe`.
use Rattle.std.proofs.Common.{ℕ, Option, None, Some, List, IfSome, inl, inr, refl}
use Rattle.io_edge.specs.Edge.{IsWhereTold}
use Rattle.net_rows.specs.declared.rows.Rows.{Rows}
use Rattle.server_settings.specs.declared.file_settings.FileSettings.{FileSettings}
use Rattle.tailnet_commands.specs.Outside.{Outside}
use Rattle.tailnet_commands.specs.Pipe.{AreSettingsOf, IsUnread, Piped}
use Rattle.tailnet_commands.specs.Run.{IsUnbegun, Ran, Untouched}
use Rattle.exit_status.specs.declared.ended.Ended.{Ended}
use Rattle.exit_status.specs.declared.ended.Ended.TheVariants as ended

-- what is known is so where it is told
pub told_by_itself : (o : Option Rows) → IfSome o (λ rows. IsWhereTold rows o)
told_by_itself None = tt
told_by_itself (Some rows) = refl

module _ (name : List ℕ) (seed : Option (List ℕ)) (old new : Outside) where
  -- a run over the file's settings
  pub ran_piped : (e : Ended) (settings : FileSettings) → AreSettingsOf (old.files name) settings → Ran e settings seed old new → Piped e name seed old new
  ran_piped (ended.Closed c) settings are r = record { settings = settings; settings_are = are; talk = r }
  ran_piped (ended.Settings rule key) settings are r = absurd r
  ran_piped ended.TooLarge settings are r = absurd r
  ran_piped ended.FileFault settings are r = absurd r
  ran_piped ended.KeeperFault settings are r = (r.0, (settings, are, r.1), r.2)
  ran_piped (ended.Damaged kind id) settings are r = (r.0, (settings, are, r.1), r.2)
  ran_piped ended.NoMemory settings are (quiet, inl unasked) = (quiet, inl unasked)
  ran_piped ended.NoMemory settings are (quiet, inr asked) = (quiet, inr (settings, are, asked))

  -- no settings, and nothing else was done
  pub unread_piped : (e : Ended) → IsUnread e (old.files name) old.file_faults new.file_faults → Untouched old new → IsUnbegun old new → Piped e name seed old new
  unread_piped (ended.Settings rule key) u quiet unbegun = (unbegun, u)
  unread_piped ended.TooLarge u quiet unbegun = (unbegun, u)
  unread_piped ended.FileFault u quiet unbegun = (unbegun, u)
  unread_piped ended.NoMemory u quiet unbegun = (quiet, inl unbegun.asked)
  unread_piped (ended.Closed c) u quiet unbegun = absurd u
  unread_piped ended.KeeperFault u quiet unbegun = absurd u
  unread_piped (ended.Damaged kind id) u quiet unbegun = absurd u
