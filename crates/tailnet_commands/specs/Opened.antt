-- A desk that was opened over what an opener keeps, or that wasn't.
use Rattle.std.specs.Prelude.{◌≡◌, ◌≤◌, ◌+◌, ◌⊎◌, ℕ, ℤ, Option, None, List, IfSome, IsSome}
use Rattle.std.specs.Option.{option_map}
use Rattle.net_addr.specs.Moments.{clamped}
use Rattle.io_edge.specs.Asked.{and_asked}
use Rattle.io_edge.specs.Edge.{Rose, IsWhereTold}
use Rattle.net_rows.specs.Damage.{damage}
use Rattle.net_rows.specs.declared.rows.Rows.{Rows}
use Rattle.settings.specs.Settings.{AreSettings}
use Rattle.server_settings.specs.declared.file_settings.FileSettings.{FileSettings}
use Rattle.tailnet_desk.specs.Opening.{opening}
use Rattle.tailnet_desk.specs.Seated.{Point}
use Rattle.tailnet_commands.specs.Run.{IsUnopened}
use Rattle.exit_status.specs.declared.ended.Ended.{Ended}
use Rattle.exit_status.specs.declared.ended.Ended.TheVariants as ended

-- what an opener tells: its rows, the names that it was asked for, and its count of faults
pub record OpenerTold : Type 0 where
  pub rows : Option Rows
  pub asked : Option (List (List ℕ))
  pub faults : ℕ

abbrev pub opener_told : {P : Type 0} → (P → Option Rows) → (P → Option (List (List ℕ))) → (P → ℕ) → P → OpenerTold
opener_told rows asked faults p = record { rows = rows p; asked = asked p; faults = faults p }

-- the opener was asked once, for the database of the settings
abbrev pub IsAskedOnce : FileSettings → OpenerTold → OpenerTold → Type 0
IsAskedOnce settings old new = new.asked ≡ and_asked old.asked settings.server.database

-- its rows are as before, where they were and are told
abbrev pub KeepsRows : OpenerTold → OpenerTold → Type 0
KeepsRows old new = IfSome old.rows (λ rows. IsWhereTold rows new.rows)

-- A desk stands in the opening state of the rows that the opener told, where its keeper still tells, and of the clock's
-- first answer.
pub record IsDeskOpened (settings : FileSettings) (old new : OpenerTold) (answers after : ℕ → Option ℤ) (p : Point) : Type 0 where
  pub rules : AreSettings settings.tailnet
  pub moment : ℤ
  pub moment_told : IsWhereTold moment (option_map clamped (answers 0))
  pub rest : (k : ℕ) → after k ≡ answers (k + 1)
  pub state : p.state ≡ opening settings.tailnet p.state.rows moment
  pub whole : damage p.state.rows ≡ None
  pub rows_told : IsSome p.keeping.told → IsWhereTold p.state.rows old.rows
  pub kept : IfSome old.rows (λ rows. IsWhereTold rows p.keeping.told)
  pub asked : IsAskedOnce settings old new
  pub later : old.faults ≤ new.faults

-- Why none was opened.
abbrev pub IsDeskFault : Ended → FileSettings → OpenerTold → OpenerTold → Type 0
IsDeskFault ended.KeeperFault settings old new = KeepsRows old new × IsAskedOnce settings old new × Rose old.faults new.faults
IsDeskFault (ended.Damaged kind id) settings old new = KeepsRows old new × IsAskedOnce settings old new × IsUnopened kind id new.rows
IsDeskFault ended.NoMemory settings old new = KeepsRows old new × ((new.asked ≡ old.asked) ⊎ IsAskedOnce settings old new)
IsDeskFault (ended.Closed closing) settings old new = ⊥
IsDeskFault (ended.Settings rule key) settings old new = ⊥
IsDeskFault ended.TooLarge settings old new = ⊥
IsDeskFault ended.FileFault settings old new = ⊥
