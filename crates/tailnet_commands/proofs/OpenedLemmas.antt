-- A desk that was opened, or wasn't.
use Rattle.std.proofs.Common.{◌≡◌, ℕ, Option, List, inr, refl}
use Rattle.io_edge.specs.Edge.{Rose}
use Rattle.server_settings.specs.declared.file_settings.FileSettings.{FileSettings}
use Rattle.tailnet_desk.specs.declared.desk.OpenFault.{OpenFault}
use Rattle.tailnet_desk.specs.declared.desk.OpenFault.TheVariants as fault
use Rattle.tailnet_commands.specs.Opened.{IsAskedOnce, IsDeskFault, KeepsRows, OpenerTold}
use Rattle.tailnet_commands.specs.Outside.{Outside}
use Rattle.tailnet_commands.specs.Run.{IsFaultOf, IsUnopened, Ran, Untouched}
use Rattle.exit_status.specs.declared.ended.Ended.{Ended}
use Rattle.exit_status.specs.declared.ended.Ended.TheVariants as ended

-- a desk that didn't open
pub unopened : (f : OpenFault) (e : Ended) (settings : FileSettings) (old new : OpenerTold) → IsFaultOf f e → KeepsRows old new → IsAskedOnce settings old new → (f ≡ fault.KeeperFault → Rose old.faults new.faults)
    → ((kind : _) (id : ℕ) → f ≡ fault.Damaged kind id → IsUnopened kind id new.rows) → IsDeskFault e settings old new
unopened fault.KeeperFault e settings old new is kept asked rose damaged = rw is (kept, asked, rose refl)
unopened (fault.Damaged kind id) e settings old new is kept asked rose damaged = rw is (kept, asked, damaged kind id refl)
unopened fault.NoMemory e settings old new is kept asked rose damaged = rw is (kept, inr asked)

-- what a run's opener tells
abbrev pub opener_in : Outside → OpenerTold
opener_in o = record { rows = o.rows; asked = o.asked; faults = o.keeper_faults }

-- and nothing else was touched: the outcome of a run
pub unopened_ran : (e : Ended) (settings : FileSettings) (seed : Option (List ℕ)) (old new : Outside) → IsDeskFault e settings (opener_in old) (opener_in new) → (KeepsRows (opener_in old) (opener_in new) → Untouched old new) → Ran e settings seed old new
unopened_ran ended.KeeperFault settings seed old new (kept, asked, rose) quiet = (quiet kept, asked, rose)
unopened_ran (ended.Damaged kind id) settings seed old new (kept, asked, is) quiet = (quiet kept, asked, is)
unopened_ran ended.NoMemory settings seed old new (kept, either) quiet = (quiet kept, either)
unopened_ran (ended.Closed closing) settings seed old new bad quiet = absurd bad
unopened_ran (ended.Settings rule key) settings seed old new bad quiet = absurd bad
unopened_ran ended.TooLarge settings seed old new bad quiet = absurd bad
unopened_ran ended.FileFault settings seed old new bad quiet = absurd bad
