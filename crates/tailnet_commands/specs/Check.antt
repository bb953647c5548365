-- What the command `policy-check` results in.
use Rattle.std.specs.Prelude.{◌≡◌, ◌≤◌, ℕ, Bool, Option, List, [], ◌++◌, length, codes, Result, Ok, Err, IfSome, IsSomeAnd, if◌then◌else◌}
use Rattle.io_edge.specs.Edge.{Rose}
use Rattle.policy_doc.specs.Document.{policy_of_text}
use Rattle.tail_base.specs.Steps.{◌>>=◌}
use Rattle.policy_rows.specs.Faults.{fault_text}
use Rattle.policy_rows.specs.declared.fault.PolicyFault.{PolicyFault}
use Rattle.policy_tests.specs.Tests.{tested}
use Rattle.exit_status.specs.Pieces.{Wrote}
use Rattle.tailnet_commands.specs.Pipe.{IsTooLarge}
use Rattle.tailnet_commands.specs.declared.limits.TheConstants.{FILE_LIMIT}
use Rattle.exit_status.specs.declared.status.Status.{Status}
use Rattle.exit_status.specs.declared.status.Status.TheVariants as status

-- the verdict on a text: it is a policy that passes its tests over no machines, or else its first fault
unfoldable pub verdict_of : List ℕ → Result (Unit {0}) PolicyFault
verdict_of text = do
  policy ← policy_of_text text
  tested policy []

-- the line of a verdict
abbrev pub verdict_line : Result (Unit {0}) PolicyFault → List ℕ
verdict_line (Ok sound) = codes "ok\n"
verdict_line (Err fault) = fault_text fault ++ codes "\n"

-- the status of a verdict
abbrev pub verdict_status : Result (Unit {0}) PolicyFault → Status
verdict_status (Ok sound) = status.Ok
verdict_status (Err fault) = status.Refused

-- The file has at most 1 MiB and a verdict, where it is told, and its line was written, or, where a write failed, a front of it.
pub record Judged (ended : Status) (file : Option (Option (List ℕ))) (old new : Option (List ℕ)) (before now : ℕ) : Type 0 where
  pub verdict : Result (Unit {0}) PolicyFault
  pub verdict_is : IfSome file (λ held. IsSomeAnd held (λ text. (length text ≤ FILE_LIMIT) × (verdict_of text ≡ verdict)))
  pub failed : Bool
  pub wrote : Wrote old new before now (verdict_line verdict) failed
  pub status_is : ended ≡ (if failed then status.WriteFault else verdict_status verdict)

-- a line was written, or, where a write failed, a front of it; the status is the line's or that of the fault
pub record Said (line : List ℕ) (whole ended : Status) (old new : Option (List ℕ)) (before now : ℕ) : Type 0 where
  pub failed : Bool
  pub wrote : Wrote old new before now line failed
  pub status_is : ended ≡ (if failed then status.WriteFault else whole)

-- nothing was written
abbrev pub IsUnwritten : Option (List ℕ) → Option (List ℕ) → ℕ → ℕ → Type 0
IsUnwritten old new before now = (new ≡ old) × (now ≡ before)

-- what a status says, with the file and the files' count, and the output and its count
abbrev pub Checked : Status → Option (Option (List ℕ)) → ℕ → ℕ → Option (List ℕ) → Option (List ℕ) → ℕ → ℕ → Type 0
Checked status.Ok file faults faults_after old new before now = Judged status.Ok file old new before now
Checked status.Refused file faults faults_after old new before now = Judged status.Refused file old new before now
Checked status.WriteFault file faults faults_after old new before now = Judged status.WriteFault file old new before now
Checked status.Settings file faults faults_after old new before now = IsTooLarge file × IsUnwritten old new before now
Checked status.ReadFault file faults faults_after old new before now = Rose faults faults_after × IsUnwritten old new before now
Checked status.NoMemory file faults faults_after old new before now = IsUnwritten old new before now
Checked status.Early file faults faults_after old new before now = ⊥
Checked status.Usage file faults faults_after old new before now = ⊥
Checked status.KeeperFault file faults faults_after old new before now = ⊥
Checked status.Damaged file faults faults_after old new before now = ⊥
Checked status.DoorFault file faults faults_after old new before now = ⊥
Checked status.EntropyFault file faults faults_after old new before now = ⊥

-- the line of a status on errors
abbrev pub check_line : Status → List ℕ
check_line status.WriteFault = codes "tailnetd: write fault\n"
check_line status.Settings = codes "tailnetd: file too large\n"
check_line status.ReadFault = codes "tailnetd: read fault\n"
check_line status.NoMemory = codes "tailnetd: no memory\n"
check_line status.Ok = []
check_line status.Early = []
check_line status.Usage = []
check_line status.KeeperFault = []
check_line status.Damaged = []
check_line status.DoorFault = []
check_line status.Refused = []
check_line status.EntropyFault = []
