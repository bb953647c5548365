-- What an answer is told as, and the outcome of a command.
use Rattle.std.specs.Prelude.{◌≡◌, ◌⊎◌, ℕ, Bool, false, true, Option, List, [], ◌∷◌, ◌++◌, codes, if◌then◌else◌, nat_le, ◌&&◌, Result, Ok, Err}
use Rattle.command_words.specs.declared.invocation.OperatorCall.{OperatorCall}
use Rattle.http_client.specs.declared.answer.ServerAnswer.{ServerAnswer}
use Rattle.io_edge.specs.Linked.{LinkTold, link_told}
use Rattle.operator_commands.specs.Exchange.{Exchanged, call_bytes}
use Rattle.operator_commands.specs.Filed.{IsFileRead}
use Rattle.operator_commands.specs.declared.unanswered.Unanswered.{Unanswered}
use Rattle.operator_commands.specs.declared.unanswered.Unanswered.TheVariants as fault
use Rattle.operator_requests.specs.Requests.{file_of}
use Rattle.exit_status.specs.Lines.{Noted}
use Rattle.exit_status.specs.Pieces.{Wrote}
use Rattle.exit_status.specs.declared.status.Status.{Status}
use Rattle.exit_status.specs.declared.status.Status.TheVariants as status

-- what a sink tells at a moment
pub record SinkPoint : Type 0 where
  pub holds : Option (List ℕ)
  pub faults : ℕ

abbrev pub sink_point : {S : Type 0} → (S → Option (List ℕ)) → (S → ℕ) → S → SinkPoint
sink_point holds faults s = record { holds = holds s; faults = faults s }

-- ---- the request

-- what follows a file that was read or not: without it nothing is asked
abbrev pub IsAskedAfter : OperatorCall → Result (List ℕ) Unanswered → LinkTold → LinkTold → Result ServerAnswer Unanswered → Type 0
IsAskedAfter call (Err why) old new answer = (answer ≡ Err why) × (new ≡ old)
IsAskedAfter call (Ok file) old new answer =
    ((answer ≡ Err fault.NoMemory) × (new ≡ old)) ⊎ Exchanged call.server (call_bytes call file) old new answer

-- A command first reads its file, if it has one, and then asks its server.
pub record ServerAsked (call : OperatorCall) (files : List ℕ → Option (Option (List ℕ))) (faults faults_after : ℕ) (old new : LinkTold)
    (answer : Result ServerAnswer Unanswered) : Type 0 where
  pub file : Result (List ℕ) Unanswered
  pub filed : IsFileRead (file_of call.command) files faults faults_after file
  pub asked : IsAskedAfter call file old new answer

-- ---- the answer

-- a status is 2xx
abbrev pub is_success : ℕ → Bool
is_success n = nat_le 200 n && nat_le n 299

-- a body and a line feed
abbrev pub told_line : List ℕ → List ℕ
told_line body = body ++ (10 ∷ [])

-- the line went onto a sink, or a front of it where a write failed; the other sink is as it was
pub record ToldOn (line : List ℕ) (whole ended : Status) (old new other other_after : SinkPoint) : Type 0 where
  pub failed : Bool
  pub wrote : Wrote old.holds new.holds old.faults new.faults line failed
  pub status_is : ended ≡ (if failed then status.WriteFault else whole)
  pub same : other_after ≡ other

-- a body and a line feed are on the output where all went well, else on errors
abbrev pub IsToldAs : Bool → List ℕ → Status → SinkPoint → SinkPoint → SinkPoint → SinkPoint → Type 0
IsToldAs true body ended output output_after errors errors_after = ToldOn (told_line body) status.Ok ended output output_after errors errors_after
IsToldAs false body ended output output_after errors errors_after = ToldOn (told_line body) status.Refused ended errors errors_after output output_after

-- an answer's body is on the output where its status is 2xx, else on errors
abbrev pub IsTold : ServerAnswer → Status → SinkPoint → SinkPoint → SinkPoint → SinkPoint → Type 0
IsTold answer ended output output_after errors errors_after = IsToldAs (is_success answer.status) answer.body ended output output_after errors errors_after

-- the status of a command that got no answer
abbrev pub status_unanswered : Unanswered → Status
status_unanswered fault.FileFault = status.ReadFault
status_unanswered fault.TooLarge = status.Settings
status_unanswered fault.ReadFault = status.ReadFault
status_unanswered fault.WriteFault = status.WriteFault
status_unanswered fault.NoMemory = status.NoMemory

-- an answer is told; without one nothing is written
abbrev pub IsEndOf : Result ServerAnswer Unanswered → Status → SinkPoint → SinkPoint → SinkPoint → SinkPoint → Type 0
IsEndOf (Ok answer) ended output output_after errors errors_after = IsTold answer ended output output_after errors errors_after
IsEndOf (Err why) ended output output_after errors errors_after =
    (ended ≡ status_unanswered why) × (output_after ≡ output) × (errors_after ≡ errors)

-- the line of a status on errors
abbrev pub command_line : Status → List ℕ
command_line status.WriteFault = codes "tailnetd: write fault\n"
command_line status.Settings = codes "tailnetd: file too large\n"
command_line status.ReadFault = codes "tailnetd: read fault\n"
command_line status.NoMemory = codes "tailnetd: no memory\n"
command_line status.Ok = []
command_line status.Early = []
command_line status.Usage = []
command_line status.KeeperFault = []
command_line status.Damaged = []
command_line status.DoorFault = []
command_line status.Refused = []
command_line status.EntropyFault = []

-- ---- the whole of it

-- what a command's outside tells at a moment
pub record OperatorPoint : Type 0 where
  pub files : List ℕ → Option (Option (List ℕ))
  pub file_faults : ℕ
  pub output : SinkPoint
  pub errors : SinkPoint
  pub link : LinkTold

abbrev pub operator_point : {F O E L : Type 0} → (F → List ℕ → Option (Option (List ℕ))) → (F → ℕ) → (O → Option (List ℕ)) → (O → ℕ) → (E → Option (List ℕ)) → (E → ℕ)
    → (L → Option (List ℕ)) → (L → ℕ) → (L → Option (List ℕ)) → (L → ℕ) → (L → Option (List (List ℕ))) → F → O → E → L → OperatorPoint
operator_point files file_faults output output_faults errors error_faults left read_faults holds write_faults asked f o e l = record {
  files = files f;
  file_faults = file_faults f;
  output = sink_point output output_faults o;
  errors = sink_point errors error_faults e;
  link = link_told left read_faults holds write_faults asked l;
}

-- One request was sent and its answer told, or why not; then the line of the status went to errors, which stood at `told` before it.
pub record Operated (call : OperatorCall) (ended : Status) (old new : OperatorPoint) : Type 0 where
  pub answer : Result ServerAnswer Unanswered
  pub asked : ServerAsked call old.files old.file_faults new.file_faults old.link new.link answer
  pub told : SinkPoint
  pub is : IsEndOf answer ended old.output new.output old.errors told
  pub noted : Noted (command_line ended) false told.holds new.errors.holds told.faults new.errors.faults
