-- The statuses of the program and their causes, command by command.
use Rattle.std.specs.Prelude.{◌≡◌, ◌⊎◌, ◌<◌, ℕ, Bool, true, false, Option, None, Some, List, length, Ok, Err, IfSome, IsSomeAnd}
use Rattle.io_edge.specs.Edge.{Rose}
use Rattle.net_rows.specs.declared.change.Kind.{Kind}
use Rattle.tail_words.specs.declared.fault.SettingsRule.{SettingsRule}
use Rattle.server_settings.specs.declared.file_settings.FileSettings.{FileSettings}
use Rattle.command_words.specs.declared.invocation.Invocation.{Invocation}
use Rattle.command_words.specs.declared.invocation.Invocation.TheVariants as asked
use Rattle.command_words.specs.declared.invocation.OperatorCall.{OperatorCall}
use Rattle.exit_status.specs.declared.closed.Closed.TheVariants as closed
use Rattle.exit_status.specs.declared.status.Status.{Status}
use Rattle.exit_status.specs.declared.status.Status.TheVariants as status
use Rattle.tailnet_commands.specs.Check.{verdict_of}
use Rattle.tailnet_commands.specs.Outside.{Outside}
use Rattle.tailnet_commands.specs.Pipe.{AreSettingsOf, IsFaulty, IsTooLarge, Served}
use Rattle.tailnet_commands.specs.Run.{IsUnopened}
use Rattle.tailnet_serve.specs.Service.{Service}
use Rattle.explain_commands.specs.Explained.{IsExplained}
use Rattle.explain_commands.specs.declared.question.Question.{Question}
use Rattle.explain_commands.specs.declared.question.Question.TheVariants as question
use Rattle.load_run.specs.Loads.{IsLoad, IsLoadEarly}
use Rattle.load_run.specs.Steps.{Stand}
use Rattle.load_run.specs.declared.task.LoadPlan.{LoadPlan}
use Rattle.operator_commands.specs.Exchange.{ReadNone, ReadWhole}
use Rattle.operator_commands.specs.Operated.{is_success}
use Rattle.operator_commands.specs.declared.filing.TheConstants.{SENT_LIMIT}
use Rattle.operator_requests.specs.Requests.{file_of}
use Rattle.http_client.specs.declared.answer.ServerAnswer.{ServerAnswer}
use Rattle.policy_rows.specs.declared.fault.PolicyFault.{PolicyFault}
use Rattle.top_call.specs.Top.{Top}

-- The counts of faults of all that a run may touch.
pub record FaultCounts : Type 0 where
  pub input : ℕ
  pub output : ℕ
  pub errors : ℕ
  pub files : ℕ
  pub keeper : ℕ
  pub random : ℕ
  pub doors : ℕ
  pub link_reads : ℕ
  pub link_writes : ℕ

abbrev pub counts_of : Outside → FaultCounts
counts_of o = record {
  input = o.told.read_faults;
  output = o.told.giving.write_faults;
  errors = o.error_faults;
  files = o.file_faults;
  keeper = o.keeper_faults;
  random = o.told.giving.word_faults;
  doors = o.doors.faults;
  link_reads = o.link.read_faults;
  link_writes = o.link.write_faults;
}

-- one count of all rose
abbrev pub HasRisen : (FaultCounts → ℕ) → Outside → Outside → Type 0
HasRisen count old new = Rose (count (counts_of old)) (count (counts_of new))

-- ---- files of settings, and tables

-- the file of settings is larger than may be, or breaks a rule, this one first
abbrev pub HasNoSettings : List ℕ → Outside → Type 0
HasNoSettings name old = IsTooLarge (old.files name) ⊎ ((rule : SettingsRule) × (key : List ℕ) × IsFaulty rule key (old.files name))

-- the rows, where they are told, are damaged
abbrev pub HasDamage : Outside → Type 0
HasDamage new = (kind : Kind) × (id : ℕ) × IsUnopened kind id new.rows

-- ---- the commands

-- words that are no command
abbrev pub WordsCause : Status → Type 0
WordsCause status.Ok = ⊥
WordsCause status.Early = ⊥
WordsCause status.Usage = Unit {0}
WordsCause status.Settings = ⊥
WordsCause status.ReadFault = ⊥
WordsCause status.WriteFault = ⊥
WordsCause status.KeeperFault = ⊥
WordsCause status.Damaged = ⊥
WordsCause status.NoMemory = Unit {0}
WordsCause status.DoorFault = ⊥
WordsCause status.Refused = ⊥
WordsCause status.EntropyFault = ⊥

-- `pipe`: its connection came to its end, or was ended early by the input's end or a refusal; or what failed
abbrev pub PipeCause : Status → List ℕ → Option (List ℕ) → Outside → Outside → Type 0
PipeCause status.Ok name seed old new = Served closed.End name seed old new
PipeCause status.Early name seed old new = Served closed.Early name seed old new
PipeCause status.Usage name seed old new = ⊥
PipeCause status.Settings name seed old new = HasNoSettings name old
PipeCause status.ReadFault name seed old new = HasRisen (λ c. c.files) old new ⊎ HasRisen (λ c. c.input) old new
PipeCause status.WriteFault name seed old new = HasRisen (λ c. c.output) old new
PipeCause status.KeeperFault name seed old new = HasRisen (λ c. c.keeper) old new
PipeCause status.Damaged name seed old new = HasDamage new
PipeCause status.NoMemory name seed old new = Unit {0}
PipeCause status.DoorFault name seed old new = ⊥
PipeCause status.Refused name seed old new = ⊥
PipeCause status.EntropyFault name seed old new = ⊥

-- `serve`: each worker came to its end; or what failed
abbrev pub ServeCause : Status → List ℕ → Outside → Outside → Type 0
ServeCause status.Ok name old new = (settings : FileSettings) × AreSettingsOf (old.files name) settings × Service false false settings old new
ServeCause status.Early name old new = ⊥
ServeCause status.Usage name old new = ⊥
ServeCause status.Settings name old new = HasNoSettings name old
ServeCause status.ReadFault name old new = HasRisen (λ c. c.files) old new
ServeCause status.WriteFault name old new = ⊥
ServeCause status.KeeperFault name old new = HasRisen (λ c. c.keeper) old new
ServeCause status.Damaged name old new = HasDamage new
ServeCause status.NoMemory name old new = Unit {0}
ServeCause status.DoorFault name old new = HasRisen (λ c. c.doors) old new
ServeCause status.Refused name old new = ⊥
ServeCause status.EntropyFault name old new = HasRisen (λ c. c.random) old new

-- `explain` and `reach`: the answer was written whole; or what failed
abbrev pub ExplainCause : Status → Question → List ℕ → Outside → Outside → Type 0
ExplainCause status.Ok question name old new = IsExplained closed.End question name old new
ExplainCause status.Early question name old new = ⊥
ExplainCause status.Usage question name old new = ⊥
ExplainCause status.Settings question name old new = HasNoSettings name old
ExplainCause status.ReadFault question name old new = HasRisen (λ c. c.files) old new
ExplainCause status.WriteFault question name old new = HasRisen (λ c. c.output) old new
ExplainCause status.KeeperFault question name old new = HasRisen (λ c. c.keeper) old new
ExplainCause status.Damaged question name old new = HasDamage new
ExplainCause status.NoMemory question name old new = Unit {0}
ExplainCause status.DoorFault question name old new = ⊥
ExplainCause status.Refused question name old new = ⊥
ExplainCause status.EntropyFault question name old new = ⊥

-- the file's text, where it is told, is a policy that passes its tests
abbrev pub IsPassing : List ℕ → Outside → Type 0
IsPassing name old = IfSome (old.files name) (λ held. IsSomeAnd held (λ text. verdict_of text ≡ Ok tt))

-- the file's text, where it is told, has a fault
abbrev pub IsFailing : List ℕ → Outside → Type 0
IsFailing name old = IfSome (old.files name) (λ held. IsSomeAnd held (λ text. (fault : PolicyFault) × (verdict_of text ≡ Err fault)))

-- `policy-check`: its verdict; or what failed
abbrev pub CheckCause : Status → List ℕ → Outside → Outside → Type 0
CheckCause status.Ok name old new = IsPassing name old
CheckCause status.Early name old new = ⊥
CheckCause status.Usage name old new = ⊥
CheckCause status.Settings name old new = IsTooLarge (old.files name)
CheckCause status.ReadFault name old new = HasRisen (λ c. c.files) old new
CheckCause status.WriteFault name old new = HasRisen (λ c. c.output) old new
CheckCause status.KeeperFault name old new = ⊥
CheckCause status.Damaged name old new = ⊥
CheckCause status.NoMemory name old new = Unit {0}
CheckCause status.DoorFault name old new = ⊥
CheckCause status.Refused name old new = IsFailing name old
CheckCause status.EntropyFault name old new = ⊥

-- `load`: the load came to its end, or a request's connection ended early; or what failed
abbrev pub LoadCause : Status → LoadPlan → Outside → Outside → Type 0
LoadCause status.Ok plan old new = (final : Stand) × IsLoad plan final
LoadCause status.Early plan old new = IsLoadEarly plan
LoadCause status.Usage plan old new = ⊥
LoadCause status.Settings plan old new = ⊥
LoadCause status.ReadFault plan old new = ⊥
LoadCause status.WriteFault plan old new = HasRisen (λ c. c.output) old new
LoadCause status.KeeperFault plan old new = ⊥
LoadCause status.Damaged plan old new = ⊥
LoadCause status.NoMemory plan old new = Unit {0}
LoadCause status.DoorFault plan old new = ⊥
LoadCause status.Refused plan old new = ⊥
LoadCause status.EntropyFault plan old new = ⊥

-- the answer that the link gave has such a success
abbrev pub HasGivenAnswer : Bool → Outside → Outside → Type 0
HasGivenAnswer success old new = (answer : ServerAnswer) × ReadWhole old.link.left new.link.left answer × (is_success answer.status ≡ success)

-- a file that a command sends is larger than may be sent
abbrev pub IsSentTooLarge : Option (List ℕ) → Outside → Type 0
IsSentTooLarge None old = ⊥
IsSentTooLarge (Some name) old = IfSome (old.files name) (λ file. IsSomeAnd file (λ bytes. SENT_LIMIT < length bytes))

-- an operator's command: its answer is 2xx, or any other; or what failed, or the link's bytes are cut or no answer
abbrev pub OperatorCause : Status → OperatorCall → Outside → Outside → Type 0
OperatorCause status.Ok call old new = HasGivenAnswer true old new
OperatorCause status.Early call old new = ⊥
OperatorCause status.Usage call old new = ⊥
OperatorCause status.Settings call old new = IsSentTooLarge (file_of call.command) old
OperatorCause status.ReadFault call old new =
    HasRisen (λ c. c.files) old new ⊎ (HasRisen (λ c. c.link_reads) old new ⊎ ReadNone old.link.left new.link.left)
OperatorCause status.WriteFault call old new =
    HasRisen (λ c. c.link_writes) old new ⊎ (HasRisen (λ c. c.output) old new ⊎ HasRisen (λ c. c.errors) old new)
OperatorCause status.KeeperFault call old new = ⊥
OperatorCause status.Damaged call old new = ⊥
OperatorCause status.NoMemory call old new = Unit {0}
OperatorCause status.DoorFault call old new = ⊥
OperatorCause status.Refused call old new = HasGivenAnswer false old new
OperatorCause status.EntropyFault call old new = ⊥

-- What a status of the program says of its cause. Want of memory is free everywhere.
abbrev pub HasItsCause : Option Invocation → Status → Outside → Outside → Type 0
HasItsCause None s old new = WordsCause s
HasItsCause (Some (asked.Pipe settings seed)) s old new = PipeCause s settings seed old new
HasItsCause (Some (asked.Serve settings)) s old new = ServeCause s settings old new
HasItsCause (Some (asked.PolicyCheck file)) s old new = CheckCause s file old new
HasItsCause (Some (asked.Load machines events)) s old new = LoadCause s (record { machines = machines; events = events }) old new
HasItsCause (Some (asked.Explain settings flow)) s old new = ExplainCause s (question.Flow flow) settings old new
HasItsCause (Some (asked.Reach settings)) s old new = ExplainCause s question.Reaches settings old new
HasItsCause (Some (asked.Operator call)) s old new = OperatorCause s call old new

-- Each status comes by its cause.
abbrev pub HaveCauses : Type 0
HaveCauses = (words : Option Invocation) (s : Status) (old new : Outside) → Top words s old new → HasItsCause words s old new
