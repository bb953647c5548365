-- When a command can't but end well. `pipe`, `serve`, `explain` and `reach` have laws of their own, beside them.
use Rattle.std.specs.Prelude.{◌≡◌, ◌≤◌, ◌⊎◌, ℕ, Option, None, Some, List, length, if◌then◌else◌}
use Rattle.command_words.specs.declared.invocation.Invocation.TheVariants as asked
use Rattle.command_words.specs.declared.invocation.OperatorCall.{OperatorCall}
use Rattle.exit_status.specs.declared.status.Status.{Status}
use Rattle.exit_status.specs.declared.status.Status.TheVariants as status
use Rattle.http_client.specs.Answers.{IsWholeAnswer}
use Rattle.http_client.specs.declared.answer.ServerAnswer.{ServerAnswer}
use Rattle.operator_commands.specs.Operated.{is_success}
use Rattle.operator_commands.specs.declared.filing.TheConstants.{SENT_LIMIT}
use Rattle.operator_requests.specs.Requests.{file_of}
use Rattle.tailnet_commands.specs.Check.{verdict_of, verdict_status}
use Rattle.tailnet_commands.specs.Outside.{Outside}
use Rattle.tailnet_commands.specs.declared.limits.TheConstants.{FILE_LIMIT}
use Rattle.top_call.specs.Top.{Top}
use Rattle.status_laws.specs.Causes.{HasRisen}

-- a run ended with this status, or for lack of memory
abbrev pub EndsWith : Status → Status → Type 0
EndsWith wanted s = (s ≡ wanted) ⊎ (s ≡ status.NoMemory)

-- The file of a policy is there and small enough, and neither reading it nor writing failed.
pub record IsCheckable (name : List ℕ) (old new : Outside) : Type 0 where
  pub text : List ℕ
  pub file_is : old.files name ≡ Some (Some text)
  pub small : length text ≤ FILE_LIMIT
  pub no_file_fault : HasRisen (λ c. c.files) old new → ⊥
  pub no_write_fault : HasRisen (λ c. c.output) old new → ⊥

-- Then `policy-check` ends with the status of the verdict.
abbrev pub IsCheckingComplete : Type 0
IsCheckingComplete = (name : List ℕ) (s : Status) (old new : Outside) → Top (Some (asked.PolicyCheck name)) s old new
    → (clear : IsCheckable name old new) → EndsWith (verdict_status (verdict_of clear.text)) s

-- Where no write failed, `load` ends with status 0, or with 1 if a request's connection ended early.
abbrev pub IsLoadingComplete : Type 0
IsLoadingComplete = (machines events : ℕ) (s : Status) (old new : Outside) → Top (Some (asked.Load machines events)) s old new
    → (HasRisen (λ c. c.output) old new → ⊥) → EndsWith status.Ok s ⊎ (s ≡ status.Early)

-- a file that a command sends, if it sends one, is there and small enough
abbrev pub IsSendable : Option (List ℕ) → Outside → Type 0
IsSendable None old = Unit {0}
IsSendable (Some name) old = (bytes : List ℕ) × (old.files name ≡ Some (Some bytes)) × (length bytes ≤ SENT_LIMIT)

-- What an operator's command sends can be read, the link has a whole answer, and neither reading nor writing failed.
pub record IsAnswerable (call : OperatorCall) (old new : Outside) : Type 0 where
  pub sendable : IsSendable (file_of call.command) old
  pub left : List ℕ
  pub left_is : old.link.left ≡ Some left
  pub answer : ServerAnswer
  pub behind : List ℕ
  pub whole : IsWholeAnswer left answer behind
  pub no_file_fault : HasRisen (λ c. c.files) old new → ⊥
  pub no_read_fault : HasRisen (λ c. c.link_reads) old new → ⊥
  pub no_write_fault : HasRisen (λ c. c.link_writes) old new → ⊥
  pub no_output_fault : HasRisen (λ c. c.output) old new → ⊥
  pub no_errors_fault : HasRisen (λ c. c.errors) old new → ⊥

-- Then it ends with status 0 where the answer is 2xx, and else with 10.
abbrev pub IsOperatingComplete : Type 0
IsOperatingComplete = (call : OperatorCall) (s : Status) (old new : Outside) → Top (Some (asked.Operator call)) s old new
    → (clear : IsAnswerable call old new) → EndsWith (if is_success clear.answer.status then status.Ok else status.Refused) s
