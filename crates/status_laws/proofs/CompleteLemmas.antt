-- Commands in whose way nothing stands end well.
use Rattle.std.proofs.Common.{◌≡◌, ◌⊎◌, ◌≤◌, ℕ, Bool, true, false, Option, None, Some, List, [], ◌++◌, length, Result, inl, inr, refl, sym, ap, ◌∙◌, subst, arith, if◌then◌else◌, append-nil}
use Rattle.std.specs.Prelude.{IfSome, IsSomeAnd}
use Rattle.command_words.specs.declared.invocation.Invocation.TheVariants as asked
use Rattle.command_words.specs.declared.invocation.OperatorCall.{OperatorCall}
use Rattle.exit_status.specs.declared.status.Status.{Status}
use Rattle.exit_status.specs.declared.status.Status.TheVariants as status
use Rattle.http_client.specs.Answers.{IsBadAnswer, IsPartOfAnswer, IsWholeAnswer}
use Rattle.http_client.specs.declared.answer.ServerAnswer.{ServerAnswer}
use Rattle.http_client.proofs.AnswerLaws.{bad_stays, whole_once, whole_or_bad, whole_or_part, whole_stays}
use Rattle.operator_commands.specs.Exchange.{ReadNone, ReadWhole}
use Rattle.operator_commands.specs.Operated.{is_success}
use Rattle.operator_requests.specs.Requests.{file_of}
use Rattle.policy_rows.specs.declared.fault.PolicyFault.{PolicyFault}
use Rattle.tailnet_commands.specs.Check.{Checked, verdict_of, verdict_status}
use Rattle.tailnet_commands.specs.Outside.{Outside}
use Rattle.tailnet_commands.specs.declared.limits.TheConstants.{FILE_LIMIT}
use Rattle.tailnet_commands.proofs.CompleteLemmas.{rest_of}
use Rattle.status_laws.specs.Causes.{HasRisen, IsSentTooLarge, LoadCause, OperatorCause}
use Rattle.status_laws.specs.Complete.{EndsWith, IsAnswerable, IsCheckable, IsCheckingComplete, IsLoadingComplete, IsOperatingComplete, IsSendable}
use Rattle.status_laws.proofs.CauseLemmas.{have_causes}

-- ---- `policy-check`

-- the verdict of a text that is told is that text's
told_verdict : (file : Option (Option (List ℕ))) (text : List ℕ) (v : Result (Unit {0}) PolicyFault) → file ≡ Some (Some text)
    → IfSome file (λ held. IsSomeAnd held (λ text. (length text ≤ FILE_LIMIT) × (verdict_of text ≡ v))) → verdict_of text ≡ v
told_verdict file text v e is = (rw e at is).1

judged_status : (failed : Bool) (v : Result (Unit {0}) PolicyFault) (s : Status) → s ≡ (if failed then status.WriteFault else verdict_status v) → (failed ≡ true → ⊥) → s ≡ verdict_status v
judged_status true v s e never = absurd (never refl)
judged_status false v s e never = e

check_ends : (s : Status) (name : List ℕ) (old new : Outside)
    → Checked s (old.files name) old.file_faults new.file_faults old.told.giving.held new.told.giving.held old.told.giving.write_faults new.told.giving.write_faults
    → (clear : IsCheckable name old new) → EndsWith (verdict_status (verdict_of clear.text)) s
check_ends status.Ok name old new j c =
    inl (judged_status j.failed j.verdict status.Ok j.status_is (λ f. c.no_write_fault (j.wrote.counted.rose f)) ∙ ap verdict_status (sym (told_verdict (old.files name) c.text j.verdict c.file_is j.verdict_is)))
check_ends status.Early name old new j c = absurd j
check_ends status.Usage name old new j c = absurd j
check_ends status.Settings name old new j c = absurd (let large = rw c.file_is at j.0 in omega (arith, large, c.small))
check_ends status.ReadFault name old new j c = absurd (c.no_file_fault j.0)
check_ends status.WriteFault name old new j c =
    inl (judged_status j.failed j.verdict status.WriteFault j.status_is (λ f. c.no_write_fault (j.wrote.counted.rose f)) ∙ ap verdict_status (sym (told_verdict (old.files name) c.text j.verdict c.file_is j.verdict_is)))
check_ends status.KeeperFault name old new j c = absurd j
check_ends status.Damaged name old new j c = absurd j
check_ends status.NoMemory name old new j c = inr refl
check_ends status.DoorFault name old new j c = absurd j
check_ends status.Refused name old new j c =
    inl (judged_status j.failed j.verdict status.Refused j.status_is (λ f. c.no_write_fault (j.wrote.counted.rose f)) ∙ ap verdict_status (sym (told_verdict (old.files name) c.text j.verdict c.file_is j.verdict_is)))
check_ends status.EntropyFault name old new j c = absurd j

pub checking_complete : IsCheckingComplete
checking_complete name s old new (inl wordless) c = inr wordless.0
checking_complete name s old new (inr done) c = check_ends s name old new done.1 c

-- ---- `load`

load_ends : (machines events : ℕ) (s : Status) (old new : Outside) → LoadCause s (record { machines = machines; events = events }) old new
    → (HasRisen (λ c. c.output) old new → ⊥) → EndsWith status.Ok s ⊎ (s ≡ status.Early)
load_ends machines events status.Ok old new cause never = inl (inl refl)
load_ends machines events status.Early old new cause never = inr refl
load_ends machines events status.Usage old new cause never = absurd cause
load_ends machines events status.Settings old new cause never = absurd cause
load_ends machines events status.ReadFault old new cause never = absurd cause
load_ends machines events status.WriteFault old new cause never = absurd (never cause)
load_ends machines events status.KeeperFault old new cause never = absurd cause
load_ends machines events status.Damaged old new cause never = absurd cause
load_ends machines events status.NoMemory old new cause never = inl (inr refl)
load_ends machines events status.DoorFault old new cause never = absurd cause
load_ends machines events status.Refused old new cause never = absurd cause
load_ends machines events status.EntropyFault old new cause never = absurd cause

pub loading_complete : IsLoadingComplete
loading_complete machines events s old new top never = load_ends machines events s old new (have_causes (Some (asked.Load machines events)) s old new top) never

-- ---- operators' commands

-- a link that has a whole answer gave that one
same_answer : (old new : Outside) (left behind : List ℕ) (answer other : ServerAnswer) → old.link.left ≡ Some left → IsWholeAnswer left answer behind → ReadWhole old.link.left new.link.left other → answer ≡ other
same_answer old new left behind answer other is whole r =
    let rest = rest_of old.link.left new.link.left r.read left r.moved is in
    (whole_once left behind (r.behind ++ rest.0) answer other whole (subst (λ (b : List ℕ). IsWholeAnswer b other (r.behind ++ rest.0)) (sym rest.2) (whole_stays r.read r.behind rest.0 other r.whole))).0

-- and never none
some_answer : (old new : Outside) (left behind : List ℕ) (answer : ServerAnswer) → old.link.left ≡ Some left → IsWholeAnswer left answer behind → ReadNone old.link.left new.link.left → ⊥
some_answer old new left behind answer is whole r =
    let rest = rest_of old.link.left new.link.left r.read left r.moved is in
    elim r.none [
      | inl part ↦
          let nothing : [] ≡ rest.0 = rw rest.1 at part.1 in
          let all : left ≡ r.read = rest.2 ∙ ap (λ (l : List ℕ). r.read ++ l) (sym nothing) ∙ append-nil r.read in
          whole_or_part left behind answer whole (subst IsPartOfAnswer (sym all) part.0)
      | inr bad ↦ whole_or_bad left behind answer whole (subst IsBadAnswer (sym rest.2) (bad_stays r.read rest.0 bad))
    ]

sent_small : (named : Option (List ℕ)) (old : Outside) → IsSendable named old → IsSentTooLarge named old → ⊥
sent_small None old ready large = large
sent_small (Some name) old ready large = let long = rw ready.1 at large in let short = ready.2 in omega arith

operator_ends : (s : Status) (call : OperatorCall) (old new : Outside) → OperatorCause s call old new → (clear : IsAnswerable call old new) → EndsWith (if is_success clear.answer.status then status.Ok else status.Refused) s
operator_ends status.Ok call old new cause c =
    inl (sym (ap (λ (b : Bool). if b then status.Ok else status.Refused) (ap (λ (a : ServerAnswer). is_success a.status) (same_answer old new c.left c.behind c.answer cause.0 c.left_is c.whole cause.1) ∙ cause.2)))
operator_ends status.Early call old new cause c = absurd cause
operator_ends status.Usage call old new cause c = absurd cause
operator_ends status.Settings call old new cause c = absurd (sent_small (file_of call.command) old c.sendable cause)
operator_ends status.ReadFault call old new (inl cause) c = absurd (c.no_file_fault cause)
operator_ends status.ReadFault call old new (inr (inl cause)) c = absurd (c.no_read_fault cause)
operator_ends status.ReadFault call old new (inr (inr cause)) c = absurd (some_answer old new c.left c.behind c.answer c.left_is c.whole cause)
operator_ends status.WriteFault call old new (inl cause) c = absurd (c.no_write_fault cause)
operator_ends status.WriteFault call old new (inr (inl cause)) c = absurd (c.no_output_fault cause)
operator_ends status.WriteFault call old new (inr (inr cause)) c = absurd (c.no_errors_fault cause)
operator_ends status.KeeperFault call old new cause c = absurd cause
operator_ends status.Damaged call old new cause c = absurd cause
operator_ends status.NoMemory call old new cause c = inr refl
operator_ends status.DoorFault call old new cause c = absurd cause
operator_ends status.Refused call old new cause c =
    inl (sym (ap (λ (b : Bool). if b then status.Ok else status.Refused) (ap (λ (a : ServerAnswer). is_success a.status) (same_answer old new c.left c.behind c.answer cause.0 c.left_is c.whole cause.1) ∙ cause.2)))
operator_ends status.EntropyFault call old new cause c = absurd cause

pub operating_complete : IsOperatingComplete
operating_complete call s old new top c = operator_ends s call old new (have_causes (Some (asked.Operator call)) s old new top) c
