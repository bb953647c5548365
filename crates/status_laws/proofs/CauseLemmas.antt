-- Each status of each command has its cause.
use Rattle.std.proofs.Common.{◌≡◌, ◌⊎◌, ◌≤◌, ℕ, Bool, true, false, Option, None, Some, List, length, Result, Ok, Err, inl, inr, refl, sym, subst, arith, if◌then◌else◌}
use Rattle.std.specs.Prelude.{IfSome, IsSomeAnd}
use Rattle.io_edge.proofs.Told.{rose_earlier}
use Rattle.command_words.specs.declared.invocation.Invocation.{Invocation}
use Rattle.command_words.specs.declared.invocation.Invocation.TheVariants as asked
use Rattle.command_words.specs.declared.invocation.OperatorCall.{OperatorCall}
use Rattle.exit_status.specs.Lines.{Noted}
use Rattle.exit_status.specs.Statuses.{status_of}
use Rattle.exit_status.specs.declared.closed.Closed.{Closed}
use Rattle.exit_status.specs.declared.closed.Closed.TheVariants as closed
use Rattle.exit_status.specs.declared.ended.Ended.{Ended}
use Rattle.exit_status.specs.declared.ended.Ended.TheVariants as ended
use Rattle.exit_status.specs.declared.status.Status.{Status}
use Rattle.exit_status.specs.declared.status.Status.TheVariants as status
use Rattle.explain_commands.specs.Explained.{ExplainOutcome, Explained}
use Rattle.explain_commands.specs.declared.question.Question.{Question}
use Rattle.explain_commands.specs.declared.question.Question.TheVariants as question
use Rattle.http_client.specs.declared.answer.ServerAnswer.{ServerAnswer}
use Rattle.load_run.specs.Loads.{Loaded}
use Rattle.load_run.specs.declared.task.LoadPlan.{LoadPlan}
use Rattle.operator_commands.specs.Exchange.{Exchanged, IsAnswerRead, IsConnected, ReadNone, ReadWhole, call_bytes}
use Rattle.operator_commands.specs.Filed.{IsFileRead}
use Rattle.operator_commands.specs.Operated.{IsAskedAfter, IsEndOf, IsToldAs, Operated, ServerAsked, SinkPoint, is_success, status_unanswered}
use Rattle.operator_commands.specs.declared.unanswered.Unanswered.{Unanswered}
use Rattle.operator_commands.specs.declared.unanswered.Unanswered.TheVariants as fault
use Rattle.operator_requests.specs.Requests.{file_of}
use Rattle.policy_rows.specs.declared.fault.PolicyFault.{PolicyFault}
use Rattle.tailnet_commands.specs.Check.{Checked, verdict_of, verdict_status}
use Rattle.tailnet_commands.specs.Outside.{Outside}
use Rattle.tailnet_commands.specs.Pipe.{Outcome, Piped}
use Rattle.tailnet_commands.specs.declared.limits.TheConstants.{FILE_LIMIT}
use Rattle.tailnet_serve.specs.Serve.{ServeDone, ServeOutcome, serve_status}
use Rattle.tailnet_serve.specs.declared.serve_end.ServeEnd.{ServeEnd}
use Rattle.tailnet_serve.specs.declared.serve_end.ServeEnd.TheVariants as end
use Rattle.top_call.specs.Top.{operator_point_of}
use Rattle.status_laws.specs.Causes.{CheckCause, ExplainCause, HasRisen, HaveCauses, HasGivenAnswer, HasItsCause, IsSentTooLarge, LoadCause, OperatorCause, PipeCause, ServeCause}

-- ---- `pipe`

pipe_ended : (e : Ended) (name : List ℕ) (seed : Option (List ℕ)) (old new : Outside) → Piped e name seed old new → PipeCause (status_of e) name seed old new
pipe_ended (ended.Closed closed.End) name seed old new p = p
pipe_ended (ended.Closed closed.Early) name seed old new p = p
pipe_ended (ended.Closed closed.ReadFault) name seed old new p = inr p.talk.serves.ending.3
pipe_ended (ended.Closed closed.WriteFault) name seed old new p = p.talk.serves.ending.1
pipe_ended (ended.Closed closed.NoMemory) name seed old new p = tt
pipe_ended (ended.Settings rule key) name seed old new p = inr (rule, key, p.1)
pipe_ended ended.TooLarge name seed old new p = inl p.1
pipe_ended ended.FileFault name seed old new p = inl p.1
pipe_ended ended.KeeperFault name seed old new p = p.2
pipe_ended (ended.Damaged kind id) name seed old new p = (kind, id, p.2)
pipe_ended ended.NoMemory name seed old new p = tt

pipe_caused : (s : Status) (name : List ℕ) (seed : Option (List ℕ)) (old new : Outside) → Outcome s name seed old new → PipeCause s name seed old new
pipe_caused s name seed old new o = subst (λ (x : Status). PipeCause x name seed old new) (sym o.status_is) (pipe_ended o.ended name seed old new o.piped)

-- ---- `serve`

serve_ended : (e : ServeEnd) (name : List ℕ) (old new : Outside) → ServeDone e name old new → ServeCause (serve_status e) name old new
serve_ended (end.Unopened (ended.Closed closing)) name old new d = absurd d.0
serve_ended (end.Unopened (ended.Settings rule key)) name old new d = inr (rule, key, d.1.1)
serve_ended (end.Unopened ended.TooLarge) name old new d = inl d.1.1
serve_ended (end.Unopened ended.FileFault) name old new d = d.1.1
serve_ended (end.Unopened ended.KeeperFault) name old new d = d.1.2
serve_ended (end.Unopened (ended.Damaged kind id)) name old new d = (kind, id, d.1.2)
serve_ended (end.Unopened ended.NoMemory) name old new d = tt
serve_ended end.EntropyFault name old new d = d.ran.2
serve_ended end.DoorFault name old new d = d.ran.2
serve_ended end.NoMemory name old new d = tt
serve_ended (end.Served true starved) name old new d = d.ran.doors_rose refl
serve_ended (end.Served false true) name old new d = tt
serve_ended (end.Served false false) name old new d = (d.settings, d.settings_are, d.ran)

serve_caused : (s : Status) (name : List ℕ) (old new : Outside) → ServeOutcome s name old new → ServeCause s name old new
serve_caused s name old new o = subst (λ (x : Status). ServeCause x name old new) (sym o.status_is) (serve_ended o.ended name old new o.done)

-- ---- `explain` and `reach`

-- how an answer ended whose writing failed or not
abbrev written_as : Bool → Ended
written_as failed = ended.Closed (if failed then closed.WriteFault else closed.End)

never_closed : (c : Closed) (failed : Bool) → ended.Closed c ≡ written_as failed → (c ≡ closed.End) ⊎ ((c ≡ closed.WriteFault) × (failed ≡ true))
never_closed c true e = let same : ended.Closed c ≡ ended.Closed closed.WriteFault = e in inr (cc, refl)
never_closed c false e = let same : ended.Closed c ≡ ended.Closed closed.End = e in inl (cc)

explain_ended : (e : Ended) (question : Question) (name : List ℕ) (old new : Outside) → Explained e question name old new → ExplainCause (status_of e) question name old new
explain_ended (ended.Closed closed.End) question name old new p = p
explain_ended (ended.Closed closed.Early) question name old new p = absurd (elim (never_closed closed.Early p.written.failed p.written.ended_is) [
  | inl e ↦ cc
  | inr e ↦ let clash = e.0 in cc
])
explain_ended (ended.Closed closed.ReadFault) question name old new p = absurd (elim (never_closed closed.ReadFault p.written.failed p.written.ended_is) [
  | inl e ↦ cc
  | inr e ↦ let clash = e.0 in cc
])
explain_ended (ended.Closed closed.WriteFault) question name old new p = elim (never_closed closed.WriteFault p.written.failed p.written.ended_is) [
  | inl e ↦ absurd (cc)
  | inr e ↦ p.written.wrote.counted.rose e.1
]
explain_ended (ended.Closed closed.NoMemory) question name old new p = tt
explain_ended (ended.Settings rule key) question name old new p = inr (rule, key, p.1)
explain_ended ended.TooLarge question name old new p = inl p.1
explain_ended ended.FileFault question name old new p = p.1
explain_ended ended.KeeperFault question name old new p = p.2
explain_ended (ended.Damaged kind id) question name old new p = (kind, id, p.2)
explain_ended ended.NoMemory question name old new p = tt

explain_caused : (s : Status) (question : Question) (name : List ℕ) (old new : Outside) → ExplainOutcome s question name old new → ExplainCause s question name old new
explain_caused s question name old new o = subst (λ (x : Status). ExplainCause x question name old new) (sym o.status_is) (explain_ended o.ended question name old new o.explained)

-- ---- `policy-check`

-- the verdict of a text that is told
abbrev IsVerdict : Option (Option (List ℕ)) → Result (Unit {0}) PolicyFault → Type 0
IsVerdict file v = IfSome file (λ held. IsSomeAnd held (λ text. (length text ≤ FILE_LIMIT) × (verdict_of text ≡ v)))

passing : (file : Option (Option (List ℕ))) (v : Result (Unit {0}) PolicyFault) (failed : Bool) → IsVerdict file v → status.Ok ≡ (if failed then status.WriteFault else verdict_status v)
    → IfSome file (λ held. IsSomeAnd held (λ text. verdict_of text ≡ Ok tt))
passing file v true is e = absurd (cc)
passing file (Err fault) false is e = absurd (cc)
passing None (Ok u) false is e = tt
passing (Some None) (Ok u) false is e = is
passing (Some (Some text)) (Ok u) false is e = is.1

failing : (file : Option (Option (List ℕ))) (v : Result (Unit {0}) PolicyFault) (failed : Bool) → IsVerdict file v → status.Refused ≡ (if failed then status.WriteFault else verdict_status v)
    → IfSome file (λ held. IsSomeAnd held (λ text. (fault : PolicyFault) × (verdict_of text ≡ Err fault)))
failing file v true is e = absurd (cc)
failing file (Ok u) false is e = absurd (cc)
failing None (Err fault) false is e = tt
failing (Some None) (Err fault) false is e = is
failing (Some (Some text)) (Err fault) false is e = (fault, is.1)

unwritten : (v : Result (Unit {0}) PolicyFault) (failed : Bool) → status.WriteFault ≡ (if failed then status.WriteFault else verdict_status v) → failed ≡ true
unwritten v true e = refl
unwritten (Ok u) false e = absurd (cc)
unwritten (Err fault) false e = absurd (cc)

check_caused : (s : Status) (name : List ℕ) (old new : Outside)
    → Checked s (old.files name) old.file_faults new.file_faults old.told.giving.held new.told.giving.held old.told.giving.write_faults new.told.giving.write_faults → CheckCause s name old new
check_caused status.Ok name old new j = passing (old.files name) j.verdict j.failed j.verdict_is j.status_is
check_caused status.Early name old new j = j
check_caused status.Usage name old new j = j
check_caused status.Settings name old new j = j.0
check_caused status.ReadFault name old new j = j.0
check_caused status.WriteFault name old new j = j.wrote.counted.rose (unwritten j.verdict j.failed j.status_is)
check_caused status.KeeperFault name old new j = j
check_caused status.Damaged name old new j = j
check_caused status.NoMemory name old new j = tt
check_caused status.DoorFault name old new j = j
check_caused status.Refused name old new j = failing (old.files name) j.verdict j.failed j.verdict_is j.status_is
check_caused status.EntropyFault name old new j = j

-- ---- `load`

failed_load : (failed : Bool) → status.WriteFault ≡ (if failed then status.WriteFault else status.Ok) → failed ≡ true
failed_load true e = refl
failed_load false e = absurd (cc)

load_caused : (s : Status) (plan : LoadPlan) (old new : Outside)
    → Loaded plan s old.told.giving.held new.told.giving.held old.told.giving.write_faults new.told.giving.write_faults → LoadCause s plan old new
load_caused status.Ok plan old new l = (l.final, l.load)
load_caused status.Early plan old new l = l.1
load_caused status.Usage plan old new l = l
load_caused status.Settings plan old new l = l
load_caused status.ReadFault plan old new l = l
load_caused status.WriteFault plan old new l = l.wrote.counted.rose (failed_load l.failed l.status_is)
load_caused status.KeeperFault plan old new l = l
load_caused status.Damaged plan old new l = l
load_caused status.NoMemory plan old new l = tt
load_caused status.DoorFault plan old new l = l
load_caused status.Refused plan old new l = l
load_caused status.EntropyFault plan old new l = l

-- ---- operators' commands

-- why there was no answer to a command that sends this file, or none
abbrev WhyUnanswered : Unanswered → Option (List ℕ) → Outside → Outside → Type 0
WhyUnanswered fault.FileFault named old new = HasRisen (λ c. c.files) old new
WhyUnanswered fault.TooLarge named old new = IsSentTooLarge named old
WhyUnanswered fault.ReadFault named old new = HasRisen (λ c. c.link_reads) old new ⊎ ReadNone old.link.left new.link.left
WhyUnanswered fault.WriteFault named old new = HasRisen (λ c. c.link_writes) old new
WhyUnanswered fault.NoMemory named old new = Unit {0}

unfiled : (named : Option (List ℕ)) (why : Unanswered) (old new : Outside) → IsFileRead named old.files old.file_faults new.file_faults (Err why) → WhyUnanswered why named old new
unfiled None why old new filed = absurd filed
unfiled (Some name) fault.FileFault old new filed = filed
unfiled (Some name) fault.TooLarge old new filed = filed
unfiled (Some name) fault.ReadFault old new filed = absurd filed
unfiled (Some name) fault.WriteFault old new filed = absurd filed
unfiled (Some name) fault.NoMemory old new filed = tt

unconnected : (named : Option (List ℕ)) (why : Unanswered) (address : List ℕ) (old new : Outside) → IsConnected address (operator_point_of old).link (operator_point_of new).link (Err why) → WhyUnanswered why named old new
unconnected named fault.FileFault address old new met = absurd met
unconnected named fault.TooLarge address old new met = absurd met
unconnected named fault.ReadFault address old new met = inl met.1
unconnected named fault.WriteFault address old new met = absurd met
unconnected named fault.NoMemory address old new met = tt

unread : (named : Option (List ℕ)) (why : Unanswered) (old new : Outside) → IsAnswerRead old.link.left new.link.left old.link.read_faults new.link.read_faults (Err why) → WhyUnanswered why named old new
unread named fault.FileFault old new read = absurd read
unread named fault.TooLarge old new read = absurd read
unread named fault.ReadFault old new read = read
unread named fault.WriteFault old new read = absurd read
unread named fault.NoMemory old new read = tt

unexchanged : (named : Option (List ℕ)) (why : Unanswered) (address bytes : List ℕ) (old new : Outside)
    → Exchanged address bytes (operator_point_of old).link (operator_point_of new).link (Err why) → WhyUnanswered why named old new
unexchanged named why address bytes old new (inl u) =
    let same : why ≡ u.why = (let e = u.answer_is in cc) in
    subst (λ (w : Unanswered). WhyUnanswered w named old new) (sym same) (unconnected named u.why address old new u.connect)
unexchanged named why address bytes old new (inr (inl u)) =
    let same : why ≡ fault.WriteFault = (let e = u.answer_is in cc) in
    subst (λ (w : Unanswered). WhyUnanswered w named old new) (sym same) (u.wrote.counted.rose refl)
unexchanged named why address bytes old new (inr (inr r)) = unread named why old new r.read

unasked : (file : Result (List ℕ) Unanswered) (why : Unanswered) (call : OperatorCall) (old new : Outside) → IsFileRead (file_of call.command) old.files old.file_faults new.file_faults file
    → IsAskedAfter call file (operator_point_of old).link (operator_point_of new).link (Err why) → WhyUnanswered why (file_of call.command) old new
unasked (Err other) why call old new filed asked =
    let same : why ≡ other = (let e = asked.0 in cc) in
    subst (λ (w : Unanswered). WhyUnanswered w (file_of call.command) old new) (sym same) (unfiled (file_of call.command) other old new filed)
unasked (Ok bytes) why call old new filed (inl none) =
    let same : why ≡ fault.NoMemory = (let e = none.0 in cc) in
    subst (λ (w : Unanswered). WhyUnanswered w (file_of call.command) old new) (sym same) tt
unasked (Ok bytes) why call old new filed (inr x) = unexchanged (file_of call.command) why call.server (call_bytes call bytes) old new x

-- an answer was read whole
pub answer_whole : (file : Result (List ℕ) Unanswered) (answer : ServerAnswer) (call : OperatorCall) (old new : Outside)
    → IsAskedAfter call file (operator_point_of old).link (operator_point_of new).link (Ok answer) → ReadWhole old.link.left new.link.left answer
answer_whole (Err other) answer call old new asked = absurd (let e = asked.0 in cc)
answer_whole (Ok bytes) answer call old new (inl none) = absurd (let e = none.0 in cc)
answer_whole (Ok bytes) answer call old new (inr (inl u)) = absurd (let e = u.answer_is in cc)
answer_whole (Ok bytes) answer call old new (inr (inr (inl u))) = absurd (let e = u.answer_is in cc)
answer_whole (Ok bytes) answer call old new (inr (inr (inr r))) = r.read

noted_later : (line : List ℕ) (made : Bool) (old new : Option (List ℕ)) (before now : ℕ) → Noted line made old new before now → before ≤ now
noted_later line made old new before now n = elim n.wrote [
  | inl w ↦ w.1.counted.later
  | inr kept ↦ omega (arith, kept.2)
]

good_end : (failed : Bool) (call : OperatorCall) (old new : Outside) → (failed ≡ true → HasRisen (λ c. c.output) old new) → HasGivenAnswer true old new
    → OperatorCause (if failed then status.WriteFault else status.Ok) call old new
good_end true call old new rose is = inr (inl (rose refl))
good_end false call old new rose is = is

bad_end : (failed : Bool) (call : OperatorCall) (old new : Outside) → (failed ≡ true → HasRisen (λ c. c.errors) old new) → HasGivenAnswer false old new
    → OperatorCause (if failed then status.WriteFault else status.Refused) call old new
bad_end true call old new rose is = inr (inr (rose refl))
bad_end false call old new rose is = is

answered_caused : (success : Bool) (body : List ℕ) (s : Status) (call : OperatorCall) (old new : Outside) (told : SinkPoint)
    → IsToldAs success body s (operator_point_of old).output (operator_point_of new).output (operator_point_of old).errors told → told.faults ≤ new.error_faults → HasGivenAnswer success old new
    → OperatorCause s call old new
answered_caused true body s call old new told t later is =
    subst (λ (x : Status). OperatorCause x call old new) (sym t.status_is) (good_end t.failed call old new t.wrote.counted.rose is)
answered_caused false body s call old new told t later is =
    subst (λ (x : Status). OperatorCause x call old new) (sym t.status_is) (
    bad_end t.failed call old new (λ failed. rose_earlier old.error_faults told.faults new.error_faults (t.wrote.counted.rose failed) later) is
    )

unanswered_caused : (why : Unanswered) (call : OperatorCall) (old new : Outside) → WhyUnanswered why (file_of call.command) old new → OperatorCause (status_unanswered why) call old new
unanswered_caused fault.FileFault call old new is = inl is
unanswered_caused fault.TooLarge call old new is = is
unanswered_caused fault.ReadFault call old new is = inr is
unanswered_caused fault.WriteFault call old new is = inl is
unanswered_caused fault.NoMemory call old new is = tt

operator_ended : (answer : Result ServerAnswer Unanswered) (s : Status) (call : OperatorCall) (old new : Outside) (told : SinkPoint)
    → ServerAsked call old.files old.file_faults new.file_faults (operator_point_of old).link (operator_point_of new).link answer
    → IsEndOf answer s (operator_point_of old).output (operator_point_of new).output (operator_point_of old).errors told → told.faults ≤ new.error_faults → OperatorCause s call old new
operator_ended (Ok answer) s call old new told asked is later =
    answered_caused (is_success answer.status) answer.body s call old new told is later (answer, answer_whole asked.file answer call old new asked.asked, refl)
operator_ended (Err why) s call old new told asked is later =
    subst (λ (x : Status). OperatorCause x call old new) (sym is.0) (unanswered_caused why call old new (unasked asked.file why call old new asked.filed asked.asked))

operator_caused : (s : Status) (call : OperatorCall) (old new : Outside) → Operated call s (operator_point_of old) (operator_point_of new) → OperatorCause s call old new
operator_caused s call old new o = operator_ended o.answer s call old new o.told o.asked o.is (noted_later _ _ _ _ _ _ o.noted)

-- ---- all words

starved : (words : Option Invocation) (old new : Outside) → HasItsCause words status.NoMemory old new
starved None old new = tt
starved (Some (asked.Pipe settings seed)) old new = tt
starved (Some (asked.Serve settings)) old new = tt
starved (Some (asked.PolicyCheck file)) old new = tt
starved (Some (asked.Load machines events)) old new = tt
starved (Some (asked.Explain settings flow)) old new = tt
starved (Some (asked.Reach settings)) old new = tt
starved (Some (asked.Operator call)) old new = tt

pub have_causes : HaveCauses
have_causes words s old new (inl wordless) = subst (λ (x : Status). HasItsCause words x old new) (sym wordless.0) (starved words old new)
have_causes None s old new (inr done) = subst (λ (x : Status). HasItsCause None x old new) (sym done.0) tt
have_causes (Some (asked.Pipe settings seed)) s old new (inr done) = pipe_caused s settings seed old new done
have_causes (Some (asked.Serve settings)) s old new (inr done) = serve_caused s settings old new done
have_causes (Some (asked.PolicyCheck file)) s old new (inr done) = check_caused s file old new done.1
have_causes (Some (asked.Load machines events)) s old new (inr done) = load_caused s (record { machines = machines; events = events }) old new done.3
have_causes (Some (asked.Explain settings flow)) s old new (inr done) = explain_caused s (question.Flow flow) settings old new done
have_causes (Some (asked.Reach settings)) s old new (inr done) = explain_caused s question.Reaches settings old new done
have_causes (Some (asked.Operator call)) s old new (inr done) = operator_caused s call old new done.1
