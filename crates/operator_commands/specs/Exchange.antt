-- One request over a link, and its answer.
use Rattle.std.specs.Prelude.{◌≡◌, ◌⊎◌, ◌≤◌, ℕ, Bool, false, true, Option, List, [], Result, Ok, Err}
use Rattle.io_edge.specs.Linked.{LinkTold}
use Rattle.io_edge.specs.Asked.{and_asked}
use Rattle.io_edge.specs.Edge.{IsWhereTold, Rose, and_held, and_then_left}
use Rattle.command_words.specs.declared.invocation.OperatorCall.{OperatorCall}
use Rattle.http_client.specs.Answers.{IsBadAnswer, IsPartOfAnswer, IsWholeAnswer}
use Rattle.http_client.specs.Asks.{ask_of}
use Rattle.http_client.specs.declared.answer.ServerAnswer.{ServerAnswer}
use Rattle.operator_commands.specs.declared.unanswered.Unanswered.{Unanswered}
use Rattle.operator_commands.specs.declared.unanswered.Unanswered.TheVariants as fault
use Rattle.operator_requests.specs.Requests.{command_request, method_name}
use Rattle.operator_requests.specs.declared.request.OperatorRequest.{OperatorRequest}
use Rattle.exit_status.specs.Pieces.{Wrote}

-- the bytes of a request with a token
abbrev pub request_bytes : List ℕ → OperatorRequest → List ℕ
request_bytes token r = ask_of (method_name r.method) r.path token r.body

-- the bytes that a command sends, with those of its file, if it has one
unfoldable pub call_bytes : OperatorCall → List ℕ → List ℕ
call_bytes call file = request_bytes call.token (command_request call.command file)

-- the link was asked for the address; what is left and what was written stay, and no count fell
pub record Met (address : List ℕ) (old new : LinkTold) : Type 0 where
  pub asked : new.asked ≡ and_asked old.asked address
  pub left : new.left ≡ old.left
  pub holds : new.holds ≡ old.holds
  pub reads_later : old.read_faults ≤ new.read_faults
  pub writes_later : old.write_faults ≤ new.write_faults

-- the link was asked for nothing; what is left and what was written stay
pub record Unmet (old new : LinkTold) : Type 0 where
  pub asked : new.asked ≡ old.asked
  pub left : new.left ≡ old.left
  pub holds : new.holds ≡ old.holds

-- the outcome of a connect
abbrev pub IsConnected : List ℕ → LinkTold → LinkTold → Result (Unit {0}) Unanswered → Type 0
IsConnected address old new (Ok done) = Met address old new
IsConnected address old new (Err fault.ReadFault) = Met address old new × Rose old.read_faults new.read_faults
IsConnected address old new (Err fault.NoMemory) = Unmet old new
IsConnected address old new (Err fault.WriteFault) = ⊥
IsConnected address old new (Err fault.FileFault) = ⊥
IsConnected address old new (Err fault.TooLarge) = ⊥

-- the bytes were written behind what was written before, or a front of them where a write failed; nothing was asked or read
pub record RequestWritten (bytes : List ℕ) (failed : Bool) (old new : LinkTold) : Type 0 where
  pub asked : new.asked ≡ old.asked
  pub left : new.left ≡ old.left
  pub read_faults : new.read_faults ≡ old.read_faults
  pub wrote : Wrote old.holds new.holds old.write_faults new.write_faults bytes failed

-- the outcome of writing a request
abbrev pub IsRequestSent : List ℕ → LinkTold → LinkTold → Result (Unit {0}) Unanswered → Type 0
IsRequestSent bytes old new (Ok done) = RequestWritten bytes false old new
IsRequestSent bytes old new (Err fault.WriteFault) = RequestWritten bytes true old new
IsRequestSent bytes old new (Err fault.ReadFault) = ⊥
IsRequestSent bytes old new (Err fault.NoMemory) = ⊥
IsRequestSent bytes old new (Err fault.FileFault) = ⊥
IsRequestSent bytes old new (Err fault.TooLarge) = ⊥

-- one whole answer was read
pub record ReadWhole (left left_after : Option (List ℕ)) (answer : ServerAnswer) : Type 0 where
  pub read : List ℕ
  pub behind : List ℕ
  pub moved : left ≡ and_then_left read left_after
  pub whole : IsWholeAnswer read answer behind

-- what was read is no answer, or less than one and the end of the input
pub record ReadNone (left left_after : Option (List ℕ)) : Type 0 where
  pub read : List ℕ
  pub moved : left ≡ and_then_left read left_after
  pub none : (IsPartOfAnswer read × IsWhereTold [] left_after) ⊎ IsBadAnswer read

-- the outcome of reading an answer
abbrev pub IsAnswerRead : Option (List ℕ) → Option (List ℕ) → ℕ → ℕ → Result ServerAnswer Unanswered → Type 0
IsAnswerRead left left_after faults faults_after (Ok answer) = ReadWhole left left_after answer
IsAnswerRead left left_after faults faults_after (Err fault.ReadFault) = Rose faults faults_after ⊎ ReadNone left left_after
IsAnswerRead left left_after faults faults_after (Err fault.NoMemory) = Unit {0}
IsAnswerRead left left_after faults faults_after (Err fault.WriteFault) = ⊥
IsAnswerRead left left_after faults faults_after (Err fault.FileFault) = ⊥
IsAnswerRead left left_after faults faults_after (Err fault.TooLarge) = ⊥

-- the link wasn't connected
pub record Unconnected (address : List ℕ) (old new : LinkTold) (answer : Result ServerAnswer Unanswered) : Type 0 where
  pub why : Unanswered
  pub connect : IsConnected address old new (Err why)
  pub answer_is : answer ≡ Err why

-- it was asked for the address, and a write failed: it holds a front of the bytes behind what it held, and nothing was read
pub record Unwritten (address bytes : List ℕ) (old new : LinkTold) (answer : Result ServerAnswer Unanswered) : Type 0 where
  pub asked : new.asked ≡ and_asked old.asked address
  pub left : new.left ≡ old.left
  pub wrote : Wrote old.holds new.holds old.write_faults new.write_faults bytes true
  pub answer_is : answer ≡ Err fault.WriteFault

-- it was asked for the address alone, holds the bytes behind what it held, and of what was left an answer was read, or none was
pub record Replied (address bytes : List ℕ) (old new : LinkTold) (answer : Result ServerAnswer Unanswered) : Type 0 where
  pub asked : new.asked ≡ and_asked old.asked address
  pub holds : new.holds ≡ and_held old.holds bytes
  pub read : IsAnswerRead old.left new.left old.read_faults new.read_faults answer

-- what became of a request
abbrev pub Exchanged : List ℕ → List ℕ → LinkTold → LinkTold → Result ServerAnswer Unanswered → Type 0
Exchanged address bytes old new answer =
    Unconnected address old new answer ⊎ (Unwritten address bytes old new answer ⊎ Replied address bytes old new answer)
