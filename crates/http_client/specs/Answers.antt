-- The answer that a byte string begins with (RFC 9112, sections 2 to 6).
use Rattle.std.specs.Prelude.{◌≡◌, ℕ, ◌<◌, ◌≤◌, ◌⊎◌, List, [], ◌∷◌, ◌++◌, length, take, map, ◌==◌, nat_le, if◌then◌else◌, Option, Some, None, codes}
use Rattle.httparse.specs.Grammar.{ResponseHead, print_response, status_code, ReadsResponse, HasNoResponse, MayBecomeResponse}
use Rattle.httparse.specs.Spans.{name_and_value}
use Rattle.http_front.specs.Lines.{FieldLine, length_value, values_of}
use Rattle.http_front.specs.Requests.{head_limit}
use Rattle.http_client.specs.declared.answer.ServerAnswer.{ServerAnswer}
use Rattle.http_client.specs.declared.head.TheConstants.{ANSWER_LIMIT}

-- a version, and the field lines below the status line, without the white space and the line ends
pub record AnswerHead : Type 0 where
  pub minor : ℕ
  pub lines : List FieldLine

-- what a head of the grammar states
abbrev pub answer_head_of : ResponseHead → AnswerHead
answer_head_of h = record { minor = h.minor; lines = map name_and_value h.fields }

-- the most bytes that the body of an answer may have: 16 MiB
abbrev pub answer_limit : ℕ
answer_limit = ANSWER_LIMIT

-- the number, if a body may be so long
abbrev pub within_limit : Option ℕ → Option ℕ
within_limit None = None
within_limit (Some n) = if nat_le n answer_limit then Some n else None

-- the length that the one value states; no value, or more than one, state none
abbrev pub only_length : List (List ℕ) → Option ℕ
only_length [] = None
only_length (v ∷ []) = within_limit (length_value v)
only_length (v ∷ w ∷ vs) = None

-- the length of the body, if the version is 1.1 and exactly one `Content-Length` line states one
unfoldable pub answer_length : AnswerHead → Option ℕ
answer_length h = if h.minor == 1 then only_length (values_of (codes "Content-Length") h.lines) else None

-- ---- the front of a byte string

-- the bytes are a whole head within the limit, and then rest
pub record HasAnswerHead (bytes : List ℕ) (h : ResponseHead) (rest : List ℕ) : Type 0 where
  pub reads : ReadsResponse bytes h rest
  pub fits : length (print_response h) ≤ head_limit

-- the bytes begin a head and hold no whole one
pub record BeginsAnswer (bytes : List ℕ) : Type 0 where
  pub begins : MayBecomeResponse bytes
  pub none : HasNoResponse bytes

-- the bytes are a whole answer within the limits, and then rest
pub record IsWholeAnswer (bytes : List ℕ) (answer : ServerAnswer) (rest : List ℕ) : Type 0 where
  pub head : ResponseHead
  pub has : HasAnswerHead bytes head (answer.body ++ rest)
  pub length_is : answer_length (answer_head_of head) ≡ Some (length answer.body)
  pub status_is : answer.status ≡ status_code head

-- the bytes are a head that states its body's length, and less than that body
pub record LacksAnswerBody (bytes : List ℕ) : Type 0 where
  pub head : ResponseHead
  pub rest : List ℕ
  pub has : HasAnswerHead bytes head rest
  pub size : ℕ
  pub length_is : answer_length (answer_head_of head) ≡ Some size
  pub short : length rest < size

-- no whole answer yet, and what came may still become one
abbrev pub IsPartOfAnswer : List ℕ → Type 0
IsPartOfAnswer bytes = ((length bytes ≤ head_limit) × BeginsAnswer bytes) ⊎ LacksAnswerBody bytes

-- the bytes have a head that states no length for its body, or another version
pub record IsRefusedAnswer (bytes : List ℕ) : Type 0 where
  pub head : ResponseHead
  pub rest : List ℕ
  pub has : HasAnswerHead bytes head rest
  pub length_is : answer_length (answer_head_of head) ≡ None

-- no head ends within the limit: there are more bytes than that, or they begin none
pub record HasNoAnswerHead (bytes : List ℕ) : Type 0 where
  pub none : HasNoResponse (take head_limit bytes)
  pub past : (head_limit < length bytes) ⊎ (MayBecomeResponse (take head_limit bytes) → ⊥)

-- the bytes are no answer, and become none
abbrev pub IsBadAnswer : List ℕ → Type 0
IsBadAnswer bytes = IsRefusedAnswer bytes ⊎ HasNoAnswerHead bytes

-- a status and a body as they were sent
abbrev pub sent_answer : ℕ → List ℕ → ServerAnswer
sent_answer status body = record { status = status; body = body }
