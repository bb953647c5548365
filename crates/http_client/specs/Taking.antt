-- What one call takes out of a source and a buffer.
use Rattle.std.specs.Prelude.{◌≡◌, ℕ, ◌+◌, ◌<◌, ◌≤◌, List, [], ◌++◌, length, take, drop, map, Option, Some}
use Rattle.httparse.specs.Grammar.{ResponseHead, status_code}
use Rattle.httparse.specs.Spans.{header_bytes}
use Rattle.httparse.specs.declared.spans.HeaderSpan.{HeaderSpan}
use Rattle.httparse.specs.declared.spans.ResponseSpans.{ResponseSpans}
use Rattle.http_front.specs.Requests.{head_limit}
use Rattle.io_edge.specs.Edge.{IsWhereTold, and_then_left}
use Rattle.http_client.specs.Answers.{AnswerHead, HasAnswerHead, IsBadAnswer, IsPartOfAnswer, IsWholeAnswer, answer_head_of, answer_length, answer_limit}
use Rattle.http_client.specs.declared.answer.ServerAnswer.{ServerAnswer}
use Rattle.http_client.specs.declared.answer.TakenAnswer.{TakenAnswer}
use Rattle.http_client.specs.declared.answer.TakenAnswer.TheVariants as taken
use Rattle.http_client.specs.declared.looking.AnswerLook.{AnswerLook}
use Rattle.http_client.specs.declared.looking.AnswerLook.TheVariants as look
use Rattle.http_client.specs.declared.stepping.AnswerStep.{AnswerStep}
use Rattle.http_client.specs.declared.stepping.AnswerStep.TheVariants as step

-- what the answer says of the bytes held and read, of those that are held after it, and of what the source has left
abbrev pub AnswersBytes : List ℕ → List ℕ → Option (List ℕ) → TakenAnswer → Type 0
AnswersBytes bytes held left (taken.Answer answer) = IsWholeAnswer bytes answer held
AnswersBytes bytes held left taken.Cut = IsPartOfAnswer bytes × (held ≡ bytes) × IsWhereTold [] left
AnswersBytes bytes held left taken.Bad = IsBadAnswer bytes × (held ≡ bytes)
AnswersBytes bytes held left taken.ReadFault = IsPartOfAnswer bytes × (held ≡ bytes)
AnswersBytes bytes held left taken.NoMemory = held ≡ bytes

-- these bytes were read behind those held, and the answer is about both
pub record TakesAnswer (left left_after : Option (List ℕ)) (held held_after : List ℕ) (answer : TakenAnswer) : Type 0 where
  pub read : List ℕ
  pub moved : left ≡ and_then_left read left_after
  pub answers : AnswersBytes (held ++ read) held_after left_after answer

-- the answer is that one, unless the source failed or memory ran out
abbrev pub IsThatAnswer : ServerAnswer → TakenAnswer → Type 0
IsThatAnswer sent (taken.Answer answer) = answer ≡ sent
IsThatAnswer sent taken.Cut = ⊥
IsThatAnswer sent taken.Bad = ⊥
IsThatAnswer sent taken.ReadFault = Unit {0}
IsThatAnswer sent taken.NoMemory = Unit {0}

-- ---- within a call

-- the head that the parser's spans show
abbrev pub spanned_answer : List ℕ → List HeaderSpan → ResponseSpans → AnswerHead
spanned_answer buffer headers r = record { minor = r.version; lines = map (header_bytes buffer) (take r.headers headers) }

-- one byte more than the longest answer that isn't whole: 16 KiB, 16 MiB and 1
abbrev pub answer_most : ℕ
answer_most = head_limit + answer_limit + 1

-- the spans are those of a head whose body is of that size, and all of it is there
pub record IsSpannedAnswer (bytes : List ℕ) (r : ResponseSpans) (size : ℕ) : Type 0 where
  pub head : ResponseHead
  pub has : HasAnswerHead bytes head (drop r.len bytes)
  pub length_is : answer_length (answer_head_of head) ≡ Some size
  pub code : r.code ≡ status_code head
  pub there : r.len + size ≤ length bytes

-- what the look says of the bytes
abbrev pub IsAnswerLook : List ℕ → AnswerLook → Type 0
IsAnswerLook bytes (look.Whole r size) = IsSpannedAnswer bytes r size
IsAnswerLook bytes look.More = IsPartOfAnswer bytes × (length bytes < answer_most)
IsAnswerLook bytes look.Bad = IsBadAnswer bytes

-- what one look at the bytes held does with them
abbrev pub IsAnswerStep : List ℕ → List ℕ → AnswerStep → Type 0
IsAnswerStep held after (step.Answer answer) = IsWholeAnswer held answer after
IsAnswerStep held after step.More = (after ≡ held) × IsPartOfAnswer held × (length held < answer_most)
IsAnswerStep held after step.Bad = (after ≡ held) × IsBadAnswer held
IsAnswerStep held after step.NoMemory = after ≡ held
