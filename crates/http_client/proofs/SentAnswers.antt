-- What the server writes is read back.
use Rattle.std.proofs.Common.{◌≡◌, ℕ, ◌<◌, ◌≤◌, Bool, List, [], ◌++◌, length, Option, Some, None, refl, sym, ap, subst, ◌∙◌, append-nil, append_assoc, arith}
use Rattle.std.proofs.lemmas.Fmt.{decimal_is_IsNumeral}
use Rattle.httparse.specs.Grammar.{print_response}
use Rattle.io_edge.specs.Edge.{IsWhereTold, and_then_left}
use Rattle.http_front.specs.AnswerBytes.{answer}
use Rattle.http_client.specs.declared.answer.TakenAnswer.{TakenAnswer}
use Rattle.http_client.specs.declared.answer.TakenAnswer.TheVariants as taken
use Rattle.http_client.specs.Answers.{IsBadAnswer, IsPartOfAnswer, IsWholeAnswer, answer_limit, sent_answer}
use Rattle.http_client.specs.Taking.{IsThatAnswer, TakesAnswer}
use Rattle.http_client.proofs.SentHeads.{sent_fits, sent_head, sent_is, sent_length, sent_reads}
use Rattle.http_client.proofs.AnswerLaws.{bad_stays, whole_once, whole_or_bad, whole_or_part, whole_stays}

pub sent_whole : (status : ℕ) (body rest : List ℕ) (close : Bool) → 100 ≤ status → status < 1000 → length body ≤ answer_limit
    → IsWholeAnswer (answer status body close ++ rest) (sent_answer status body) rest
unfolding answer
sent_whole status body rest close low high short =
    let h = sent_head status (length body) close in
    let head = print_response h in
    let is = sent_is status (length body) close in
    record {
      head = h;
      has = record {
        reads = (
          sent_reads status (length body) close low high short,
          ap (λ b. (b ++ body) ++ rest) (sym is) ∙ append_assoc head body rest,
        );
        fits = sent_fits status (length body) close low high short;
      };
      length_is = sent_length status (length body) close short;
      status_is = sym (decimal_is_IsNumeral status (omega arith)).1;
    }

-- what was read is the front of what was there
front_read : (all read : List ℕ) (left : Option (List ℕ)) → Some all ≡ and_then_left read left → (more : List ℕ) × (left ≡ Some more) × (read ++ more ≡ all)
front_read all read None e = absurd (cc)
front_read all read (Some more) e = (more, refl, cc)

pub comes_back : (status : ℕ) (body rest held : List ℕ) (close : Bool) (left : Option (List ℕ)) (got : TakenAnswer) → 100 ≤ status → status < 1000 → length body ≤ answer_limit
    → TakesAnswer (Some (answer status body close ++ rest)) left [] held got → IsThatAnswer (sent_answer status body) got
comes_back status body rest held close left (taken.Answer a) low high short t =
    let front = front_read (answer status body close ++ rest) t.read left t.moved in
    let more = whole_stays t.read held front.0 a t.answers in
    let there = subst (λ b. IsWholeAnswer b a (held ++ front.0)) front.2 more in
    (whole_once (answer status body close ++ rest) (held ++ front.0) rest a (sent_answer status body) there (sent_whole status body rest close low high short)).0
comes_back status body rest held close left taken.Cut low high short t =
    let front = front_read (answer status body close ++ rest) t.read left t.moved in
    let none : [] ≡ front.0 = subst (IsWhereTold []) front.1 t.answers.2 in
    let same : t.read ≡ answer status body close ++ rest = sym (append-nil t.read) ∙ ap (λ m. t.read ++ m) none ∙ front.2 in
    whole_or_part (answer status body close ++ rest) rest (sent_answer status body) (sent_whole status body rest close low high short) (subst IsPartOfAnswer same t.answers.0)
comes_back status body rest held close left taken.Bad low high short t =
    let front = front_read (answer status body close ++ rest) t.read left t.moved in
    whole_or_bad (answer status body close ++ rest) rest (sent_answer status body) (sent_whole status body rest close low high short)
    (subst IsBadAnswer front.2 (bad_stays t.read front.0 t.answers.0))
comes_back status body rest held close left taken.ReadFault low high short t = tt
comes_back status body rest held close left taken.NoMemory low high short t = tt
