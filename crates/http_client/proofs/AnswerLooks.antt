-- What one look at the bytes held says of them.
use Rattle.std.proofs.Common.{◌≡◌, ◌≢◌, ℕ, ◌+◌, ◌-◌, ◌<◌, ◌≤◌, List, ◌++◌, length, take, drop, Option, None, Some, refl, sym, ap, ◌∙◌, subst, arith, inl, inr, length-drop}
use Rattle.std.proofs.lemmas.List.{take-append-drop, take_all, length-take, drop-drop}
use Rattle.httparse.specs.Grammar.{ResponseHead, HasNoResponse, NeverHasResponse, MayBecomeResponse}
use Rattle.httparse.specs.Spans.{IsResponseWithin, IsResponseOf, ResponseExceeds}
use Rattle.httparse.specs.declared.spans.HeaderSpan.{HeaderSpan}
use Rattle.httparse.specs.declared.spans.ResponseSpans.{ResponseSpans}
use Rattle.httparse.specs.declared.Error.{Error}
use Rattle.httparse.specs.declared.Error.TheVariants as error
use Rattle.http_front.specs.Requests.{head_limit}
use Rattle.http_front.proofs.Looks.{Front}
use Rattle.http_client.specs.Answers.{HasAnswerHead, IsBadAnswer, IsPartOfAnswer, IsWholeAnswer, answer_head_of, answer_length}
use Rattle.http_client.specs.Taking.{IsSpannedAnswer, answer_most, spanned_answer}
use Rattle.http_client.specs.declared.answer.ServerAnswer.{ServerAnswer}
use Rattle.http_client.proofs.AnswerHeads.{enough_room, has_answer_head, length_small, never_begins, never_none, spanned_answer_is}

-- a head that the parser found in the front
pub record Found (bytes : List ℕ) (headers : List HeaderSpan) (r : ResponseSpans) : Type 0 where
  pub head : ResponseHead
  pub has : HasAnswerHead bytes head (drop r.len bytes)
  pub code : r.code ≡ Rattle.httparse.specs.Grammar.status_code head
  pub states : answer_length (spanned_answer (take head_limit bytes) headers r) ≡ answer_length (answer_head_of head)
  pub fits : r.len ≤ length bytes
  pub small : r.len ≤ head_limit

found : (bytes : List ℕ) (headers : List HeaderSpan) (r : ResponseSpans) → IsResponseWithin (take head_limit bytes) headers r → IsResponseOf (take head_limit bytes) headers r → Found bytes headers r
found bytes headers r within x =
    let short : length (take head_limit bytes) ≤ head_limit = omega (arith, length-take head_limit bytes) in
    let whole = take-append-drop head_limit bytes in
    let len_fits = within.section.len_fits in
    record {
      head = x.0;
      has = subst (λ b. HasAnswerHead b x.0 (drop r.len b)) whole (has_answer_head (take head_limit bytes) (drop head_limit bytes) headers r x.0 within x.1 short);
      code = x.1.code;
      states = ap answer_length (spanned_answer_is (take head_limit bytes) headers r x.0 x.1);
      fits = omega (arith, length-take head_limit bytes);
      small = omega arith;
    }

pub found_at : (bytes front : List ℕ) (headers : List HeaderSpan) (r : ResponseSpans) → Front bytes front → IsResponseWithin front headers r → IsResponseOf front headers r → Found bytes headers r
found_at bytes front headers r f within x =
    found bytes headers r (subst (λ b. IsResponseWithin b headers r) f.is within) (subst (λ b. IsResponseOf b headers r) f.is x)

-- the length that the code found is the one that the head states
stated : (bytes front : List ℕ) (headers : List HeaderSpan) (r : ResponseSpans) (size : Option ℕ) → Front bytes front → (x : Found bytes headers r)
    → size ≡ answer_length (spanned_answer front headers r) → answer_length (answer_head_of x.head) ≡ size
stated bytes front headers r size f x e = sym x.states ∙ ap (λ b. answer_length (spanned_answer b headers r)) (sym f.is) ∙ sym e

pub whole_at : (bytes front : List ℕ) (headers : List HeaderSpan) (r : ResponseSpans) (size : ℕ) → Front bytes front → Found bytes headers r
    → Some size ≡ answer_length (spanned_answer front headers r) → size ≤ length bytes - r.len → IsSpannedAnswer bytes r size
whole_at bytes front headers r size f x e there =
    let fits = x.fits in
    record {
      head = x.head;
      has = x.has;
      length_is = stated bytes front headers r (Some size) f x e;
      code = x.code;
      there = omega arith;
    }

pub part_at : (bytes front : List ℕ) (headers : List HeaderSpan) (r : ResponseSpans) (size : ℕ) → Front bytes front → Found bytes headers r
    → Some size ≡ answer_length (spanned_answer front headers r) → length bytes - r.len < size → IsPartOfAnswer bytes × (length bytes < answer_most)
part_at bytes front headers r size f x e lacking =
    let is = stated bytes front headers r (Some size) f x e in
    let small = length_small (answer_head_of x.head) size is in
    let fits = x.fits in
    let head_small = x.small in
    let below : length (drop r.len bytes) < size = omega (arith, length-drop r.len bytes) in (
      inr (record {
        head = x.head;
        rest = drop r.len bytes;
        has = x.has;
        size = size;
        length_is = is;
        short = below;
      }),
      omega arith,
    )

pub refused_at : (bytes front : List ℕ) (headers : List HeaderSpan) (r : ResponseSpans) → Front bytes front → Found bytes headers r
    → None ≡ answer_length (spanned_answer front headers r) → IsBadAnswer bytes
refused_at bytes front headers r f x e =
    inl (record { head = x.head; rest = drop r.len bytes; has = x.has; length_is = stated bytes front headers r None f x e })

pub short_at : (bytes front : List ℕ) → Front bytes front → length bytes ≤ head_limit → MayBecomeResponse front → HasNoResponse front
    → IsPartOfAnswer bytes × (length bytes < answer_most)
short_at bytes front f short begins none =
    let same : front ≡ bytes = f.is ∙ take_all head_limit bytes short in
    (inl (short, record { begins = subst MayBecomeResponse same begins; none = subst HasNoResponse same none }), omega arith)

pub long_at : (bytes front : List ℕ) → Front bytes front → head_limit < length bytes → HasNoResponse front → IsBadAnswer bytes
long_at bytes front f long none = inr (record { none = subst HasNoResponse f.is none; past = inl long })

pub never_at : (bytes front : List ℕ) → Front bytes front → NeverHasResponse front → IsBadAnswer bytes
never_at bytes front f never =
    let never' = subst NeverHasResponse f.is never in
    inr (record { none = never_none (take head_limit bytes) never'; past = inr (never_begins (take head_limit bytes) never') })

pub room_at : (bytes front : List ℕ) (room : ℕ) → Front bytes front → room ≡ 5461 → ResponseExceeds room front → ⊥
room_at bytes front room f same x =
    enough_room front (let e : length front ≡ length (take head_limit bytes) = ap length f.is in omega (arith, length-take head_limit bytes)) (subst (λ n. ResponseExceeds n front) same x)

-- an error is not for want of room, so no head begins here
pub err_at : (bytes front : List ℕ) (room : ℕ) (e : Error) → Front bytes front → room ≡ 5461 → (e ≢ error.TooManyHeaders → NeverHasResponse front)
    → (e ≡ error.TooManyHeaders → ResponseExceeds room front) → IsBadAnswer bytes
err_at bytes front room error.TooManyHeaders f same never exceeds = absurd (room_at bytes front room f same (exceeds refl))
err_at bytes front room error.HeaderName f same never exceeds = never_at bytes front f (never (λ e. cc))
err_at bytes front room error.HeaderValue f same never exceeds = never_at bytes front f (never (λ e. cc))
err_at bytes front room error.NewLine f same never exceeds = never_at bytes front f (never (λ e. cc))
err_at bytes front room error.Status f same never exceeds = never_at bytes front f (never (λ e. cc))
err_at bytes front room error.Token f same never exceeds = never_at bytes front f (never (λ e. cc))
err_at bytes front room error.Version f same never exceeds = never_at bytes front f (never (λ e. cc))

-- ---- what is cut off

pub whole_seen : (bytes : List ℕ) (r : ResponseSpans) (size : ℕ) (answer : ServerAnswer) → IsSpannedAnswer bytes r size
    → answer.body ≡ take size (drop r.len bytes) → answer.status ≡ r.code → IsWholeAnswer bytes answer (drop (r.len + size) bytes)
whole_seen bytes r size answer x body status =
    let there = x.there in
    let long : length (take size (drop r.len bytes)) ≡ size = omega (arith, length-take size (drop r.len bytes), length-drop r.len bytes) in
    let parts : drop r.len bytes ≡ answer.body ++ drop (r.len + size) bytes =
    sym (take-append-drop size (drop r.len bytes)) ∙ ap (λ b. b ++ drop size (drop r.len bytes)) (sym body) ∙ ap (λ b. answer.body ++ b) (drop-drop size r.len bytes) in
    record {
      head = x.head;
      has = subst (HasAnswerHead bytes x.head) parts x.has;
      length_is = x.length_is ∙ ap Some (sym (ap length body ∙ long));
      status_is = status ∙ x.code;
    }

-- the same of the bytes and the range as the code has them
pub cut_off : (bytes held after : List ℕ) (r : ResponseSpans) (size : ℕ) (answer : ServerAnswer) → held ≡ bytes → IsSpannedAnswer held r size
    → answer.body ≡ take (r.len + size - r.len) (drop r.len held) → answer.status ≡ r.code → after ≡ drop (r.len + size) bytes → IsWholeAnswer bytes answer after
cut_off bytes held after r size answer same x body status left =
    let n : r.len + size - r.len ≡ size = omega arith in
    let whole = whole_seen held r size answer x (body ∙ ap (λ k. take k (drop r.len held)) n) status in
    subst (λ a. IsWholeAnswer bytes answer a) (sym left) (subst (λ b. IsWholeAnswer b answer (drop (r.len + size) b)) same whole)
