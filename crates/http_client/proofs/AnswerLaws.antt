-- A byte string has at most one answer, and what is read later changes none.
use Rattle.std.proofs.Common.{◌≡◌, ◌⊎◌, ℕ, ◌+◌, ◌-◌, ◌<◌, ◌≤◌, List, [], ◌∷◌, ◌++◌, length, take, Option, refl, sym, ap, ◌∙◌, subst, inl, inr, arith, append_assoc, append-nil, length-append}
use Rattle.std.proofs.Math.Seq.{take-append-add}
use Rattle.std.proofs.lemmas.Bool.{cases_lt}
use Rattle.std.proofs.lemmas.List.{take_all, take-append-le}
use Rattle.httparse.specs.Grammar.{ResponseHead, print_response, ReadsResponse, HasNoResponse, MayBecomeResponse, status_code}
use Rattle.httparse.proofs.GrammarLemmas.{response_unique, ReadsResponse-append}
use Rattle.http_front.specs.Requests.{head_limit}
use Rattle.http_client.specs.declared.answer.ServerAnswer.{ServerAnswer}
use Rattle.http_client.specs.Answers.{HasAnswerHead, HasNoAnswerHead, IsBadAnswer, IsPartOfAnswer, IsWholeAnswer, answer_head_of, answer_length}

one_head : (bytes : List ℕ) (h k : ResponseHead) (r q : List ℕ) → HasAnswerHead bytes h r → HasAnswerHead bytes k q → (h ≡ k) × (r ≡ q)
one_head bytes h k r q x y = response_unique bytes h k r q x.reads y.reads

head_later : (bytes : List ℕ) (h : ResponseHead) (rest more : List ℕ) → HasAnswerHead bytes h rest → HasAnswerHead (bytes ++ more) h (rest ++ more)
head_later bytes h rest more x = record { reads = ReadsResponse-append bytes h rest more x.reads; fits = x.fits }

-- what two lists of one length begin with
split_same : (a b x y : List ℕ) → length a ≡ length b → a ++ x ≡ b ++ y → (a ≡ b) × (x ≡ y)
split_same [] [] x y e same = (refl, same)
split_same [] (c ∷ b) x y e same = absurd (cc)
split_same (c ∷ a) [] x y e same = absurd (cc)
split_same (c ∷ a) (d ∷ b) x y e same =
    let head : c ≡ d = cc in
    let rest : a ++ x ≡ b ++ y = cc in
    let shorter : length a ≡ length b = omega arith in
    let below = split_same a b x y shorter rest in
    let first : (c ∷ a) ≡ (d ∷ b) = cc in
    (first, below.1)

same_size : (bytes : List ℕ) (h k : ResponseHead) (r q : List ℕ) (a b : Option ℕ) → HasAnswerHead bytes h r → HasAnswerHead bytes k q
    → answer_length (answer_head_of h) ≡ a → answer_length (answer_head_of k) ≡ b → a ≡ b
same_size bytes h k r q a b x y e f = sym e ∙ ap (λ h. answer_length (answer_head_of h)) (one_head bytes h k r q x y).0 ∙ f

same_answer : (a b : ServerAnswer) → a.status ≡ b.status → a.body ≡ b.body → a ≡ b
same_answer a b status body = ap (λ s. record { status = s; body = a.body }) status ∙ ap (λ t. record { status = b.status; body = t }) body

pub whole_once : (bytes rest others : List ℕ) (answer other : ServerAnswer) → IsWholeAnswer bytes answer rest → IsWholeAnswer bytes other others
    → (answer ≡ other) × (rest ≡ others)
whole_once bytes rest others answer other x y =
    let same = one_head bytes x.head y.head (answer.body ++ rest) (other.body ++ others) x.has y.has in
    let sizes = same_size bytes x.head y.head (answer.body ++ rest) (other.body ++ others) _ _ x.has y.has x.length_is y.length_is in
    let lengths : length answer.body ≡ length other.body = cc in
    let parts = split_same answer.body other.body rest others lengths same.1 in
    let status : answer.status ≡ other.status = x.status_is ∙ ap status_code same.0 ∙ sym y.status_is in
    (same_answer answer other status parts.0, parts.1)

-- the head is in the first bytes too
head_in_front : (bytes : List ℕ) (h : ResponseHead) (rest : List ℕ) → HasAnswerHead bytes h rest → (behind : List ℕ) × ReadsResponse (take head_limit bytes) h behind
head_in_front bytes h rest x =
    let n = head_limit - length (print_response h) in
    let fits = x.fits in
    let sum : length (print_response h) + n ≡ head_limit = omega arith in
    (take n rest, (x.reads.0, ap (take head_limit) x.reads.1 ∙ ap (λ k. take k (print_response h ++ rest)) (sym sum) ∙ take-append-add (print_response h) rest n))

headless : (bytes : List ℕ) (h : ResponseHead) (rest : List ℕ) → HasAnswerHead bytes h rest → HasNoAnswerHead bytes → ⊥
headless bytes h rest x y = let front = head_in_front bytes h rest x in y.none h front.0 front.1

pub whole_or_part : (bytes rest : List ℕ) (answer : ServerAnswer) → IsWholeAnswer bytes answer rest → IsPartOfAnswer bytes → ⊥
whole_or_part bytes rest answer x y = elim y [
  | inl u ↦ u.1.none x.head (answer.body ++ rest) x.has.reads
  | inr u ↦
      let same = same_size bytes x.head u.head (answer.body ++ rest) u.rest _ _ x.has u.has x.length_is u.length_is in
      let sizes : length answer.body ≡ u.size = cc in
      let rests : answer.body ++ rest ≡ u.rest = (one_head bytes x.head u.head (answer.body ++ rest) u.rest x.has u.has).1 in
      let longer : length (answer.body ++ rest) ≡ length u.rest = ap length rests in
      let short = u.short in
      omega (arith, length-append answer.body rest)
]

pub whole_or_bad : (bytes rest : List ℕ) (answer : ServerAnswer) → IsWholeAnswer bytes answer rest → IsBadAnswer bytes → ⊥
whole_or_bad bytes rest answer x y = elim y [
  | inl u ↦
      let same = same_size bytes x.head u.head (answer.body ++ rest) u.rest _ _ x.has u.has x.length_is u.length_is in
      cc
  | inr u ↦ headless bytes x.head (answer.body ++ rest) x.has u
]

pub part_or_bad : (bytes : List ℕ) → IsPartOfAnswer bytes → IsBadAnswer bytes → ⊥
part_or_bad bytes x y = elim x [
  | inl w ↦ elim y [
    | inl u ↦ w.1.none u.head u.rest u.has.reads
    | inr u ↦ elim u.past [
      | inl long ↦ (let short = w.0 in omega arith)
      | inr never ↦ never (subst MayBecomeResponse (sym (take_all head_limit bytes w.0)) w.1.begins)
    ]
  ]
  | inr w ↦ elim y [
    | inl u ↦ (let same = same_size bytes w.head u.head w.rest u.rest _ _ w.has u.has w.length_is u.length_is in cc)
    | inr u ↦ headless bytes w.head w.rest w.has u
  ]
]

pub whole_stays : (bytes rest more : List ℕ) (answer : ServerAnswer) → IsWholeAnswer bytes answer rest → IsWholeAnswer (bytes ++ more) answer (rest ++ more)
whole_stays bytes rest more answer x = record {
  head = x.head;
  has = subst (HasAnswerHead (bytes ++ more) x.head) (append_assoc answer.body rest more) (head_later bytes x.head (answer.body ++ rest) more x.has);
  length_is = x.length_is;
  status_is = x.status_is;
}

-- of two ways to cut one list, one has the other's first part in its own
meets : (a b c d : List ℕ) → a ++ b ≡ c ++ d → ((x : List ℕ) × (c ≡ a ++ x)) ⊎ ((y : List ℕ) × (a ≡ c ++ y))
meets [] b c d e = inl (c, refl)
meets (x ∷ a) b [] d e = inr (x ∷ a, refl)
meets (x ∷ a) b (y ∷ c) d e =
    let same : x ≡ y = cc in
    let rest : a ++ b ≡ c ++ d = cc in
    elim (meets a b c d rest) [
      | inl m ↦ inl (m.0, (let k = m.1 in cc))
      | inr m ↦ inr (m.0, (let k = m.1 in cc))
    ]

-- bytes that hold no head and become none hold none later
never_later : (bytes more : List ℕ) → HasNoResponse bytes → (MayBecomeResponse bytes → ⊥) → HasNoResponse (bytes ++ more)
never_later bytes more none never h rest reads = elim (meets bytes more (print_response h) rest reads.1) [
  | inl within ↦
      let whole : bytes ++ within.0 ≡ print_response h ++ [] = sym within.1 ∙ sym (append-nil (print_response h)) in
      never (within.0, h, (reads.0, whole))
  | inr behind ↦ none h behind.0 (reads.0, behind.1)
]

never_begins_later : (bytes more : List ℕ) → (MayBecomeResponse bytes → ⊥) → MayBecomeResponse (bytes ++ more) → ⊥
never_begins_later bytes more never x = never (more ++ x.0, x.1, subst (λ b. ReadsResponse b x.1 []) (append_assoc bytes more x.0) x.2)

-- a byte string that is no longer than the limit, with what comes behind it within the limit
front_later : (bytes more : List ℕ) → length bytes ≤ head_limit → take head_limit (bytes ++ more) ≡ bytes ++ take (head_limit - length bytes) more
front_later bytes more short =
    let n = head_limit - length bytes in
    let sum : length bytes + n ≡ head_limit = omega arith in
    ap (λ k. take k (bytes ++ more)) (sym sum) ∙ take-append-add bytes more n

headless_long : (bytes more : List ℕ) → head_limit < length bytes → HasNoResponse (take head_limit bytes) → HasNoAnswerHead (bytes ++ more)
headless_long bytes more long none =
    let within : head_limit ≤ length bytes = omega arith in
    let same : take head_limit (bytes ++ more) ≡ take head_limit bytes = take-append-le head_limit bytes more within in
    record {
      none = subst HasNoResponse (sym same) none;
      past = inl (omega (arith, length-append bytes more));
    }

headless_short : (bytes more : List ℕ) → length bytes ≤ head_limit → HasNoResponse bytes → (MayBecomeResponse bytes → ⊥) → HasNoAnswerHead (bytes ++ more)
headless_short bytes more short none never =
    let same = front_later bytes more short in
    let behind = take (head_limit - length bytes) more in
    record {
      none = subst HasNoResponse (sym same) (never_later bytes behind none never);
      past = inr (λ x. never_begins_later bytes behind never (subst MayBecomeResponse same x));
    }

headless_stays : (bytes more : List ℕ) → HasNoAnswerHead bytes → HasNoAnswerHead (bytes ++ more)
headless_stays bytes more x = elim (cases_lt head_limit (length bytes)) [
  | inl long ↦ headless_long bytes more long x.none
  | inr short ↦ elim x.past [
    | inl long ↦ absurd (omega arith)
    | inr never ↦
        let whole = take_all head_limit bytes short in
        headless_short bytes more short (subst HasNoResponse whole x.none) (λ y. never (subst MayBecomeResponse (sym whole) y))
  ]
]

pub bad_stays : (bytes more : List ℕ) → IsBadAnswer bytes → IsBadAnswer (bytes ++ more)
bad_stays bytes more (inl x) = inl (record { head = x.head; rest = x.rest ++ more; has = head_later bytes x.head x.rest more x.has; length_is = x.length_is })
bad_stays bytes more (inr x) = inr (headless_stays bytes more x)
