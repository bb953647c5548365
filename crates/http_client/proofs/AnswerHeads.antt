-- What the parser's answers say of the bytes so far.
use Rattle.std.proofs.Common.{◌≡◌, ℕ, ◌≤◌, Bool, true, false, cond, leb, List, [], ◌∷◌, ◌++◌, length, drop, Option, None, Some, ◌==◌, codes, refl, sym, ap, subst, arith, length-append, append-nil}
use Rattle.std.proofs.lemmas.Bool.{leb-true}
use Rattle.std.proofs.lemmas.List.{drop-append-le}
use Rattle.std.proofs.lemmas.List.Elements.{recursion_from_All}
use Rattle.httparse.specs.Grammar.{ResponseHead, IsField, print_end, print_response, ReadsResponse, HasNoResponse, NeverHasResponse, MayBecomeResponse, lf}
use Rattle.httparse.specs.Spans.{IsResponseWithin, IsResponseAt, ResponseExceeds}
use Rattle.httparse.specs.declared.spans.HeaderSpan.{HeaderSpan}
use Rattle.httparse.specs.declared.spans.ResponseSpans.{ResponseSpans}
use Rattle.httparse.proofs.GrammarLemmas.{ReadsResponse-append}
use Rattle.http_front.specs.Lines.{length_value, values_of}
use Rattle.http_front.specs.Requests.{head_limit}
use Rattle.http_front.proofs.Heads.{few}
use Rattle.http_client.specs.Answers.{AnswerHead, HasAnswerHead, answer_head_of, answer_length, only_length, within_limit}
use Rattle.http_client.specs.Taking.{spanned_answer}

-- a head in the front of the bytes is a head of the bytes
pub has_answer_head : (front behind : List ℕ) (headers : List HeaderSpan) (r : ResponseSpans) (h : ResponseHead)
    → IsResponseWithin front headers r → IsResponseAt front headers r h → length front ≤ head_limit → HasAnswerHead (front ++ behind) h (drop r.len (front ++ behind))
has_answer_head front behind headers r h within x short =
    let n = r.len in
    let fits : n ≤ length front = within.section.len_fits in
    let len : n ≡ length (print_response h) = x.len in
    record {
      reads = subst (ReadsResponse (front ++ behind) h) (sym (drop-append-le n front behind fits)) (ReadsResponse-append front h (drop n front) behind x.reads);
      fits = omega arith;
    }

pub spanned_answer_is : (front : List ℕ) (headers : List HeaderSpan) (r : ResponseSpans) (h : ResponseHead) → IsResponseAt front headers r h → spanned_answer front headers r ≡ answer_head_of h
spanned_answer_is front headers r h x = let version = x.version in let fields = x.fields in cc

pub never_none : (front : List ℕ) → NeverHasResponse front → HasNoResponse front
never_none front never h rest x = never [] h rest (subst (λ b. ReadsResponse b h rest) (sym (append-nil front)) x)

pub never_begins : (front : List ℕ) → NeverHasResponse front → MayBecomeResponse front → ⊥
never_begins front never x = never x.0 x.1 [] x.2

pub enough_room : (front : List ℕ) → length front ≤ head_limit → ResponseExceeds 5461 front → ⊥
unfolding print_response
enough_room front short x =
    let h = x.3 in
    let below = few h.fields (recursion_from_All IsField h.fields x.4.0.fields) in
    let many = x.5 in
    let all : length (x.0 ++ print_end lf) ≡ length (print_response h ++ []) = ap length x.4.1 in
    let front_is : length front ≡ length (x.0 ++ x.1) = ap length x.2 in
    let all' = simp length-append at all in
    let front_is' = simp length-append at front_is in
    omega arith

-- ---- a length is at most 16 MiB

kept : (b : Bool) (m n : ℕ) → cond b (Some m) None ≡ Some n → (b ≡ true) × (m ≡ n)
kept true m n e = (refl, cc)
kept false m n e = absurd (cc)

past : (b : Bool) (o : Option ℕ) (n : ℕ) → cond b o None ≡ Some n → o ≡ Some n
past true o n e = e
past false o n e = absurd (cc)

within_small : (o : Option ℕ) (n : ℕ) → within_limit o ≡ Some n → n ≤ 16777216
within_small None n e = absurd (cc)
within_small (Some m) n e =
    let both = kept (leb m 16777216) m n e in
    let same = both.1 in
    omega (arith, leb-true m 16777216 both.0)

only_small : (vs : List (List ℕ)) (n : ℕ) → only_length vs ≡ Some n → n ≤ 16777216
only_small [] n e = absurd (cc)
only_small (v ∷ []) n e = within_small (length_value v) n e
only_small (v ∷ w ∷ vs) n e = absurd (cc)

pub length_small : (h : AnswerHead) (n : ℕ) → answer_length h ≡ Some n → n ≤ 16777216
unfolding answer_length
length_small h n e =
    let values = values_of (codes "Content-Length") h.lines in
    only_small values n (past (h.minor == 1) (only_length values) n e)
