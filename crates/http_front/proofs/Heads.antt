-- What the parser's answers say of the bytes so far.
use Rattle.std.proofs.Common.{◌≡◌, ℕ, ◌*◌, ◌<◌, ◌≤◌, List, [], ◌∷◌, ◌++◌, length, drop, sym, ap, subst, arith, inl, inr, length-append, append-nil}
use Rattle.std.specs.List.{AllByRecursion, flat_map}
use Rattle.std.proofs.lemmas.List.{drop-append-le}
use Rattle.std.proofs.lemmas.List.Elements.{recursion_from_All}
use Rattle.httparse.specs.Grammar.{RequestHead, Field, IsField, print_field, print_end, print_request, ReadsRequest, HasNoRequest, NeverHasRequest, MayBecomeRequest, EndsInTarget, LineEnd, crlf, lf}
use Rattle.httparse.specs.Spans.{IsRequestWithin, IsRequestAt, RequestExceeds}
use Rattle.httparse.specs.declared.spans.HeaderSpan.{HeaderSpan}
use Rattle.httparse.specs.declared.spans.RequestSpans.{RequestSpans}
use Rattle.httparse.proofs.GrammarLemmas.{ReadsRequest-append}
use Rattle.http_front.specs.Requests.{head_limit, HasHead, head_of}
use Rattle.http_front.specs.Looks.{spanned_head}

-- a head in the front of the bytes is a head of the bytes
pub has_head : (front behind : List ℕ) (headers : List HeaderSpan) (r : RequestSpans) (h : RequestHead)
    → IsRequestWithin front headers r → IsRequestAt front headers r h → length front ≤ head_limit → HasHead (front ++ behind) h (drop r.len (front ++ behind))
has_head front behind headers r h within x short =
    let n = r.len in
    let fits : n ≤ length front = within.section.len_fits in
    let len : n ≡ length (print_request h) = x.len in
    record {
      reads = subst (ReadsRequest (front ++ behind) h) (sym (drop-append-le n front behind fits)) (ReadsRequest-append front h (drop n front) behind x.reads);
      fits = omega arith;
    }

pub spanned_head_is : (front : List ℕ) (headers : List HeaderSpan) (r : RequestSpans) (h : RequestHead) → IsRequestAt front headers r h → spanned_head front headers r ≡ head_of h
spanned_head_is front headers r h x =
    let method = x.method in let path = x.path in let version = x.version in let fields = x.fields in cc

pub never_none : (front : List ℕ) → NeverHasRequest front → HasNoRequest front
never_none front never h rest x = never [] h rest (subst (λ b. ReadsRequest b h rest) (sym (append-nil front)) x)

pub never_begins : (front : List ℕ) → NeverHasRequest front → (EndsInTarget front → ⊥) → MayBecomeRequest front → ⊥
never_begins front never outside begins = elim begins [ inl x ↦ never x.0 x.1 [] x.2 | inr x ↦ outside x ]

pub end_some : (end : LineEnd) → 0 < length (print_end end)
end_some crlf = omega arith
end_some lf = omega arith

-- a line takes three bytes
pub few : (fields : List Field) → AllByRecursion IsField fields → 3 * length fields ≤ length (flat_map print_field fields)
few [] each = omega arith
few (f ∷ fields) each =
    let below = few fields each.1 in
    let name = each.0.name.0 in
    let end = end_some f.end in
    simp length-append (omega arith)

pub enough_room : (front : List ℕ) → length front ≤ head_limit → RequestExceeds 5461 front → ⊥
unfolding print_request
enough_room front short x =
    let h = x.3 in
    let below = few h.fields (recursion_from_All IsField h.fields x.4.0.fields) in
    let many = x.5 in
    let method = x.4.0.method.0 in
    let target = x.4.0.target.0 in
    let all : length (x.0 ++ print_end lf) ≡ length (print_request h ++ []) = ap length x.4.1 in
    let front_is : length front ≡ length (x.0 ++ x.1) = ap length x.2 in
    let all' = simp length-append at all in
    let front_is' = simp length-append at front_is in
    omega arith
