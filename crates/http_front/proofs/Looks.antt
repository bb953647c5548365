-- What the parser's answers on the front say of the bytes so far.
use Rattle.std.proofs.Common.{◌≡◌, ℕ, ◌+◌, ◌-◌, ◌<◌, ◌≤◌, List, ◌++◌, length, take, drop, min, Bool, true, false, cond, leb, refl, sym, ap, ◌∙◌, subst, arith, inl, inr, length-drop, Result, Ok, Err, Option, Some, None}
use Rattle.std.proofs.lemmas.List.{take-append-drop, take_all, length-take, drop-drop}
use Rattle.std.proofs.lemmas.Bool.{leb-true, cases_lt, cases_Bool}
use Rattle.httparse.specs.Grammar.{RequestHead, HasNoRequest, NeverHasRequest, MayBecomeRequest, EndsInTarget}
use Rattle.httparse.specs.Spans.{IsRequestWithin, IsRequestAt, IsRequestOf, RequestExceeds}
use Rattle.httparse.specs.declared.spans.HeaderSpan.{HeaderSpan}
use Rattle.httparse.specs.declared.spans.RequestSpans.{RequestSpans}
use Rattle.http_front.specs.declared.head_fault.HeadFault.{HeadFault}
use Rattle.http_front.specs.declared.head_fault.HeadFault.TheVariants.{BadHead, BodyTooLong, HeadTooLong, NoLength}
use Rattle.http_front.specs.Lines.{body_length, limited, agreed, length_value, all_are, first_of, values_of, any_is}
use Rattle.std.specs.Prelude.{codes, map, nat_lt, not, ◌==◌}
use Rattle.httparse.specs.Spans.{span_bytes, header_bytes}
use Rattle.http_front.specs.declared.request.Request.{Request}
use Rattle.http_front.specs.Requests.{path_of, request_of, IsWhole, Head, head_of, length_of, line_limit, wants_length, head_limit, HasHead, IsUnfinished, IsBad}
use Rattle.http_front.specs.Looks.{spanned_head, IsSpanned, most}
use Rattle.http_front.proofs.Heads.{has_head, spanned_head_is, never_none, never_begins, enough_room}

pub front_is : (bytes : List ℕ) (n : ℕ) → n ≡ min (length bytes) head_limit → take n bytes ≡ take head_limit bytes
front_is bytes n same = elim (cases_lt head_limit (length bytes)) [
  | inl long ↦ (let e : n ≡ head_limit = omega arith in ap (λ k. take k bytes) e)
  | inr short ↦ (let e : n ≡ length bytes = omega arith in ap (λ k. take k bytes) e ∙ take_all (length bytes) bytes (omega arith) ∙ sym (take_all head_limit bytes short))
]

-- ---- a length is at most 1 MiB

after_rule : (b : Bool) (d : HeadFault) (r : Result ℕ HeadFault) (n : ℕ) → cond b (Err d) r ≡ Ok n → r ≡ Ok n
after_rule true d r n h = cc
after_rule false d r n h = h

by_test : {P : Type 0} (b : Bool) → (b ≡ true → P) → (b ≡ false → P) → P
by_test b good bad = elim (cases_Bool b) [ inl e ↦ good e | inr e ↦ bad e ]

limited_small : (o : Option ℕ) (n : ℕ) → limited o ≡ Ok n → n ≤ 1048576
limited_small None n h = cc
limited_small (Some m) n h = by_test (leb m 1048576)
    (λ e. let same : ◌≡◌ {A = Result ℕ HeadFault} (Ok m) (Ok n) = subst (λ v. ◌≡◌ {A = Result ℕ HeadFault} (cond v (Ok m) (Err BodyTooLong)) (Ok n)) e h in let m_is : m ≡ n = cc in omega (arith, leb-true m 1048576 e))
    (λ e. let same : ◌≡◌ {A = Result ℕ HeadFault} (Err BodyTooLong) (Ok n) = subst (λ v. ◌≡◌ {A = Result ℕ HeadFault} (cond v (Ok m) (Err BodyTooLong)) (Ok n)) e h in cc)

agreed_small : (wants : Bool) (o : Option (List ℕ)) (vs : List (List ℕ)) (n : ℕ) → agreed wants o vs ≡ Ok n → n ≤ 1048576
agreed_small true None vs n h = cc
agreed_small false None vs n h = let e : 0 ≡ n = cc in omega arith
agreed_small wants (Some v) vs n h = by_test (all_are v vs)
    (λ e. limited_small (length_value v) n (subst (λ t. cond t (limited (length_value v)) (Err BadHead) ≡ Ok n) e h))
    (λ e. let same : ◌≡◌ {A = Result ℕ HeadFault} (Err BadHead) (Ok n) = subst (λ t. cond t (limited (length_value v)) (Err BadHead) ≡ Ok n) e h in cc)

body_small : (wants : Bool) (vs : List (List ℕ)) (n : ℕ) → body_length wants vs ≡ Ok n → n ≤ 1048576
unfolding body_length
body_small wants vs n h = agreed_small wants (first_of vs) vs n h

pub length_small : (h : Head) (n : ℕ) → length_of h ≡ Ok n → n ≤ 1048576
unfolding length_of
length_small h n e =
    let lines = after_rule (nat_lt line_limit (length h.lines)) HeadTooLong _ n e in
    let version = after_rule (not (h.minor == 1)) BadHead _ n lines in
    let host = after_rule (not (length (values_of (codes "Host") h.lines) == 1)) BadHead _ n version in
    let coded = after_rule (nat_lt 0 (length (values_of (codes "Transfer-Encoding") h.lines))) NoLength _ n host in
    body_small (wants_length h.method) (values_of (codes "Content-Length") h.lines) n coded

-- ---- a complete head

has : (bytes : List ℕ) (headers : List HeaderSpan) (r : RequestSpans) (h : RequestHead) → IsRequestWithin (take head_limit bytes) headers r → IsRequestAt (take head_limit bytes) headers r h → HasHead bytes h (drop r.len bytes)
has bytes headers r h within x =
    let short : length (take head_limit bytes) ≤ head_limit = omega (arith, length-take head_limit bytes) in
    let whole = take-append-drop head_limit bytes in
    subst (λ b. HasHead b h (drop r.len b)) whole (has_head (take head_limit bytes) (drop head_limit bytes) headers r h within x short)

pub is_seen : (bytes : List ℕ) (headers : List HeaderSpan) (r : RequestSpans) (size : ℕ) (h : RequestHead)
    → IsRequestWithin (take head_limit bytes) headers r → IsRequestAt (take head_limit bytes) headers r h
    → length_of (spanned_head (take head_limit bytes) headers r) ≡ Ok size → r.len + size ≤ length bytes → IsSpanned bytes headers r size
is_seen bytes headers r size h within x e there = record {
  head = h;
  has = has bytes headers r h within x;
  head_is = spanned_head_is (take head_limit bytes) headers r h x;
  length_is = sym (ap length_of (spanned_head_is (take head_limit bytes) headers r h x)) ∙ e;
  there = there;
  count = within.section.count_fits;
}

pub lacks : (bytes : List ℕ) (headers : List HeaderSpan) (r : RequestSpans) (size : ℕ) (h : RequestHead)
    → IsRequestWithin (take head_limit bytes) headers r → IsRequestAt (take head_limit bytes) headers r h
    → length_of (spanned_head (take head_limit bytes) headers r) ≡ Ok size → length bytes < r.len + size → IsUnfinished bytes × (length bytes < most)
lacks bytes headers r size h within x e short =
    let fits = (has bytes headers r h within x).fits in
    let len = x.len in
    let small = length_small _ size e in
    let below : length (drop r.len bytes) < size = omega (arith, length-drop r.len bytes, within.section.len_fits, length-take head_limit bytes) in
    (inr (record { head = h; rest = drop r.len bytes; has = has bytes headers r h within x; size = size; length_is = sym (ap length_of (spanned_head_is (take head_limit bytes) headers r h x)) ∙ e; short = below }), omega arith)

pub refused : (bytes : List ℕ) (headers : List HeaderSpan) (r : RequestSpans) (fault : HeadFault) (h : RequestHead)
    → IsRequestWithin (take head_limit bytes) headers r → IsRequestAt (take head_limit bytes) headers r h
    → length_of (spanned_head (take head_limit bytes) headers r) ≡ Err fault → IsBad bytes fault
refused bytes headers r fault h within x e = inl (record { head = h; rest = drop r.len bytes; has = has bytes headers r h within x; length_is = sym (ap length_of (spanned_head_is (take head_limit bytes) headers r h x)) ∙ e })

-- ---- no head yet

pub short_of : (bytes : List ℕ) → length bytes ≤ head_limit → MayBecomeRequest (take head_limit bytes) → HasNoRequest (take head_limit bytes) → IsUnfinished bytes
short_of bytes short begins none = let whole = take_all head_limit bytes short in inl (short, record { begins = subst MayBecomeRequest whole begins; none = subst HasNoRequest whole none })

pub too_long : (bytes : List ℕ) → head_limit < length bytes → MayBecomeRequest (take head_limit bytes) → HasNoRequest (take head_limit bytes) → IsBad bytes HeadTooLong
too_long bytes long begins none = inr (inl (refl, record { long = long; begins = record { begins = begins; none = none } }))

pub no_head : (bytes : List ℕ) → 0 < length bytes → NeverHasRequest (take head_limit bytes) → (EndsInTarget (take head_limit bytes) → ⊥) → IsBad bytes BadHead
no_head bytes some never outside = inr (inr (
  refl,
  record {
    some = omega (arith, length-take head_limit bytes);
    none = never_none (take head_limit bytes) never;
    broken = never_begins (take head_limit bytes) never outside;
  },
))

-- ---- the same of the front as the code has it

pub record Front (bytes front : List ℕ) : Type 0 where
  pub is : front ≡ take head_limit bytes

pub front_of : (bytes : List ℕ) (n : ℕ) → n ≡ min (length bytes) head_limit → Front bytes (take n bytes)
front_of bytes n same = record { is = front_is bytes n same }

pub is_seen_at : (bytes front : List ℕ) (headers : List HeaderSpan) (r : RequestSpans) (size : ℕ) → Front bytes front
    → IsRequestWithin front headers r → IsRequestOf front headers r → Ok size ≡ length_of (spanned_head front headers r) → size ≤ length bytes - r.len → IsSpanned bytes headers r size
is_seen_at bytes front headers r size f within x e there =
    let w : IsRequestWithin (take head_limit bytes) headers r = subst (λ b. IsRequestWithin b headers r) f.is within in
    let len_fits = w.section.len_fits in
    is_seen bytes headers r size x.0 w (subst (λ b. IsRequestAt b headers r x.0) f.is x.1)
    (sym (ap (λ b. length_of (spanned_head b headers r)) f.is) ∙ sym e) (omega (arith, length-take head_limit bytes))

pub lacks_at : (bytes front : List ℕ) (headers : List HeaderSpan) (r : RequestSpans) (size : ℕ) → Front bytes front
    → IsRequestWithin front headers r → IsRequestOf front headers r → Ok size ≡ length_of (spanned_head front headers r) → length bytes - r.len < size → (0 < length bytes → IsUnfinished bytes) × (length bytes < most)
lacks_at bytes front headers r size f within x e there =
    let w : IsRequestWithin (take head_limit bytes) headers r = subst (λ b. IsRequestWithin b headers r) f.is within in
    let len_fits = w.section.len_fits in
    let both = lacks bytes headers r size x.0 w (subst (λ b. IsRequestAt b headers r x.0) f.is x.1)
    (sym (ap (λ b. length_of (spanned_head b headers r)) f.is) ∙ sym e) (omega (arith, length-take head_limit bytes)) in (λ _. both.0, both.1)

pub refused_at : (bytes front : List ℕ) (headers : List HeaderSpan) (r : RequestSpans) (fault : HeadFault) → Front bytes front
    → IsRequestWithin front headers r → IsRequestOf front headers r → Err fault ≡ length_of (spanned_head front headers r) → IsBad bytes fault
refused_at bytes front headers r fault f within x e =
    refused bytes headers r fault x.0 (subst (λ b. IsRequestWithin b headers r) f.is within) (subst (λ b. IsRequestAt b headers r x.0) f.is x.1) (sym (ap (λ b. length_of (spanned_head b headers r)) f.is) ∙ sym e)

pub short_at : (bytes front : List ℕ) → Front bytes front → length bytes ≤ head_limit → MayBecomeRequest front → HasNoRequest front → (0 < length bytes → IsUnfinished bytes) × (length bytes < most)
short_at bytes front f short begins none = (λ _. short_of bytes short (subst MayBecomeRequest f.is begins) (subst HasNoRequest f.is none), omega arith)

pub too_long_at : (bytes front : List ℕ) → Front bytes front → head_limit < length bytes → MayBecomeRequest front → HasNoRequest front → IsBad bytes HeadTooLong
too_long_at bytes front f long begins none = too_long bytes long (subst MayBecomeRequest f.is begins) (subst HasNoRequest f.is none)

pub no_head_at : (bytes front : List ℕ) → Front bytes front → 0 < length bytes → NeverHasRequest front → (EndsInTarget front → ⊥) → IsBad bytes BadHead
no_head_at bytes front f some never outside = no_head bytes some (subst NeverHasRequest f.is never) (λ x. outside (subst EndsInTarget (sym f.is) x))

pub room_at : (bytes front : List ℕ) (room : ℕ) → Front bytes front → room ≡ 5461 → RequestExceeds room front → ⊥
room_at bytes front room f same x = enough_room front (let e : length front ≡ length (take head_limit bytes) = ap length f.is in omega (arith, length-take head_limit bytes)) (subst (λ n. RequestExceeds n front) same x)

-- ---- what is cut off

pub request_is : (front whole : List ℕ) (headers : List HeaderSpan) (r : RequestSpans) (method path : List ℕ) (token machine : Option (List ℕ)) (close : Bool) (body : List ℕ)
    → front ≡ whole → method ≡ span_bytes front r.method → path ≡ path_of (span_bytes front r.path)
    → token ≡ first_of (values_of (codes "Authorization") (map (header_bytes front) (take r.headers headers)))
    → machine ≡ first_of (values_of (codes "Ts-Machine-Key") (map (header_bytes front) (take r.headers headers)))
    → close ≡ any_is (codes "close") (values_of (codes "Connection") (map (header_bytes front) (take r.headers headers)))
    → ◌≡◌ {A = Request} (record { method = method; path = path; token = token; machine = machine; close = close; body = body }) (request_of (spanned_head whole headers r) body)
unfolding request_of
request_is front whole headers r method path token machine close body same m t k l e =
    subst (λ w. ◌≡◌ {A = Request} (record { method = method; path = path; token = token; machine = machine; close = close; body = body }) (request_of (spanned_head w headers r) body)) same cc

pub request_body : (h : Head) (body : List ℕ) → (request_of h body).body ≡ body
unfolding request_of
request_body h body = refl

pub whole_seen : (bytes : List ℕ) (headers : List HeaderSpan) (r : RequestSpans) (size : ℕ) (a : Request) → IsSpanned bytes headers r size
    → a ≡ request_of (spanned_head (take head_limit bytes) headers r) (take size (drop r.len bytes)) → IsWhole bytes a (drop (r.len + size) bytes)
whole_seen bytes headers r size a x e =
    let body : a.body ≡ take size (drop r.len bytes) = ap (λ (v : Request). v.body) e ∙ request_body (spanned_head (take head_limit bytes) headers r) (take size (drop r.len bytes)) in
    let there = x.there in
    let long : length (take size (drop r.len bytes)) ≡ size = omega (arith, length-take size (drop r.len bytes), length-drop r.len bytes) in
    let parts : drop r.len bytes ≡ a.body ++ drop (r.len + size) bytes =
    sym (take-append-drop size (drop r.len bytes)) ∙ ap (λ b. b ++ drop size (drop r.len bytes)) (sym body) ∙ ap (λ b. a.body ++ b) (drop-drop size r.len bytes) in
    record {
      head = x.head;
      has = subst (HasHead bytes x.head) parts x.has;
      length_is = x.length_is ∙ ap Ok (sym (ap length body ∙ long));
      request_is = e ∙ ap (λ h. request_of h (take size (drop r.len bytes))) x.head_is ∙ ap (request_of (head_of x.head)) (sym body);
    }

-- the same where the code holds the bytes and the spans under several names
pub stepped : (bytes b1 b2 view after : List ℕ) (h1 h2 : List HeaderSpan) (r : RequestSpans) (size : ℕ) (a : Request)
    → b1 ≡ bytes → b2 ≡ bytes → view ≡ bytes → h2 ≡ h1 → IsSpanned b1 h1 r size
    → a ≡ request_of (spanned_head (take head_limit b2) h2 r) (take size (drop r.len b2)) → after ≡ drop (r.len + size) bytes → IsWhole view a after
stepped bytes b1 b2 view after h1 h2 r size a e1 e2 e3 e4 x is rest =
    let x' : IsSpanned bytes h1 r size = subst (λ b. IsSpanned b h1 r size) e1 x in
    let is' = is ∙ ap (λ b. request_of (spanned_head (take head_limit b) h2 r) (take size (drop r.len b))) e2 ∙ ap (λ h. request_of (spanned_head (take head_limit bytes) h r) (take size (drop r.len bytes))) e4 in
    subst (λ v. IsWhole v a after) (sym e3) (subst (IsWhole bytes a) (sym rest) (whole_seen bytes h1 r size a x' is'))
