-- What is refused stays refused, whatever bytes come behind.
use Rattle.std.proofs.Common.{◌≡◌, ℕ, zero, suc, ◌+◌, ◌-◌, ◌<◌, ◌≤◌, Bool, List, [], ◌∷◌, ◌++◌, length, take, refl, sym, ap, ◌∙◌, subst, inl, inr, arith, append_assoc, append-nil, length-append}
use Rattle.std.specs.Prelude.{◌⊎◌, IsTrue}
use Rattle.std.specs.Str.{IsAscii}
use Rattle.std.proofs.lemmas.Str.{IsUtf8-from_ascii}
use Rattle.std.specs.List.{AllByRecursion}
use Rattle.std.proofs.Math.Seq.{take-append-add}
use Rattle.std.proofs.lemmas.Bool.{cases_lt}
use Rattle.std.proofs.lemmas.List.{take-append-le, take_all}
use Rattle.std.proofs.lemmas.List.Elements.{All-from_recursion, recursion_from_All}
use Rattle.httparse.specs.Grammar.{RequestHead, IsRequestHead, IsToken, AllPass, LineEnd, lf, IsField, print_blank, print_request, is_uri_byte, ReadsRequest, HasNoRequest, MayBecomeRequest}
use Rattle.http_front.specs.declared.head_fault.HeadFault.{HeadFault}
use Rattle.http_front.specs.declared.request.Request.{Request}
use Rattle.http_front.specs.Requests.{head_limit, BeginsHead, IsNoHead, IsBad, bad, Splits}
use Rattle.http_front.proofs.Streams.{HasHead-append, Leads-append}

-- of two ways to cut one list, one has the other's first part in its own
meets : (a b c d : List ℕ) → a ++ b ≡ c ++ d → ((x : List ℕ) × (c ≡ a ++ x) × (b ≡ x ++ d)) ⊎ ((y : List ℕ) × (a ≡ c ++ y) × (d ≡ y ++ b))
meets [] b c d e = inl (c, refl, e)
meets (x ∷ a) b [] d e = inr (x ∷ a, refl, sym e)
meets (x ∷ a) b (y ∷ c) d e =
    let same : x ≡ y = cc in
    let rest : a ++ b ≡ c ++ d = cc in
    elim (meets a b c d rest) [
      | inl m ↦ inl (m.0, (let k = m.1 in cc), m.2)
      | inr m ↦ inr (m.0, (let k = m.1 in cc), m.2)
    ]

front_passes : (test : ℕ → Bool) (a b : List ℕ) → AllByRecursion (λ x. IsTrue (test x)) (a ++ b) → AllByRecursion (λ x. IsTrue (test x)) a
front_passes test [] b each = tt
front_passes test (x ∷ a) b each = (each.0, front_passes test a b each.1)

-- the shortest head with that method
short_head : List LineEnd → List ℕ → RequestHead
short_head blank method = record { blank = blank; method = method; target = 47 ∷ []; minor = 1; line_end = lf; fields = []; last = lf }

slash_is_ascii : IsAscii (47 ∷ [])
slash_is_ascii zero = omega arith
slash_is_ascii (suc i) = omega arith

short_is_head : (blank : List LineEnd) (method : List ℕ) → IsToken method → IsRequestHead (short_head blank method)
unfolding short_head
short_is_head blank method token = record {
  method = token;
  target = ((let some : 0 < length {A = ℕ} (47 ∷ []) = omega arith in some), All-from_recursion (λ b. IsTrue (is_uri_byte b)) (47 ∷ []) (refl, tt));
  target_text = IsUtf8-from_ascii (47 ∷ []) slash_is_ascii;
  minor = (let low : 1 ≤ 1 = omega arith in low);
  fields = All-from_recursion IsField [] tt;
}

-- what stands behind its method and a space
behind : List ℕ
behind = 47 ∷ 32 ∷ 72 ∷ 84 ∷ 84 ∷ 80 ∷ 47 ∷ 49 ∷ 46 ∷ 49 ∷ 10 ∷ 10 ∷ []

short_printed : (blank : List LineEnd) (method : List ℕ) → print_request (short_head blank method) ≡ ((print_blank blank ++ method) ++ 32 ∷ []) ++ behind
unfolding print_request short_head behind
short_printed blank method = simp append_assoc refl

-- the front of what begins a head begins one
pub begins_front : (a b : List ℕ) → MayBecomeRequest (a ++ b) → MayBecomeRequest a
begins_front a b begins = elim begins [
  | inl x ↦ inl (b ++ x.0, x.1, subst (λ t. ReadsRequest t x.1 []) (append_assoc a b x.0) x.2)
  | inr x ↦
      let line = (print_blank x.0 ++ x.1) ++ 32 ∷ [] in
      let whole : a ++ b ≡ line ++ x.2 = x.5 ∙ sym (append_assoc (print_blank x.0 ++ x.1) (32 ∷ []) x.2) in
      elim (meets a b line x.2 whole) [
        | inl m ↦ inl (m.0 ++ behind, short_head x.0 x.1, (short_is_head x.0 x.1 x.3, sym (append_assoc a m.0 behind) ∙ ap (λ t. t ++ behind) (sym m.1) ∙ sym (short_printed x.0 x.1) ∙ sym (append-nil _)))
        | inr m ↦ inr (x.0, x.1, m.0, x.3, passes x.2 m.0 b m.2 x.4, m.1 ∙ append_assoc (print_blank x.0 ++ x.1) (32 ∷ []) m.0)
      ]
]
  where
    passes : (t y b : List ℕ) → t ≡ y ++ b → AllPass is_uri_byte t → AllPass is_uri_byte y
    passes t y b e each = All-from_recursion (λ b. IsTrue (is_uri_byte b)) y (front_passes is_uri_byte y b (recursion_from_All (λ b. IsTrue (is_uri_byte b)) (y ++ b) (subst (AllPass is_uri_byte) e each)))

-- what begins no head has none later
none_behind : (a b : List ℕ) → HasNoRequest a → (MayBecomeRequest a → ⊥) → HasNoRequest (a ++ b)
none_behind a b none broken h rest x = elim (meets a b (print_request h) rest x.1) [
  | inl m ↦ broken (inl (m.0, h, (x.0, sym m.1 ∙ sym (append-nil (print_request h)))))
  | inr m ↦ none h m.0 (x.0, m.1)
]

pub IsNoHead-append : (a b : List ℕ) → IsNoHead a → IsNoHead (a ++ b)
IsNoHead-append a b x = record {
  some = (let some = x.some in omega (arith, length-append a b));
  none = none_behind a b x.none x.broken;
  broken = λ begins. x.broken (begins_front a b begins);
}

no_head_in_front : (bytes more : List ℕ) → IsNoHead (take head_limit bytes) → IsNoHead (take head_limit (bytes ++ more))
no_head_in_front bytes more x = elim (cases_lt (length bytes) head_limit) [
  | inl short ↦
      (let whole : take head_limit bytes ≡ bytes = take_all head_limit bytes (omega arith) in
      let sum : length bytes + (head_limit - length bytes) ≡ head_limit = omega arith in
      let longer : take head_limit (bytes ++ more) ≡ bytes ++ take (head_limit - length bytes) more = ap (λ n. take n (bytes ++ more)) (sym sum) ∙ take-append-add bytes more (head_limit - length bytes) in
      subst IsNoHead (sym longer) (IsNoHead-append bytes (take (head_limit - length bytes) more) (subst IsNoHead whole x)))
  | inr long ↦ subst IsNoHead (sym (take-append-le head_limit bytes more long)) x
]

pub IsBad-append : (bytes more : List ℕ) (fault : HeadFault) → IsBad bytes fault → IsBad (bytes ++ more) fault
IsBad-append bytes more fault x = elim x [
  | inl w ↦ inl (record { head = w.head; rest = w.rest ++ more; has = HasHead-append bytes w.head w.rest more w.has; length_is = w.length_is })
  | inr z ↦ elim z [
    | inl w ↦
        inr (inl (
          w.0,
          (let long = w.1.long in
              let within : head_limit ≤ length bytes = omega arith in
              record { long = omega (arith, length-append bytes more); begins = subst BeginsHead (sym (take-append-le head_limit bytes more within)) w.1.begins }),
        ))
    | inr w ↦ inr (inr (w.0, no_head_in_front bytes more w.1))
  ]
]

pub Splits-append_bad : (bytes more : List ℕ) (requests : List Request) (fault : HeadFault) → Splits bytes requests (bad fault) → Splits (bytes ++ more) requests (bad fault)
Splits-append_bad bytes more requests fault x = (x.0 ++ more, Leads-append bytes requests x.0 more x.1, IsBad-append x.0 more fault x.2)
