-- Any bytes are whole requests and a tail.
use Rattle.std.proofs.Common.{◌≡◌, ℕ, zero, suc, ◌<◌, ◌≤◌, ◌++◌, List, [], ◌∷◌, length, take, drop, take-append-drop, length-append, length-take, length-drop, refl, sym, ap, ◌∙◌, subst, arith, inl, inr, Result, Ok, Err}
use Rattle.std.proofs.lemmas.Bool.{cases_lt, false≢true}
use Rattle.std.proofs.lemmas.List.{take_all}
use Rattle.httparse.specs.Grammar.{EndsInTarget, HasNoRequest, MayBecomeRequest, NeverHasRequest, ReadsRequest, RequestHead, print_request}
use Rattle.httparse.proofs.GrammarLemmas.{ReadsRequest-append}
use Rattle.http_front.specs.declared.head_fault.HeadFault.{HeadFault}
use Rattle.http_front.specs.declared.head_fault.HeadFault.TheVariants.{BadHead, HeadTooLong}
use Rattle.http_front.specs.declared.request.Request.{Request}
use Rattle.http_front.specs.declared.target.Place.TheVariants.{LineStart}
use Rattle.http_front.specs.Requests.{BeginsHead, HasHead, IsNoHead, IsWhole, Splits, Tail, at_end, bad, cut, head_limit, head_of, length_of, request_of}
use Rattle.http_front.specs.Target.{ends_in_target}
use Rattle.http_front.proofs.Heads.{never_begins, never_none}
use Rattle.http_front.proofs.Judged.{by_test, head_judged}
use Rattle.http_front.proofs.Looks.{request_body}
use Rattle.http_front.proofs.Targets.{ends_from_scan, scan_from_ends}

-- a reading of the bytes
abbrev pub Reading : List ℕ → Type 0
Reading bytes = (requests : List Request) × (tail : Tail) × Splits bytes requests tail

-- a head in the front of the bytes is one of the bytes
head_in : (bytes : List ℕ) (h : RequestHead) (rest : List ℕ) → ReadsRequest (take head_limit bytes) h rest → HasHead bytes h (rest ++ drop head_limit bytes)
head_in bytes h rest x = record {
  reads =
      subst (λ b. ReadsRequest b h (rest ++ drop head_limit bytes)) (take-append-drop head_limit bytes)
      (ReadsRequest-append (take head_limit bytes) h rest (drop head_limit bytes) x);
  fits = omega (arith, ap length x.1, length-append (print_request h) rest, length-take head_limit bytes);
}

whole_of : (bytes rest : List ℕ) (h : RequestHead) (size : ℕ) → HasHead bytes h rest → length_of (head_of h) ≡ Ok size → size ≤ length rest
    → IsWhole bytes (request_of (head_of h) (take size rest)) (drop size rest)
whole_of bytes rest h size has e there =
    let same : (request_of (head_of h) (take size rest)).body ≡ take size rest = request_body (head_of h) (take size rest) in
    let long : length (take size rest) ≡ size = omega (arith, length-take size rest) in
    record {
      head = h;
      has = subst (HasHead bytes h) (sym (ap (λ b. b ++ drop size rest) same ∙ take-append-drop size rest)) has;
      length_is = e ∙ ap Ok (sym (ap length same ∙ long));
      request_is = ap (request_of (head_of h)) (sym same);
    }

-- a head takes a byte
some_head : (bytes rest : List ℕ) (h : RequestHead) → HasHead bytes h rest → length rest < length bytes
unfolding print_request
some_head bytes rest h has =
    let some = has.reads.0.method.0 in
    let size = ap length has.reads.1 in
    let long = simp length-append at size in
    omega arith

behind_head : (bytes rest : List ℕ) (h : RequestHead) (n size : ℕ) → HasHead bytes h rest → length bytes < suc n → length (drop size rest) < n
behind_head bytes rest h n size has low = omega (arith, some_head bytes rest h has, length-drop size rest)

-- the bytes have a head
with_head : (n : ℕ) (bytes rest : List ℕ) (h : RequestHead) → 0 < length bytes → HasHead bytes h rest → ((after : List ℕ) → length after < n → Reading after)
    → length bytes < suc n → (r : Result ℕ HeadFault) → length_of (head_of h) ≡ r → Reading bytes
with_head n bytes rest h some has more low (Err fault) is =
    ([], bad fault, (bytes, refl, inl (record { head = h; rest = rest; has = has; length_is = is })))
with_head n bytes rest h some has more low (Ok size) is = elim (cases_lt (length rest) size) [
  | inl short ↦ ([], cut, (bytes, refl, (some, inr (record { head = h; rest = rest; has = has; size = size; length_is = is; short = short }))))
  | inr there ↦ (
      let next = more (drop size rest) (behind_head bytes rest h n size has low) in (
        request_of (head_of h) (take size rest) ∷ next.0,
        next.1,
        (next.2.0, (drop size rest, whole_of bytes rest h size has is there, next.2.1), next.2.2),
      )
      )
]

-- the bytes begin a head
in_head : (bytes : List ℕ) → 0 < length bytes → BeginsHead (take head_limit bytes) → Reading bytes
in_head bytes some begins = elim (cases_lt head_limit (length bytes)) [
  | inl long ↦ ([], bad HeadTooLong, (bytes, refl, inr (inl (refl, record { long = long; begins = begins }))))
  | inr short ↦ ([], cut, (bytes, refl, (some, inl (short, subst BeginsHead (take_all head_limit bytes short) begins))))
]

some_front : (bytes : List ℕ) → 0 < length bytes → 0 < length (take head_limit bytes)
some_front bytes some = omega (arith, length-take head_limit bytes)

-- the bytes never become a head
without_head : (bytes : List ℕ) → 0 < length bytes → NeverHasRequest (take head_limit bytes) → Reading bytes
without_head bytes some never = by_test (ends_in_target LineStart (take head_limit bytes))
    (λ inside. in_head bytes some (record {
      begins = inr (ends_from_scan (take head_limit bytes) inside);
      none = never_none (take head_limit bytes) never;
    }))
    (λ outside. (
      [],
      bad BadHead,
      (
        bytes,
        refl,
        inr (inr (
          refl,
          record {
            some = some_front bytes some;
            none = never_none (take head_limit bytes) never;
            broken = never_begins (take head_limit bytes) never (λ x. false≢true (sym outside ∙ scan_from_ends (take head_limit bytes) x));
          },
        )),
      ),
    ))

reading_of : (n : ℕ) (bytes : List ℕ) → length bytes < n → Reading bytes
reading_of zero bytes low = absurd (omega (arith, low))
reading_of (suc n) [] low = ([], at_end, ([], refl, refl))
reading_of (suc n) (b ∷ bytes) low =
    let all = b ∷ bytes in
    elim (head_judged (take head_limit all)) [
      | inl head ↦ with_head n all (head.1 ++ drop head_limit all) head.0 (omega arith) (head_in all head.0 head.1 head.2)
          (λ after less. reading_of n after less) low (length_of (head_of head.0)) refl
      | inr none ↦ elim none [
        | inl part ↦ in_head all (omega arith) (record { begins = part.1; none = part.0 })
        | inr never ↦ without_head all (omega arith) never
      ]
    ]

pub a_reading : (bytes : List ℕ) → Reading bytes
a_reading bytes = reading_of (suc (length bytes)) bytes (omega arith)
