-- A byte string is requests and a tail in at most one way, and what is read later changes no earlier answer.
use Rattle.std.proofs.Common.{◌≡◌, ℕ, ◌+◌, ◌-◌, ◌<◌, List, [], ◌∷◌, ◌++◌, length, take, refl, sym, ap, ◌∙◌, subst, inl, inr, arith, append_assoc, length-append, Result, Ok}
use Rattle.std.proofs.Math.Seq.{take-append-add}
use Rattle.std.proofs.lemmas.List.{take_all, length-take}
use Rattle.httparse.specs.Grammar.{RequestHead, print_request, ReadsRequest, HasNoRequest, MayBecomeRequest}
use Rattle.httparse.proofs.GrammarLemmas.{request_unique, ReadsRequest-append}
use Rattle.http_front.specs.declared.head_fault.HeadFault.{HeadFault}
use Rattle.http_front.specs.declared.request.Request.{Request}
use Rattle.http_front.specs.Requests.{head_of, length_of, request_of, head_limit, HasHead, IsWhole, LacksBody, IsUnfinished, IsBad, Tail, at_end, cut, bad, IsTail, Leads, Splits}

pub HasHead_unique : (bytes : List ℕ) (h k : RequestHead) (r q : List ℕ) → HasHead bytes h r → HasHead bytes k q → (h ≡ k) × (r ≡ q)
HasHead_unique bytes h k r q x y = request_unique bytes h k r q x.reads y.reads

pub HasHead-append : (bytes : List ℕ) (h : RequestHead) (rest more : List ℕ) → HasHead bytes h rest → HasHead (bytes ++ more) h (rest ++ more)
HasHead-append bytes h rest more x = record { reads = ReadsRequest-append bytes h rest more x.reads; fits = x.fits }

pub IsWhole-append : (bytes : List ℕ) (a : Request) (rest more : List ℕ) → IsWhole bytes a rest → IsWhole (bytes ++ more) a (rest ++ more)
IsWhole-append bytes a rest more x = record {
  head = x.head;
  has = subst (HasHead (bytes ++ more) x.head) (append_assoc a.body rest more) (HasHead-append bytes x.head (a.body ++ rest) more x.has);
  length_is = x.length_is;
  request_is = x.request_is;
}

-- what two lists of one length begin with
split_same : (a b x y : List ℕ) → length a ≡ length b → a ++ x ≡ b ++ y → (a ≡ b) × (x ≡ y)
split_same [] [] x y e same = (refl, same)
split_same [] (c ∷ b) x y e same = absurd (cc)
split_same (c ∷ a) [] x y e same = absurd (cc)
split_same (c ∷ a) (d ∷ b) x y e same =
    let head : c ≡ d = cc in
    let rest : a ++ x ≡ b ++ y = cc in
    let shorter : length a ≡ length b = omega arith in
    let below = split_same a b x y shorter rest in
    let first : (c ∷ a) ≡ (d ∷ b) = cc in
    (first, below.1)

pub IsWhole_unique : (bytes : List ℕ) (a c : Request) (r q : List ℕ) → IsWhole bytes a r → IsWhole bytes c q → (a ≡ c) × (r ≡ q)
IsWhole_unique bytes a c r q x y =
    let same = HasHead_unique bytes x.head y.head (a.body ++ r) (c.body ++ q) x.has y.has in
    let lengths : length a.body ≡ length c.body =
    let e : Ok (length a.body) ≡ Ok (length c.body) = sym x.length_is ∙ ap (λ h. length_of (head_of h)) same.0 ∙ y.length_is in cc in
    let parts = split_same a.body c.body r q lengths same.1 in
    (x.request_is ∙ ap (λ h. request_of (head_of h) a.body) same.0 ∙ ap (request_of (head_of y.head)) parts.0 ∙ sym y.request_is, parts.1)

-- the head is in the first bytes too
pub HasHead-front : (bytes : List ℕ) (h : RequestHead) (rest : List ℕ) → HasHead bytes h rest → (behind : List ℕ) × ReadsRequest (take head_limit bytes) h behind
HasHead-front bytes h rest x =
    let n = head_limit - length (print_request h) in
    let fits = x.fits in
    let sum : length (print_request h) + n ≡ head_limit = omega arith in
    (take n rest, (x.reads.0, ap (take head_limit) x.reads.1 ∙ ap (λ k. take k (print_request h ++ rest)) (sym sum) ∙ take-append-add (print_request h) rest n))

-- the ways to go on exclude each other
begun_once : (bytes : List ℕ) (h : RequestHead) (rest : List ℕ) → HasHead bytes h rest → HasNoRequest (take head_limit bytes) → ⊥
begun_once bytes h rest x none = let front = HasHead-front bytes h rest x in none h front.0 front.1

same_length : (bytes : List ℕ) (h k : RequestHead) (r q : List ℕ) (a b : Result ℕ HeadFault) → HasHead bytes h r → HasHead bytes k q → length_of (head_of h) ≡ a → length_of (head_of k) ≡ b → a ≡ b
same_length bytes h k r q a b x y e f = sym e ∙ ap (λ h. length_of (head_of h)) (HasHead_unique bytes h k r q x y).0 ∙ f

unbegun : (bytes : List ℕ) (h : RequestHead) (rest : List ℕ) → HasHead bytes h rest → HasNoRequest bytes → ⊥
unbegun bytes h rest x none = none h rest x.reads

whole_not_unfinished : (bytes : List ℕ) (a : Request) (r : List ℕ) → IsWhole bytes a r → IsUnfinished bytes → ⊥
whole_not_unfinished bytes a r x y = elim y [
  | inl u ↦ unbegun bytes x.head (a.body ++ r) x.has u.1.none
  | inr u ↦
      let same = same_length bytes x.head u.head (a.body ++ r) u.rest _ _ x.has u.has x.length_is u.length_is in
      let sizes : length a.body ≡ u.size = cc in
      let rests : a.body ++ r ≡ u.rest = (HasHead_unique bytes x.head u.head (a.body ++ r) u.rest x.has u.has).1 in
      let longer : length (a.body ++ r) ≡ length u.rest = ap length rests in
      let short = u.short in
      omega (arith, length-append a.body r)
]

whole_not_bad : (bytes : List ℕ) (a : Request) (r : List ℕ) (n : HeadFault) → IsWhole bytes a r → IsBad bytes n → ⊥
whole_not_bad bytes a r n x y = elim y [
  | inl u ↦
      let same = same_length bytes x.head u.head (a.body ++ r) u.rest _ _ x.has u.has x.length_is u.length_is in
      cc
  | inr v ↦ elim v [ inl u ↦ begun_once bytes x.head (a.body ++ r) x.has u.1.begins.none | inr u ↦ begun_once bytes x.head (a.body ++ r) x.has u.1.none ]
]

unfinished_not_bad : (bytes : List ℕ) (n : HeadFault) → IsUnfinished bytes → IsBad bytes n → ⊥
unfinished_not_bad bytes n x y = elim x [
  | inl w ↦ elim y [
    | inl u ↦ unbegun bytes u.head u.rest u.has w.1.none
    | inr v ↦ elim v [
      | inl u ↦ (let long = u.1.long in let short = w.0 in omega arith)
      | inr u ↦ u.1.broken (subst MayBecomeRequest (sym (take_all head_limit bytes w.0)) w.1.begins)
    ]
  ]
  | inr w ↦ elim y [
    | inl u ↦ (let same = same_length bytes w.head u.head w.rest u.rest _ _ w.has u.has w.length_is u.length_is in cc)
    | inr v ↦ elim v [ inl u ↦ begun_once bytes w.head w.rest w.has u.1.begins.none | inr u ↦ begun_once bytes w.head w.rest w.has u.1.none ]
  ]
]

bad_once : (bytes : List ℕ) (n m : HeadFault) → IsBad bytes n → IsBad bytes m → n ≡ m
bad_once bytes n m x y = elim x [
  | inl w ↦ elim y [
    | inl u ↦ (let same = same_length bytes w.head u.head w.rest u.rest _ _ w.has u.has w.length_is u.length_is in cc)
    | inr v ↦ elim v [ inl u ↦ absurd (begun_once bytes w.head w.rest w.has u.1.begins.none) | inr u ↦ absurd (begun_once bytes w.head w.rest w.has u.1.none) ]
  ]
  | inr z ↦ elim y [
    | inl u ↦ elim z [ inl w ↦ absurd (begun_once bytes u.head u.rest u.has w.1.begins.none) | inr w ↦ absurd (begun_once bytes u.head u.rest u.has w.1.none) ]
    | inr v ↦ elim z [
      | inl w ↦ elim v [ inl u ↦ w.0 ∙ sym u.0 | inr u ↦ absurd (u.1.broken w.1.begins.begins) ]
      | inr w ↦ elim v [ inl u ↦ absurd (w.1.broken u.1.begins.begins) | inr u ↦ w.0 ∙ sym u.0 ]
    ]
  ]
]

-- a head takes bytes
head_some : (h : RequestHead) → 0 < length (print_request h)
unfolding print_request
head_some h = simp length-append (omega arith)

has_some : (bytes : List ℕ) (h : RequestHead) (rest : List ℕ) → HasHead bytes h rest → 0 < length bytes
has_some bytes h rest x =
    let some = head_some h in
    let same : length bytes ≡ length (print_request h ++ rest) = ap length x.reads.1 in
    omega (arith, length-append (print_request h) rest)

unfinished_lacks : (bytes : List ℕ) → LacksBody bytes → 0 < length bytes
unfinished_lacks bytes x = has_some bytes x.head x.rest x.has

bad_some : (bytes : List ℕ) (n : HeadFault) → IsBad bytes n → 0 < length bytes
bad_some bytes n x = elim x [
  | inl w ↦ has_some bytes w.head w.rest w.has
  | inr z ↦ elim z [ inl w ↦ (let long = w.1.long in omega arith) | inr w ↦ (let some = w.1.some in omega (arith, length-take head_limit bytes)) ]
]

no_some : (bytes : List ℕ) → bytes ≡ [] → 0 < length bytes → ⊥
no_some bytes none some = let same : length bytes ≡ 0 = ap length none in omega arith

whole_no_tail : (bytes : List ℕ) (a : Request) (r : List ℕ) (t : Tail) → IsWhole bytes a r → IsTail bytes t → ⊥
whole_no_tail bytes a r at_end x y = no_some bytes y (has_some bytes x.head (a.body ++ r) x.has)
whole_no_tail bytes a r cut x y = whole_not_unfinished bytes a r x y.1
whole_no_tail bytes a r (bad n) x y = whole_not_bad bytes a r n x y

tail_once : (bytes : List ℕ) (t u : Tail) → IsTail bytes t → IsTail bytes u → t ≡ u
tail_once bytes at_end at_end x y = refl
tail_once bytes at_end cut x y = absurd (no_some bytes x y.0)
tail_once bytes at_end (bad n) x y = absurd (no_some bytes x (bad_some bytes n y))
tail_once bytes cut at_end x y = absurd (no_some bytes y x.0)
tail_once bytes cut cut x y = refl
tail_once bytes cut (bad n) x y = absurd (unfinished_not_bad bytes n x.1 y)
tail_once bytes (bad n) at_end x y = absurd (no_some bytes y (bad_some bytes n x))
tail_once bytes (bad n) cut x y = absurd (unfinished_not_bad bytes n y.1 x)
tail_once bytes (bad n) (bad m) x y = ap bad (bad_once bytes n m x y)

-- in at most one way
pub Splits_unique : (bytes : List ℕ) (qs cs : List Request) (t u : Tail) → Splits bytes qs t → Splits bytes cs u → (qs ≡ cs) × (t ≡ u)
Splits_unique bytes [] [] t u x y = (refl, tail_once x.0 t u x.2 (subst (λ r. IsTail r u) (sym y.1 ∙ x.1) y.2))
Splits_unique bytes [] (c ∷ cs) t u x y = absurd (whole_no_tail bytes c y.1.0 t y.1.1 (subst (λ r. IsTail r t) (sym x.1) x.2))
Splits_unique bytes (a ∷ qs) [] t u x y = absurd (whole_no_tail bytes a x.1.0 u x.1.1 (subst (λ r. IsTail r u) (sym y.1) y.2))
Splits_unique bytes (a ∷ qs) (c ∷ cs) t u x y =
    let one = IsWhole_unique bytes a c x.1.0 y.1.0 x.1.1 y.1.1 in
    let rest = Splits_unique x.1.0 qs cs t u (x.0, x.1.2, x.2) (y.0, subst (λ m. Leads m cs y.0) (sym one.1) y.1.2, y.2) in
    (ap (λ a. a ∷ qs) one.0 ∙ ap (λ qs. c ∷ qs) rest.0, rest.1)

-- requests so far, and bytes that come behind
pub Leads-append : (bytes : List ℕ) (qs : List Request) (rest more : List ℕ) → Leads bytes qs rest → Leads (bytes ++ more) qs (rest ++ more)
Leads-append bytes [] rest more x = ap (λ b. b ++ more) x
Leads-append bytes (a ∷ qs) rest more x = (x.0 ++ more, IsWhole-append bytes a x.0 more x.1, Leads-append x.0 qs rest more x.2)

-- one request more
pub Leads-snoc : (bytes : List ℕ) (qs : List Request) (middle : List ℕ) (a : Request) (rest : List ℕ) → Leads bytes qs middle → IsWhole middle a rest → Leads bytes (qs ++ a ∷ []) rest
Leads-snoc bytes [] middle a rest x y = (rest, subst (λ b. IsWhole b a rest) (sym x) y, refl)
Leads-snoc bytes (c ∷ qs) middle a rest x y = (x.0, x.1, Leads-snoc x.0 qs middle a rest x.2 y)

-- what was served of a byte string is the beginning of its one reading
pub Leads_first : (bytes : List ℕ) (served requests : List Request) (rest : List ℕ) (tail : Tail) → Leads bytes served rest → Splits bytes requests tail
    → (others : List Request) × (requests ≡ served ++ others) × Splits rest others tail
Leads_first bytes [] requests rest tail x y = (requests, refl, subst (λ b. Splits b requests tail) x y)
Leads_first bytes (a ∷ served) [] rest tail x y = absurd (whole_no_tail bytes a x.0 tail x.1 (subst (λ r. IsTail r tail) (sym y.1) y.2))
Leads_first bytes (a ∷ served) (c ∷ requests) rest tail x y =
    let one = IsWhole_unique bytes a c x.0 y.1.0 x.1 y.1.1 in
    let below = Leads_first x.0 served requests rest tail x.2 (y.0, subst (λ m. Leads m requests y.0) (sym one.1) y.1.2, y.2) in
    (below.0, ap (λ c. c ∷ requests) (sym one.0) ∙ ap (λ qs. a ∷ qs) below.1, below.2)

-- whole requests with nothing behind them have no other reading
pub Leads_whole : (bytes : List ℕ) (requests others : List Request) (tail : Tail) → Leads bytes requests [] → Splits bytes others tail → (others ≡ requests) × (tail ≡ at_end)
Leads_whole bytes requests others tail x y = Splits_unique bytes others requests tail at_end y ([], x, refl)
