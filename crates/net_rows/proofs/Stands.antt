-- One row's place, and what is new of it, as tests and as facts.
use Rattle.std.proofs.Common.{◌≡◌, ◌<◌, ◌≤◌, ℕ, true, false, List, [], ◌∷◌, ◌++◌, length, arith, inl, inr, sym, ◌∙◌, ap, refl, ◌==◌, nat_lt, nat_le, not, length-append}
use Rattle.std.specs.Prelude.{Contains}
use Rattle.std.specs.List.{list_all}
use Rattle.std.specs.Str.{bytes_eq}
use Rattle.std.specs.Bool.{beq}
use Rattle.std.proofs.lemmas.List.Elements.{Contains-append_left, Contains-append_right}
use Rattle.net_addr.specs.Bits.{Address}
use Rattle.net_rows.specs.Shelf.{IsAscending, AreBelow, Tells, HasRow}
use Rattle.net_rows.specs.Damage.{stands, is_new, is_new_address, address_eq, has_user}
use Rattle.net_rows.specs.declared.user.User.{User}
use Rattle.std.proofs.lemmas.Bool.{and_parts, and_from, not-true, false_from_ne_true, leb-true, le-leb, ltb-true, lt-ltb}
use Rattle.tail_base.proofs.Bools.{all4, and4, beq-true, beq-from, bytes_eq-true, bytes_eq-from}
use Rattle.net_rows.proofs.Members.{no_member, cut_member, first_member, rest_member, cut_last, list_all_member, list_all_is, list_any_found, list_any_is}

-- The row's id is in range and above those before, and there is room.
pub record StandsAfter {T : Type 0} (id : T → ℕ) (next limit : ℕ) (before : List T) (x : T) : Type 0 where
  pub one : 1 ≤ id x
  pub below : id x < next
  pub above : (y : T) → Contains before y → id y < id x
  pub room : length before < limit

pub stands_after : {T : Type 0} (id : T → ℕ) (next limit : ℕ) (before : List T) (x : T) → stands id next limit before x ≡ true → StandsAfter id next limit before x
stands_after id next limit before x h =
    let all = all4 (nat_le 1 (id x)) (nat_lt (id x) next) (list_all (λ y. nat_lt (id y) (id x)) before) (nat_lt (length before) limit) h in
    record {
      one = leb-true 1 (id x) all.0;
      below = ltb-true (id x) next all.1;
      above = λ y m. ltb-true (id y) (id x) (list_all_member (λ y. nat_lt (id y) (id x)) before all.2 y m);
      room = ltb-true (length before) limit all.3;
    }

pub stands_is : {T : Type 0} (id : T → ℕ) (next limit : ℕ) (before : List T) (x : T) → StandsAfter id next limit before x → stands id next limit before x ≡ true
stands_is id next limit before x s =
    and4 (nat_le 1 (id x)) (nat_lt (id x) next) (list_all (λ y. nat_lt (id y) (id x)) before) (nat_lt (length before) limit)
    (le-leb 1 (id x) s.one) (lt-ltb (id x) next s.below)
    (list_all_is (λ y. nat_lt (id y) (id x)) before (λ y m. lt-ltb (id y) (id x) (s.above y m)))
    (lt-ltb (length before) limit s.room)

-- a row that stands after others makes them rise and stay in range
pub IsAscending-last : {T : Type 0} (id : T → ℕ) (before : List T) (x : T) → IsAscending id before → ((y : T) → Contains before y → id y < id x) → IsAscending id (before ++ x ∷ [])
IsAscending-last id [] x h above = (λ y m. absurd (no_member y m), tt)
IsAscending-last {T} id (z ∷ zs) x h above = (
  λ y m. elim (cut_last zs x y m) [ inl e ↦ rw e (above z (first_member z zs)) | inr r ↦ h.0 y r ],
  IsAscending-last id zs x h.1 (λ y m. above y (rest_member z zs y m)),
)

pub AreBelow-last : {T : Type 0} (id : T → ℕ) (next : ℕ) (before : List T) (x : T) → AreBelow id next before → 1 ≤ id x → id x < next → AreBelow id next (before ++ x ∷ [])
AreBelow-last id next before x h one below a m = elim (cut_last before x a m) [ inl e ↦ rw e (one, below) | inr r ↦ h a r ]

pub keeps-last : {T : Type 0} (P : T → Type 0) (before : List T) (x : T) → ((a : T) → Contains before a → P a) → P x → (a : T) → Contains (before ++ x ∷ []) a → P a
keeps-last P before x h new a m = elim (cut_last before x a m) [ inl e ↦ rw e new | inr r ↦ h a r ]

pub Tells-last : {T K : Type 0} (id : T → ℕ) (f : T → K) (before : List T) (x : T) → Tells id f before → ((y : T) → Contains before y → f y ≡ f x → ⊥) → Tells id f (before ++ x ∷ [])
Tells-last id f before x old new a b ina inb e =
    elim (cut_last before x a ina) [
      | inl ax ↦ elim (cut_last before x b inb) [
        | inl bx ↦ ap id (ax ∙ sym bx)
        | inr bold ↦ absurd (new b bold (sym e ∙ ap f ax))
      ]
      | inr aold ↦ elim (cut_last before x b inb) [
        | inl bx ↦ absurd (new a aold (e ∙ ap f bx))
        | inr bold ↦ old a b aold bold e
      ]
    ]

pub count-last : {T : Type 0} (limit : ℕ) (before : List T) (x : T) → length before < limit → length (before ++ x ∷ []) ≤ limit
count-last limit before x h = omega (arith, length-append before (x ∷ []))

-- a text is new where no row before has it
pub new_of : {T : Type 0} (f : T → List ℕ) (before : List T) (x : T) → is_new f before x ≡ true → (y : T) → Contains before y → f y ≡ f x → ⊥
new_of f before x h y m e =
    let passes = list_all_member (λ y. not (bytes_eq (f y) (f x))) before h y m in
    let fails : bytes_eq (f y) (f x) ≡ false = not-true (bytes_eq (f y) (f x)) passes in
    let bad : false ≡ true = sym fails ∙ bytes_eq-from (f y) (f x) e in
    absurd (cc)

pub new_is : {T : Type 0} (f : T → List ℕ) (before : List T) (x : T) → ((y : T) → Contains before y → f y ≡ f x → ⊥) → is_new f before x ≡ true
new_is f before x h =
    list_all_is (λ y. not (bytes_eq (f y) (f x))) before
    (λ y m. rw (false_from_ne_true (bytes_eq (f y) (f x)) (λ e. h y m (bytes_eq-true (f y) (f x) e))) refl)

pub address_of : (a b : Address) → address_eq a b ≡ true → a ≡ b
address_of a b h =
    let all = and_parts (beq a.v6 b.v6) (a.bits == b.bits) h in
    let family = beq-true a.v6 b.v6 all.0 in
    let bits : a.bits ≡ b.bits = grind (arith, all.1) in
    λ i. record { v6 = family i; bits = bits i }

pub address_is : (a b : Address) → a ≡ b → address_eq a b ≡ true
address_is a b h =
    let bits : a.bits ≡ b.bits = ap (λ (c : Address). c.bits) h in
    and_from (beq a.v6 b.v6) (a.bits == b.bits) (beq-from a.v6 b.v6 (ap (λ (c : Address). c.v6) h)) (grind (arith, bits))

pub new_address_of : {T : Type 0} (f : T → Address) (before : List T) (x : T) → is_new_address f before x ≡ true → (y : T) → Contains before y → f y ≡ f x → ⊥
new_address_of f before x h y m e =
    let passes = list_all_member (λ y. not (address_eq (f y) (f x))) before h y m in
    let fails : address_eq (f y) (f x) ≡ false = not-true (address_eq (f y) (f x)) passes in
    let bad : false ≡ true = sym fails ∙ address_is (f y) (f x) e in
    absurd (cc)

pub new_address_is : {T : Type 0} (f : T → Address) (before : List T) (x : T) → ((y : T) → Contains before y → f y ≡ f x → ⊥) → is_new_address f before x ≡ true
new_address_is f before x h =
    list_all_is (λ y. not (address_eq (f y) (f x))) before
    (λ y m. rw (false_from_ne_true (address_eq (f y) (f x)) (λ e. h y m (address_of (f y) (f x) e))) refl)

-- the user of an id is there
pub user_of : (users : List User) (n : ℕ) → has_user users n ≡ true → HasRow (λ r. r.id) users n
user_of users n h =
    let found = list_any_found (λ (u : User). u.id == n) users h in
    let is : found.0.id ≡ n = grind (arith, found.2) in
    (found.0, found.1, is)

pub user_is : (users : List User) (n : ℕ) → HasRow (λ r. r.id) users n → has_user users n ≡ true
user_is users n (u, inside, is) = list_any_is (λ (u : User). u.id == n) users u inside (grind arith)

-- Of ascending rows, one with rows before it and a rest after.
ascend_before : {T : Type 0} (id : T → ℕ) (before : List T) (x : T) (rest : List T) → IsAscending id (before ++ x ∷ rest) → (y : T) → Contains before y → id y < id x
ascend_before id [] x rest h y m = absurd (no_member y m)
ascend_before {T} id (z ∷ zs) x rest h y m =
    elim (cut_member z zs y m) [
      | inl e ↦ rw e (h.0 x (Contains-append_right zs (x ∷ rest) x (first_member x rest)))
      | inr r ↦ ascend_before id zs x rest h.1 y r
    ]

pub there : {T : Type 0} (before : List T) (x : T) (rest : List T) → Contains (before ++ x ∷ rest) x
there before x rest = Contains-append_right before (x ∷ rest) x (first_member x rest)

pub stands_among : {T : Type 0} (id : T → ℕ) (next limit : ℕ) (before : List T) (x : T) (rest : List T)
    → IsAscending id (before ++ x ∷ rest) → AreBelow id next (before ++ x ∷ rest) → length (before ++ x ∷ rest) ≤ limit
    → stands id next limit before x ≡ true
stands_among id next limit before x rest rise within count = stands_is id next limit before x (record {
  one = (within x (there before x rest)).0;
  below = (within x (there before x rest)).1;
  above = ascend_before id before x rest rise;
  room = omega (arith, length-append before (x ∷ rest));
})

-- what tells rows apart is new at each
pub new_among : {T K : Type 0} (id : T → ℕ) (f : T → K) (before : List T) (x : T) (rest : List T)
    → IsAscending id (before ++ x ∷ rest) → Tells id f (before ++ x ∷ rest) → (y : T) → Contains before y → f y ≡ f x → ⊥
new_among id f before x rest rise tells y m e =
    let lower = ascend_before id before x rest rise y m in
    let same = tells y x (Contains-append_left before (x ∷ rest) y m) (there before x rest) e in
    absurd (omega arith)
