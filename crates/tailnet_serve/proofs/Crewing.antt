-- Seats of one hub, joined one after another.
use Rattle.std.proofs.Common.{◌≡◌, ◌≢◌, ◌+◌, ◌<◌, ◌≤◌, ◌==◌, ℕ, Bool, true, false, List, [], ◌∷◌, ◌++◌, map, sym, ap, ◌∙◌, subst, arith, append_assoc, if◌then◌else◌}
use mathlib.Core.Logic.{dite}
use native.Mathlib.Decide.{ℕ_discrete}
use Rattle.std.proofs.lemmas.Bool.Decides.{nat_tests}
use Rattle.std.proofs.lemmas.List.{append-nil}
use Rattle.session_hub.specs.Lines.{equals, lines_by, times}
use Rattle.session_hub.specs.Seats.{HubView, IsJoin, SeatView}
use Rattle.tailnet_serve.specs.Crews.{AreJoined}

pub same_here : (n : ℕ) → equals n n ≡ 1
same_here n = grind (arith, nat_tests)

same_else : (n x : ℕ) → n ≢ x → equals n x ≡ 0
same_else n x p = grind (arith, nat_tests)

times-append : (n : ℕ) (xs ys : List ℕ) → times n (xs ++ ys) ≡ times n xs + times n ys
times-append n [] ys = omega arith
times-append n (x ∷ xs) ys = let h = times-append n xs ys in omega arith

names_joined : (a b t : SeatView) → IsJoin a b t → t.names ≡ a.names ++ b.names
names_joined a b t j = ap (λ (z : SeatView). z.names) j.new_is

has_mine : (n : ℕ) (a b t : SeatView) → IsJoin a b t → 0 < times n a.names → 0 < times n t.names
has_mine n a b t j h = subst (λ z. 0 < times n z) (sym (names_joined a b t j)) (let e = times-append n a.names b.names in omega (arith, e, h))

has_theirs : (n : ℕ) (a b t : SeatView) → IsJoin a b t → 0 < times n b.names → 0 < times n t.names
has_theirs n a b t j h = subst (λ z. 0 < times n z) (sym (names_joined a b t j)) (let e = times-append n a.names b.names in omega (arith, e, h))

-- the lines under a name of the seat stay as they were
pub lines_kept : (n : ℕ) (seat : SeatView) (ss : List SeatView) (joined : SeatView) → AreJoined seat ss joined → 0 < times n seat.names → lines_by n joined.seen ≡ lines_by n seat.seen
lines_kept n seat [] joined e h = ap (λ (z : SeatView). lines_by n z.seen) e
lines_kept n seat (s ∷ ss) joined (between, join, rest) h =
    lines_kept n between ss joined rest (has_mine n seat s between join h) ∙ join.my_lines n h

-- and so those under a name of a seat that was joined
pub lines_taken : (n : ℕ) (seat s : SeatView) (ss : List SeatView) (joined between : SeatView) → IsJoin seat s between → AreJoined between ss joined → 0 < times n s.names → lines_by n joined.seen ≡ lines_by n s.seen
lines_taken n seat s ss joined between join rest h =
    lines_kept n between ss joined rest (has_theirs n seat s between join h) ∙ join.their_lines n h

-- no name is that of two
pub names_apart : (seat : SeatView) (ss : List SeatView) (joined : SeatView) → AreJoined seat ss joined → ((n : ℕ) → times n seat.names ≤ 1) → (n : ℕ) → times n joined.names ≤ 1
names_apart seat [] joined e h n = subst (λ (z : SeatView). times n z.names ≤ 1) (sym e) (h n)
names_apart seat (s ∷ ss) joined (between, join, rest) h n = names_apart between ss joined rest
    (λ k. subst (λ z. times k z ≤ 1) (sym (names_joined seat s between join)) (let e = times-append k seat.names s.names in let a = join.apart k in omega (arith, e, a))) n

-- seats with one name each
abbrev pub AreSingle : List SeatView → Type 0
AreSingle [] = Unit {0}
AreSingle (s ∷ ss) = (s.names ≡ s.name ∷ []) × AreSingle ss

abbrev pub seat_names : List SeatView → List ℕ
seat_names ss = map (λ (s : SeatView). s.name) ss

pub names_all : (seat : SeatView) (ss : List SeatView) (joined : SeatView) → AreJoined seat ss joined → AreSingle ss → joined.names ≡ seat.names ++ seat_names ss
names_all seat [] joined e single = ap (λ (z : SeatView). z.names) e ∙ sym (append-nil seat.names)
names_all seat (s ∷ ss) joined (between, join, rest) single =
    names_all between ss joined rest single.1
    ∙ ap (λ z. z ++ seat_names ss) (names_joined seat s between join ∙ ap (λ z. seat.names ++ z) single.0)
    ∙ append_assoc seat.names (s.name ∷ []) (seat_names ss)

pub start_all : (seat : SeatView) (ss : List SeatView) (joined : SeatView) → AreJoined seat ss joined → joined.hub ≡ seat.hub
start_all seat [] joined e = ap (λ (z : SeatView). z.hub) e
start_all seat (s ∷ ss) joined (between, join, rest) = start_all between ss joined rest ∙ ap (λ (z : SeatView). z.hub) join.new_is

-- the first seat has no line under its own name; under no further name are there any
module _ (hub : HubView) (first joined : SeatView) (ss : List SeatView) (first_is : first ≡ record { hub = hub; name = 0; names = 0 ∷ []; seen = [] }) (joining : AreJoined first ss joined) (single : AreSingle ss)
    (named : (n : ℕ) → times n joined.names ≡ 0 → lines_by n joined.seen ≡ []) where
  first_names : first.names ≡ 0 ∷ []
  first_names = ap (λ (z : SeatView). z.names) first_is

  all_names : joined.names ≡ 0 ∷ seat_names ss
  all_names = names_all first ss joined joining single ∙ ap (λ z. z ++ seat_names ss) first_names

  first_apart : (n : ℕ) → times n first.names ≤ 1
  first_apart n = subst (λ z. times n z ≤ 1) (sym first_names) (one n)
    where
      few : (b : Bool) → (if b then 1 else 0) + 0 ≤ 1
      few true = omega arith
      few false = omega arith

      one : (k : ℕ) → times k (0 ∷ []) ≤ 1
      one k = few (0 == k)

  pub names_differ : (n : ℕ) → times n (seat_names ss) ≤ 1
  names_differ n = let all = subst (λ z. times n z ≤ 1) all_names (names_apart first ss joined joining first_apart n) in omega (arith, all)

  pub no_others : (n : ℕ) → times n (seat_names ss) ≡ 0 → lines_by n joined.seen ≡ []
  no_others n none = dite (ℕ_discrete n 0)
      (λ z. ap (λ m. lines_by m joined.seen) z ∙ lines_kept 0 first ss joined joining (subst (λ y. 0 < times 0 y) (sym first_names) (let a = same_here 0 in omega (arith, a))) ∙ ap (λ (y : SeatView). lines_by 0 y.seen) first_is)
      (λ other. named n (ap (times n) all_names ∙ (let a = same_else n 0 other in omega (arith, a, none))))
