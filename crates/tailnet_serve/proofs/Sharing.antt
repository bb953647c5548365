-- What workers did is one history that they share.
use Rattle.std.proofs.Common.{◌≡◌, ◌+◌, ◌||◌, ◌<◌, ◌≤◌, ℕ, zero, suc, Bool, false, List, [], ◌∷◌, ◌++◌, Option, None, Some, length, map, refl, sym, ap, ◌∙◌, subst, arith, slice_index_or, slice_get}
use Rattle.std.specs.Prelude.{All, IfSome}
use Rattle.io_edge.specs.Door.{Finished, IsOpenedWith, for_place}
use Rattle.tailnet_desk.specs.Chains.{turned_of}
use Rattle.desk_front.specs.declared.front_settings.FrontSettings.{FrontSettings}
use Rattle.session_hub.specs.declared.known.Line.{Line}
use Rattle.session_hub.specs.Lines.{lines_by, times}
use Rattle.session_hub.specs.Seats.{HubView, IsSplit, SeatView}
use Rattle.tailnet_serve.specs.Crews.{AreJoined, IsOpenedAt, IsSplitDrawing, is_door_fault}
use Rattle.tailnet_serve.specs.Runs.{turns_by}
use Rattle.tailnet_serve.specs.Service.{AreOpenedAt, AreShifts, IsShared, Shift, any_failed, any_starved, shift_names, word_faults_of}
use Rattle.tailnet_serve.specs.Visits.{Drawing, visit_turns}
use Rattle.tailnet_serve.specs.Works.{DoorTold, HasPlaces, IsWorked, Standing}
use Rattle.tailnet_serve.specs.declared.worker.Report.{Report}
use Rattle.tailnet_serve.specs.declared.worker.WorkLimits.{WorkLimits}
use Rattle.tailnet_serve.proofs.Crewing.{AreSingle, lines_taken, names_differ, no_others, same_here, seat_names}

-- ---- lists by place

-- what holds at each place of two lists of one length
abbrev pub AreBoth : {X : Type 0} → (X → X → Type 0) → List X → List X → Type 0
AreBoth R [] [] = Unit {0}
AreBoth R (x ∷ xs) (y ∷ ys) = R x y × AreBoth R xs ys
AreBoth R _ _ = ⊥

pub both_of : {X : Type 0} (R : X → X → Type 0) (xs ys : List X) → length ys ≡ length xs → ((i : ℕ) (d : X) → i < length xs → R (slice_index_or xs i d) (slice_index_or ys i d)) → AreBoth R xs ys
both_of R [] [] e each = tt
both_of R [] (y ∷ ys) e each = absurd (omega (arith, e))
both_of R (x ∷ xs) [] e each = absurd (omega (arith, e))
both_of R (x ∷ xs) (y ∷ ys) e each = (each 0 x (omega arith), both_of R xs ys (omega (arith, e)) (λ i d lt. each (suc i) d (omega (arith, lt))))

pub nil_of : {X : Type 0} (xs : List X) → length xs ≡ 0 → xs ≡ []
nil_of [] e = refl
nil_of (x ∷ xs) e = absurd (omega (arith, e))

pub all_tail : {X : Type 0} (P : X → Type 0) (x : X) (xs : List X) → All P (x ∷ xs) → All P xs
all_tail P x xs all k d lt = all (suc k) d (omega (arith, lt))

-- each of these doors has the connections that are told for its place
abbrev AreEachOpened : {D : Type 0} → (D → DoorTold) → Option (List (List (List ℕ))) → ℕ → List D → Type 0
AreEachOpened at t place ds = IfSome t (λ all. (i : ℕ) → IfSome (slice_get ds i) (λ d. IsOpenedWith (for_place all (place + i)) (at d).coming (at d).finished (at d).number))

-- doors that were just opened, each at its place
pub opened_each : {D : Type 0} (at : D → DoorTold) (told : Option (List (List (List ℕ)))) (place : ℕ) (ds : List D)
    → AreEachOpened at told place ds
    → All (λ d. (at d).faults ≡ 0) ds → AreOpenedAt told place (map at ds)
opened_each at told place [] each fresh = tt
opened_each {D} at told place (d ∷ ds) each fresh = (
  record { opened = first told each; fresh = fresh 0 d (omega arith) },
  opened_each at told (place + 1) ds (others told each) (all_tail (λ d. (at d).faults ≡ 0) d ds fresh),
)
  where
    first : (t : Option (List (List (List ℕ)))) → AreEachOpened at t place (d ∷ ds) → IfSome t (λ all. IsOpenedWith (for_place all place) (at d).coming (at d).finished (at d).number)
    first None h = tt
    first (Some all) h = subst (λ n. IsOpenedWith (for_place all n) (at d).coming (at d).finished (at d).number) (omega arith) (h 0)

    others : (t : Option (List (List (List ℕ)))) → AreEachOpened at t place (d ∷ ds) → AreEachOpened at t (place + 1) ds
    others None h = tt
    others (Some all) h = λ i. subst (λ n. IfSome (slice_get ds i) (λ d. IsOpenedWith (for_place all n) (at d).coming (at d).finished (at d).number)) (omega arith) (h (suc i))

-- the same of all doors, the first of them at place 0
from_first : {D : Type 0} (at : D → DoorTold) (told : Option (List (List (List ℕ)))) (ds : List D)
    → IfSome told (λ all. (i : ℕ) → IfSome (slice_get ds i) (λ d. IsOpenedWith (for_place all i) (at d).coming (at d).finished (at d).number)) → AreEachOpened at told 0 ds
from_first at None ds h = tt
from_first at (Some all) ds h = λ i. subst (λ n. IfSome (slice_get ds i) (λ d. IsOpenedWith (for_place all n) (at d).coming (at d).finished (at d).number)) (omega arith) (h i)

pub opened_first : {D : Type 0} (at : D → DoorTold) (told : Option (List (List (List ℕ)))) (ds : List D)
    → IfSome told (λ all. (i : ℕ) → IfSome (slice_get ds i) (λ d. IsOpenedWith (for_place all i) (at d).coming (at d).finished (at d).number))
    → All (λ d. (at d).faults ≡ 0) ds → AreOpenedAt told 0 (map at ds)
opened_first at told ds h fresh = opened_each at told 0 ds (from_first at told ds h) fresh

-- ---- shifts

module _ {X : Type 0} (at : X → Standing) (report : X → Report) (given : FrontSettings) (limits : WorkLimits) (told : Option (List (List (List ℕ)))) (start : Drawing) (first : SeatView) (none_seen : first.seen ≡ []) where
  -- workers as they begin, the first of them at this place
  abbrev pub AreSetUp : ℕ → List X → Type 0
  AreSetUp place [] = Unit {0}
  AreSetUp place (v ∷ vs) = IsSplit first (at v).seat × IsSplitDrawing start (at v).drawing × IsOpenedAt told place (at v).door × AreSetUp (place + 1) vs

  abbrev pub DidWork : X → X → Type 0
  DidWork v w = IsWorked given limits (at v) (at w) (report w)

  abbrev shift_of : (v w : X) → DidWork v w → Shift
  shift_of v w k = record {
    name = (at v).seat.name;
    visits = k.visits;
    stop = (report w).stop;
    drawing = (at v).drawing;
    drawing_after = (at w).drawing;
    door = (at v).door;
    door_after = (at w).door;
  }

  abbrev pub shifts_of : (vs ws : List X) → AreBoth DidWork vs ws → List Shift
  shifts_of [] [] h = []
  shifts_of [] (w ∷ ws) h = []
  shifts_of (v ∷ vs) [] h = []
  shifts_of (v ∷ vs) (w ∷ ws) h = shift_of v w h.0 ∷ shifts_of vs ws h.1

  abbrev pub seats_of : List X → List SeatView
  seats_of ws = map (λ w. (at w).seat) ws

  name_same : (v w : X) → DidWork v w → (at w).seat.name ≡ (at v).seat.name
  name_same v w k = ap (λ (z : SeatView). z.name) k.work.run.new_is

  names_single : (v w : X) → IsSplit first (at v).seat → DidWork v w → (at w).seat.names ≡ (at w).seat.name ∷ []
  names_single v w s k = ap (λ (z : SeatView). z.names) k.work.run.new_is ∙ s.names ∙ ap (λ n. n ∷ []) (sym (name_same v w k))

  pub single_each : (place : ℕ) (vs ws : List X) → AreSetUp place vs → AreBoth DidWork vs ws → AreSingle (seats_of ws)
  single_each place [] [] set h = tt
  single_each place [] (w ∷ ws) set h = absurd h
  single_each place (v ∷ vs) [] set h = absurd h
  single_each place (v ∷ vs) (w ∷ ws) set h = (names_single v w set.0 h.0, single_each (place + 1) vs ws set.3 h.1)

  pub names_each : (vs ws : List X) (h : AreBoth DidWork vs ws) → shift_names (shifts_of vs ws h) ≡ seat_names (seats_of ws)
  names_each [] [] h = refl
  names_each [] (w ∷ ws) h = absurd h
  names_each (v ∷ vs) [] h = absurd h
  names_each (v ∷ vs) (w ∷ ws) h = λ i. sym (name_same v w h.0) i ∷ names_each vs ws h.1 i

  -- under the worker's name the history has its own turns
  own_turns : (v w : X) (history : List Line) → IsSplit first (at v).seat → (k : DidWork v w) → lines_by (at w).seat.name history ≡ lines_by (at w).seat.name (at w).seat.seen → turns_by (at v).seat.name history ≡ visit_turns k.visits
  own_turns v w history s k e =
      let turned = map (λ (l : Line). turned_of l.entry) in
      ap (λ n. turned (lines_by n history)) (sym (name_same v w k)) ∙ ap turned e ∙ ap (λ n. turned (lines_by n (at w).seat.seen)) (name_same v w k)
      ∙ k.work.run.own ∙ ap (λ z. turns_by (at v).seat.name z ++ visit_turns k.visits) (s.seen ∙ none_seen)

  pub shifts_each : (place : ℕ) (vs ws : List X) (seat joined : SeatView) → AreSetUp place vs → (h : AreBoth DidWork vs ws) → AreJoined seat (seats_of ws) joined → AreShifts given limits told start joined.seen place (shifts_of vs ws h)
  shifts_each place [] [] seat joined set h joining = tt
  shifts_each place [] (w ∷ ws) seat joined set h joining = absurd h
  shifts_each place (v ∷ vs) [] seat joined set h joining = absurd h
  shifts_each place (v ∷ vs) (w ∷ ws) seat joined set h (between, join, rest) =
      let k = h.0 in
      let has : 0 < times (at w).seat.name (at w).seat.names = subst (λ z. 0 < times (at w).seat.name z) (sym (names_single v w set.0 k)) (let a = same_here (at w).seat.name in omega (arith, a)) in (
        record {
          own = own_turns v w joined.seen set.0 k (lines_taken (at w).seat.name seat (at w).seat (seats_of ws) joined between join rest has);
          split = set.1;
          opened = set.2;
          served = k.work.served;
          came = k.work.came;
          given_back = k.work.given_back;
          stops = k.stop;
          few = k.few;
        },
        shifts_each (place + 1) vs ws between joined set.3 h.1 rest,
      )

  -- they share the history that the seats saw that were joined
  pub shared : (hub : HubView) (joined : SeatView) (vs ws : List X) → first ≡ record { hub = hub; name = 0; names = 0 ∷ []; seen = [] } → AreSetUp 0 vs → (h : AreBoth DidWork vs ws) → AreJoined first (seats_of ws) joined
      → ((n : ℕ) → times n joined.names ≡ 0 → lines_by n joined.seen ≡ []) → IsShared given limits told start joined.seen (shifts_of vs ws h)
  shared hub joined vs ws first_is set h joining named =
      let single = single_each 0 vs ws set h in
      let names = names_each vs ws h in
      record {
        each = shifts_each 0 vs ws first joined set h joining;
        apart = λ n. subst (λ z. times n z ≤ 1) (sym names) (names_differ hub first joined (seats_of ws) first_is joining single named n);
        others = λ n none. no_others hub first joined (seats_of ws) first_is joining single named n (ap (times n) (sym names) ∙ none);
      }

  pub failed_each : (vs ws : List X) (h : AreBoth DidWork vs ws) (any : List X → Bool) → any [] ≡ false → ((w : X) (xs : List X) → any (w ∷ xs) ≡ (is_door_fault (report w).stop || any xs)) → any ws ≡ any_failed (shifts_of vs ws h)
  failed_each [] [] h any none more = none
  failed_each [] (w ∷ ws) h any none more = absurd h
  failed_each (v ∷ vs) [] h any none more = absurd h
  failed_each (v ∷ vs) (w ∷ ws) h any none more = more w ws ∙ ap (λ z. is_door_fault (report w).stop || z) (failed_each vs ws h.1 any none more)

  pub starved_each : (vs ws : List X) (h : AreBoth DidWork vs ws) (any : List X → Bool) → any [] ≡ false → ((w : X) (xs : List X) → any (w ∷ xs) ≡ ((report w).starved || any xs)) → any ws ≡ any_starved (shifts_of vs ws h)
  starved_each [] [] h any none more = none
  starved_each [] (w ∷ ws) h any none more = absurd h
  starved_each (v ∷ vs) [] h any none more = absurd h
  starved_each (v ∷ vs) (w ∷ ws) h any none more = more w ws ∙ (λ i. h.0.starved i || starved_each vs ws h.1 any none more i)

  pub faults_each : (vs ws : List X) (h : AreBoth DidWork vs ws) (all : List X → ℕ) → all [] ≡ 0 → ((w : X) (xs : List X) → all (w ∷ xs) ≡ (at w).drawing.word_faults + all xs) → all ws ≡ word_faults_of (shifts_of vs ws h)
  faults_each [] [] h all none more = none
  faults_each [] (w ∷ ws) h all none more = absurd h
  faults_each (v ∷ vs) [] h all none more = absurd h
  faults_each (v ∷ vs) (w ∷ ws) h all none more = more w ws ∙ ap (λ z. (at w).drawing.word_faults + z) (faults_each vs ws h.1 all none more)

  pub doors_each : (vs ws : List X) (h : AreBoth DidWork vs ws) → map (λ w. (at w).door) ws ≡ map (λ (s : Shift). s.door_after) (shifts_of vs ws h)
  doors_each [] [] h = refl
  doors_each [] (w ∷ ws) h = absurd h
  doors_each (v ∷ vs) [] h = absurd h
  doors_each (v ∷ vs) (w ∷ ws) h = ap (λ z. (at w).door ∷ z) (doors_each vs ws h.1)

-- ---- places of doors that were just opened

places_none : (coming : Option (List (List ℕ))) (finished : Option (List Finished)) (number : Option ℕ) (faults : ℕ) → coming ≡ None → HasPlaces (record { coming = coming; finished = finished; number = number; faults = faults })
places_none None finished number faults e = tt
places_none (Some some) finished number faults e = absurd (let bad : Some some ≡ None = e in cc)

places_opened : (connections : List (List ℕ)) (d : DoorTold) → IsOpenedWith connections d.coming d.finished d.number → HasPlaces d
places_opened connections d o =
    let there : HasPlaces (record { coming = Some connections; finished = Some []; number = Some (length connections); faults = d.faults }) = omega arith in
    subst (λ (z : Option (List (List ℕ)) × Option (List Finished) × Option ℕ). HasPlaces (record { coming = z.0; finished = z.1; number = z.2; faults = d.faults })) (λ i. (sym o.come i, sym o.none i, sym o.all i)) there

-- doors that tell their connections have places for all; others don't tell what comes
pub places_each : {D : Type 0} (at : D → DoorTold) (told : Option (List (List (List ℕ)))) (place : ℕ) (ds : List D) → AreEachOpened at told place ds → (told ≡ None → All (λ d. (at d).coming ≡ None) ds) → All (λ d. HasPlaces (at d)) ds
places_each at None place ds each none k d lt =
    let e = at (slice_index_or ds k d) in places_none e.coming e.finished e.number e.faults (none refl k d lt)
places_each at (Some all) place [] each none k d lt = absurd (omega (arith, lt))
places_each at (Some all) place (d ∷ ds) each none zero e lt = places_opened (for_place all (place + 0)) (at d) (each 0)
places_each at (Some all) place (d ∷ ds) each none (suc k) e lt =
    places_each at (Some all) (place + 1) ds (λ i. subst (λ n. IfSome (slice_get ds i) (λ b. IsOpenedWith (for_place all n) (at b).coming (at b).finished (at b).number)) (omega arith) (each (suc i))) (λ bad. absurd (let no : Some all ≡ None = bad in cc)) k e (omega (arith, lt))

pub places_first : {D : Type 0} (at : D → DoorTold) (told : Option (List (List (List ℕ)))) (ds : List D)
    → IfSome told (λ all. (i : ℕ) → IfSome (slice_get ds i) (λ d. IsOpenedWith (for_place all i) (at d).coming (at d).finished (at d).number))
    → (told ≡ None → All (λ d. (at d).coming ≡ None) ds) → All (λ d. HasPlaces (at d)) ds
places_first at told ds h none = places_each at told 0 ds (from_first at told ds h) none
