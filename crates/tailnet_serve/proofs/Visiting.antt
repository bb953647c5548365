-- A worker's connections, one after another.
use Rattle.std.proofs.Common.{◌≡◌, ◌+◌, ◌<◌, ◌≤◌, ℕ, suc, Option, None, Some, List, [], ◌∷◌, ◌++◌, length, refl, sym, ap, ◌∙◌, subst, arith, append_assoc}
use Rattle.std.proofs.lemmas.List.{append-nil}
use Rattle.io_edge.specs.Door.{Finished, HasRoom, IsNext, and_finished}
use Rattle.desk_front.specs.declared.front_settings.FrontSettings.{FrontSettings}
use Rattle.tailnet_desk.proofs.Histories.{Chain-map}
use Rattle.session_hub.specs.Seats.{SeatView}
use Rattle.connections.specs.Connection.{IsConnection, Told}
use Rattle.connections.specs.Exchanges.{turns_of}
use Rattle.exit_status.specs.declared.closed.Closed.{Closed}
use Rattle.tailnet_serve.specs.Runs.{IsSeatRun, IsSeatStep}
use Rattle.tailnet_serve.specs.Visits.{AreComers, AreVisits, Drawing, IsAnyTurn, IsVisit, Visit, and_all_finished, drawing_in, finished_of, visit_turns}
use Rattle.tailnet_serve.specs.Works.{HasPlaces, IsWork, Standing}
use Rattle.tailnet_serve.specs.declared.worker.WorkLimits.{WorkLimits}
use Rattle.tailnet_serve.proofs.SeatRuns.{run_append, run_chain, run_none}

-- the same connection, its turns those of any state
abbrev of_any_turns : (given : FrontSettings) (more requests : ℕ) (closed : Closed) (came left : Told) (s t : SeatView) → IsConnection IsSeatStep given more closed requests [] came left s t → IsConnection IsAnyTurn given more closed requests [] came left tt tt
of_any_turns given more requests closed came left s t serves = record {
  exchanges = serves.exchanges;
  read = serves.read;
  rest = serves.rest;
  extra = serves.extra;
  written = serves.written;
  from_source = serves.from_source;
  bytes_read = serves.bytes_read;
  each = serves.each;
  chain = Chain-map IsSeatStep IsAnyTurn (λ z. tt) (λ z e r y h. tt) s (turns_of serves.exchanges) t serves.chain;
  took = serves.took;
  extra_is = serves.extra_is;
  front = serves.front;
  to_sink = serves.to_sink;
  reads_later = serves.reads_later;
  writes_later = serves.writes_later;
  ending = serves.ending;
}

-- a connection at a seat, as a worker's
abbrev pub visit_of : {S : Type 0} (turn : _) (given : FrontSettings) (more requests : ℕ) (closed : Closed) (came left : Told) (s t : S) → IsConnection turn given more closed requests [] came left s t → Visit
visit_of turn given more requests closed came left s t serves = record { came = came; left = left; turns = turns_of serves.exchanges; closed = closed }

pub visited : (given : FrontSettings) (more requests : ℕ) (closed : Closed) (came left : Told) (s t : SeatView) (serves : IsConnection IsSeatStep given more closed requests [] came left s t)
    → IsVisit given more requests (visit_of IsSeatStep given more requests closed came left s t serves)
visited given more requests closed came left s t serves = record {
  serves = of_any_turns given more requests closed came left s t serves;
  turns_are = refl;
}

pub snoc_length : {A : Type 0} (xs : List A) (x : A) → length (xs ++ x ∷ []) ≡ length xs + 1
snoc_length [] x = refl
snoc_length (y ∷ ys) x = let e = snoc_length ys x in omega (arith, e)

-- ---- places at a door

-- a connection that was taken has a place
pub has_room : (coming behind : Option (List (List ℕ))) (finished : Option (List Finished)) (number : Option ℕ) (left holds : Option (List ℕ)) (faults : ℕ)
    → IsNext left holds coming behind → HasPlaces (record { coming = coming; finished = finished; number = number; faults = faults }) → HasRoom behind finished number
has_room None None finished number left holds faults next places = tt
has_room None (Some rest) finished number left holds faults next places = absurd (let bad : Some rest ≡ None = next in cc)
has_room (Some []) behind finished number left holds faults next places = absurd next
has_room (Some (bytes ∷ rest)) None finished number left holds faults next places = tt
has_room (Some (bytes ∷ rest)) (Some others) None number left holds faults next places = tt
has_room (Some (bytes ∷ rest)) (Some others) (Some done) None left holds faults next places = tt
has_room (Some (bytes ∷ rest)) (Some others) (Some done) (Some all) left holds faults next places =
    let e : Some others ≡ Some rest = next.2 in let same : others ≡ rest = cc in
    let fewer : suc (length rest) + length done ≤ all = places in
    subst (λ z. length z + length done < all) (sym same) (omega (arith, fewer))

-- and when it was given back there are no more than before
pub has_places : (behind : Option (List (List ℕ))) (finished : Option (List Finished)) (number : Option ℕ) (one : Finished) (faults : ℕ)
    → HasRoom behind finished number → HasPlaces (record { coming = behind; finished = and_finished finished one; number = number; faults = faults })
has_places None finished number one faults room = tt
has_places (Some rest) None number one faults room = tt
has_places (Some rest) (Some done) None one faults room = tt
has_places (Some rest) (Some done) (Some all) one faults room =
    let fewer : length rest + length done < all = room in omega (arith, fewer, snoc_length done one)

-- ---- works

-- nothing was done, but that the door's count may have risen
pub work_none : (given : FrontSettings) (limits : WorkLimits) (old new : Standing) → new.seat ≡ old.seat → new.drawing ≡ old.drawing → new.door.coming ≡ old.door.coming → new.door.finished ≡ old.door.finished → new.door.number ≡ old.door.number
    → old.door.faults ≤ new.door.faults → IsWork given limits [] old new
work_none given limits old new seat drawing coming finished number later = record {
  run = subst (λ (z : SeatView). IsSeatRun old.seat z []) (sym seat) (run_none old.seat);
  served = drawing;
  came = coming;
  given_back = finished;
  number = number;
  places = λ h. subst (λ (z : Option (List (List ℕ)) × Option (List Finished) × Option ℕ). HasPlaces (record { coming = z.0; finished = z.1; number = z.2; faults = new.door.faults })) (λ i. (sym coming i, sym finished i, sym number i)) h;
  later = later;
}

visits_append : (given : FrontSettings) (more requests : ℕ) (a b d : Drawing) (vs ws : List Visit) → AreVisits given more requests a vs b → AreVisits given more requests b ws d → AreVisits given more requests a (vs ++ ws) d
visits_append given more requests a b d [] ws p q = subst (λ (z : Drawing). AreVisits given more requests z ws d) p q
visits_append given more requests a b d (v ∷ vs) ws p q = (p.0, p.1, visits_append given more requests (drawing_in v.left) b d vs ws p.2 q)

comers_append : (a b d : Option (List (List ℕ))) (vs ws : List Visit) → AreComers a vs b → AreComers b ws d → AreComers a (vs ++ ws) d
comers_append a b d [] ws p q = subst (λ z. AreComers z ws d) p q
comers_append a b d (v ∷ vs) ws p q = (p.0, p.1, p.2, p.3, comers_append p.0 b d vs ws p.4 q)

finished_append : (f : Option (List Finished)) (vs ws : List Visit) → and_all_finished f (vs ++ ws) ≡ and_all_finished (and_all_finished f vs) ws
finished_append f [] ws = refl
finished_append f (v ∷ vs) ws = finished_append (and_finished f (finished_of v)) vs ws

turns_append : (vs ws : List Visit) → visit_turns (vs ++ ws) ≡ visit_turns vs ++ visit_turns ws
turns_append [] ws = refl
turns_append (v ∷ vs) ws = ap (λ z. v.turns ++ z) (turns_append vs ws) ∙ sym (append_assoc v.turns (visit_turns vs) (visit_turns ws))

-- one work after another
pub work_append : (given : FrontSettings) (limits : WorkLimits) (vs ws : List Visit) (a b d : Standing) → IsWork given limits vs a b → IsWork given limits ws b d → IsWork given limits (vs ++ ws) a d
work_append given limits vs ws a b d one two = record {
  run = subst (λ z. IsSeatRun a.seat d.seat z) (sym (turns_append vs ws)) (run_append a.seat b.seat d.seat (visit_turns vs) (visit_turns ws) one.run two.run);
  served = visits_append given limits.more limits.requests a.drawing b.drawing d.drawing vs ws one.served two.served;
  came = comers_append a.door.coming b.door.coming d.door.coming vs ws one.came two.came;
  given_back = two.given_back ∙ ap (λ f. and_all_finished f ws) one.given_back ∙ sym (finished_append a.door.finished vs ws);
  number = two.number ∙ one.number;
  places = λ h. two.places (one.places h);
  later = omega (arith, one.later, two.later);
}

-- a connection was taken, served and given back
pub work_once : (given : FrontSettings) (limits : WorkLimits) (closed : Closed) (came left : Told) (old new : Standing) (between : Option (List (List ℕ))) (then_finished : Option (List Finished))
    (serves : IsConnection IsSeatStep given limits.more closed limits.requests [] came left old.seat new.seat)
    → drawing_in came ≡ old.drawing → new.drawing ≡ drawing_in left
    → IsNext came.left came.giving.held old.door.coming between → came.read_faults ≡ 0 → came.giving.write_faults ≡ 0
    → new.door.coming ≡ between → new.door.finished ≡ and_finished then_finished (finished_of (visit_of IsSeatStep given limits.more limits.requests closed came left old.seat new.seat serves)) → then_finished ≡ old.door.finished
    → new.door.number ≡ old.door.number
    → old.door.faults ≤ new.door.faults
    → IsWork given limits (visit_of IsSeatStep given limits.more limits.requests closed came left old.seat new.seat serves ∷ []) old new
work_once given limits closed came left old new between then_finished serves begins ends next reads writes coming gives finishes number later =
    let v = visit_of IsSeatStep given limits.more limits.requests closed came left old.seat new.seat serves in
    let finished = gives ∙ ap (λ f. and_finished f (finished_of v)) finishes in
    record {
      run = subst (λ z. IsSeatRun old.seat new.seat z) (sym (append-nil v.turns)) (run_chain old.seat (turns_of serves.exchanges) new.seat serves.chain);
      served = (begins, visited given limits.more limits.requests closed came left old.seat new.seat serves, ends);
      came = (between, next, reads, writes, coming);
      given_back = finished;
      number = number;
      places = λ h.
          let room = has_room old.door.coming between old.door.finished old.door.number came.left came.giving.held old.door.faults next h in
          let there = has_places between old.door.finished old.door.number (finished_of v) new.door.faults room in
          subst (λ (z : Option (List (List ℕ)) × Option (List Finished) × Option ℕ). HasPlaces (record { coming = z.0; finished = z.1; number = z.2; faults = new.door.faults })) (λ i. (sym coming i, sym finished i, sym number i)) there;
      later = later;
    }

-- a connection that was taken has a place, also by what the door then tells of the others
pub has_room_still : (coming behind : Option (List (List ℕ))) (finished finished_then : Option (List Finished)) (number number_then : Option ℕ) (left holds : Option (List ℕ)) (faults : ℕ)
    → IsNext left holds coming behind → finished_then ≡ finished → number_then ≡ number → HasPlaces (record { coming = coming; finished = finished; number = number; faults = faults }) → HasRoom behind finished_then number_then
has_room_still coming behind finished finished_then number number_then left holds faults next f n places =
    subst (λ (z : Option (List Finished) × Option ℕ). HasRoom behind z.0 z.1) (λ i. (sym f i, sym n i)) (has_room coming behind finished number left holds faults next places)

-- ---- counting

-- A worker has so many connections left of those that it may take, and has taken so many; without a limit none are counted.
pub record IsLeft (connections left taken : ℕ) : Type 0 where
  pub unlimited : connections ≡ 0 → left ≡ 0
  pub limited : 0 < connections → (0 < left) × (taken + left ≡ connections)
