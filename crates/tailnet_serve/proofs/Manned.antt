-- A hub's workers, from their seats to the desk that comes back.
use Rattle.std.proofs.Common.{◌≡◌, ◌+◌, ◌<◌, ℕ, zero, suc, ℤ, Bool, List, [], ◌∷◌, Option, length, map, refl, sym, ap, ◌∙◌, subst, arith, slice_index_or}
use Rattle.std.specs.Prelude.{All, IfSome}
use Rattle.io_edge.specs.Door.{Finished}
use Rattle.io_edge.specs.Edge.{RoseBy}
use Rattle.tailnet_desk.specs.Seated.{Point}
use Rattle.desk_front.specs.declared.front_settings.FrontSettings.{FrontSettings}
use Rattle.session_hub.specs.Lines.{IsReplayOf, lines_by, times}
use Rattle.session_hub.specs.Seats.{HubView, SeatView}
use Rattle.tailnet_serve.specs.Crews.{AreJoined, AreSeated, IsOpenedAt, IsReady, IsSplitDrawing, all_word_faults, has_any_starved, is_any_failed}
use Rattle.tailnet_serve.specs.Service.{AreOpenedAt, IsManned, Shift}
use Rattle.tailnet_serve.specs.Visits.{Drawing, visit_turns}
use Rattle.tailnet_serve.specs.Works.{DoorTold, HasPlaces, IsWorked, Standing, door_told, drawing, standing}
use Rattle.tailnet_serve.specs.declared.outfits.Outfit.{Outfit}
use Rattle.tailnet_serve.specs.declared.worker.Report.{Report}
use Rattle.tailnet_serve.specs.declared.worker.WorkLimits.{WorkLimits}
use Rattle.tailnet_serve.specs.declared.worker.Worker.{Worker}
use Rattle.tailnet_serve.proofs.Stopping.{same_hub}
use Rattle.tailnet_serve.proofs.Sharing.{AreBoth, AreSetUp, DidWork, doors_each, failed_each, faults_each, shared, shifts_of, starved_each}

-- there is a worker for each door
pub seated_length : {K D C N : Type 0} (first : SeatView) (ds : List D) (os : List (Outfit C N)) (ws : List (Worker K D C N)) → AreSeated first ds os ws → length ws ≡ length ds
seated_length first [] [] [] seated = refl
seated_length first (d ∷ ds) (o ∷ os) (w ∷ ws) seated = let e = seated_length first ds os ws seated.4 in omega (arith, e)
seated_length first [] [] (w ∷ ws) seated = absurd seated
seated_length first [] (o ∷ os) ws seated = absurd seated
seated_length first (d ∷ ds) [] ws seated = absurd seated
seated_length first (d ∷ ds) (o ∷ os) [] seated = absurd seated

module _ {K D C N : Type 0} (coming : D → Option (List (List ℕ))) (finished : D → Option (List Finished)) (number : D → Option ℕ) (faults : D → ℕ) (answer : C → ℕ → Option ℤ) (word : N → ℕ → Option (List ℕ)) (word_faults : N → ℕ) where
  abbrev at : Worker K D C N → Standing
  at w = standing coming finished number faults answer word word_faults w

  abbrev report_of : Worker K D C N → Report
  report_of w = w.report

  -- seated workers are set up at their doors
  pub set_up : (given : FrontSettings) (limits : WorkLimits) (told : Option (List (List (List ℕ)))) (start : Drawing) (first : SeatView) (none : first.seen ≡ []) (place : ℕ) (ds : List D) (os : List (Outfit C N)) (ws : List (Worker K D C N))
      → AreSeated first ds os ws → AreOpenedAt told place (map (door_told coming finished number faults) ds) → All (λ o. IsSplitDrawing start (drawing answer word word_faults o.clock o.entropy)) os → AreSetUp at report_of given limits told start first none place ws
  set_up given limits told start first none place [] [] [] seated opened split = tt
  set_up given limits told start first none place (d ∷ ds) (o ∷ os) (w ∷ ws) seated opened split = (
    seated.0,
    subst (λ (z : C × N). IsSplitDrawing start (drawing answer word word_faults z.0 z.1)) (λ i. (sym seated.2 i, sym seated.3 i)) (split 0 o (omega arith)),
    subst (λ (z : D). IsOpenedAt told place (door_told coming finished number faults z)) (sym seated.1) opened.0,
    set_up given limits told start first none (place + 1) ds os ws seated.4 opened.1 (λ k e lt. split (suc k) e (omega (arith, lt))),
  )
  set_up given limits told start first none place [] [] (w ∷ ws) seated opened split = absurd seated
  set_up given limits told start first none place [] (o ∷ os) ws seated opened split = absurd seated
  set_up given limits told start first none place (d ∷ ds) [] ws seated opened split = absurd seated
  set_up given limits told start first none place (d ∷ ds) (o ∷ os) [] seated opened split = absurd seated

  -- and sit at the hub, at doors with a place for each connection
  pub ready : (hub : HubView) (first : SeatView) (ds : List D) (os : List (Outfit C N)) (ws : List (Worker K D C N)) → AreSeated first ds os ws → first.hub ≡ hub → All (λ d. HasPlaces (door_told coming finished number faults d)) ds
      → All (λ (w : Worker K D C N). IsReady hub w.seat (door_told coming finished number faults w.door)) ws
  ready hub first [] [] [] seated e places k w lt = absurd (omega (arith, lt))
  ready hub first (d ∷ ds) (o ∷ os) (v ∷ ws) seated e places zero w lt = (seated.0.hub ∙ e, subst (λ (z : D). HasPlaces (door_told coming finished number faults z)) (sym seated.1) (places 0 d (omega arith)))
  ready hub first (d ∷ ds) (o ∷ os) (v ∷ ws) seated e places (suc k) w lt = ready hub first ds os ws seated.4 e (λ j b l. places (suc j) b (omega (arith, l))) k w (omega (arith, lt))
  ready hub first [] [] (v ∷ ws) seated e places k w lt = absurd seated
  ready hub first [] (o ∷ os) ws seated e places k w lt = absurd seated
  ready hub first (d ∷ ds) [] ws seated e places k w lt = absurd seated
  ready hub first (d ∷ ds) (o ∷ os) [] seated e places k w lt = absurd seated

  -- and sit there when they have worked
  pub stay : (given : FrontSettings) (limits : WorkLimits) (hub : HubView) (vs ws : List (Worker K D C N)) → length ws ≡ length vs → All (λ (w : Worker K D C N). IsReady hub w.seat (door_told coming finished number faults w.door)) vs
      → ((i : ℕ) (d : Worker K D C N) → i < length vs → IsWorked given limits (at (slice_index_or vs i d)) (at (slice_index_or ws i d)) (slice_index_or ws i d).report) → All (λ (w : Worker K D C N). w.seat.hub ≡ hub) ws
  stay given limits hub vs ws same sit worked k d lt =
      let within : k < length vs = omega (arith, same, lt) in
      same_hub hub (slice_index_or vs k d).seat (slice_index_or ws k d).seat (visit_turns (worked k d within).visits) (worked k d within).work.run (sit k d within).0

  module _ (given : FrontSettings) (limits : WorkLimits) (told : Option (List (List (List ℕ)))) (start : Drawing) (hub : HubView) (first joined : SeatView) (vs ws : List (Worker K D C N)) (count : ℕ)
      (first_is : first ≡ record { hub = hub; name = 0; names = 0 ∷ []; seen = [] }) where
    abbrev none_seen : first.seen ≡ []
    none_seen = ap (λ (z : SeatView). z.seen) first_is

    abbrev Did : List (Worker K D C N) → List (Worker K D C N) → Type 0
    Did = AreBoth (DidWork at report_of given limits told start first none_seen)

    abbrev done : Did vs ws → List Shift
    done h = shifts_of at report_of given limits told start first none_seen vs ws h

    shifts_length : (us ts : List (Worker K D C N)) (h : Did us ts) → length (shifts_of at report_of given limits told start first none_seen us ts h) ≡ length us
    shifts_length [] [] h = refl
    shifts_length [] (t ∷ ts) h = absurd h
    shifts_length (u ∷ us) [] h = absurd h
    shifts_length (u ∷ us) (t ∷ ts) h = let e = shifts_length us ts h.1 in omega (arith, e)

    pub manned : (failed starved : Bool) (left : List DoorTold) (final : Point) (before after : ℕ) → length vs ≡ count
        → AreSetUp at report_of given limits told start first none_seen 0 vs → Did vs ws → AreJoined first (map (λ w. w.seat) ws) joined
        → IfSome hub.start (λ begin. IsReplayOf begin joined.seen final) → ((n : ℕ) → times n joined.names ≡ 0 → lines_by n joined.seen ≡ [])
        → failed ≡ is_any_failed ws → starved ≡ has_any_starved ws → left ≡ map (λ w. door_told coming finished number faults w.door) ws → RoseBy (all_word_faults word_faults ws) before after
        → IsManned given limits told start failed starved hub count left final before after
    manned failed starved left final before after number set did joining stands named failed_is starved_is left_is rose = record {
      history = joined.seen;
      stands = stands;
      shifts = done did;
      shared = shared at report_of given limits told start first none_seen hub joined vs ws first_is set did joining named;
      failed_is = failed_is ∙ failed_each at report_of given limits told start first none_seen vs ws did is_any_failed refl (λ w xs. refl);
      starved_is = starved_is ∙ starved_each at report_of given limits told start first none_seen vs ws did has_any_starved refl (λ w xs. refl);
      left_is = left_is ∙ doors_each at report_of given limits told start first none_seen vs ws did;
      number = shifts_length vs ws did ∙ number;
      words_rose = subst (λ n. RoseBy n before after) (faults_each at report_of given limits told start first none_seen vs ws did (all_word_faults word_faults) refl (λ w xs. refl)) rose;
    }
