-- A worker goes on with one connection more, or stops.
use Rattle.std.proofs.Common.{◌≡◌, ◌-◌, ◌||◌, ◌<◌, ◌≤◌, ℕ, zero, suc, Bool, true, false, List, [], ◌∷◌, ◌++◌, length, refl, sym, ap, ◌∙◌, subst, arith}
use Rattle.std.proofs.Math.Bool.{or_assoc, or-false}
use Rattle.std.proofs.lemmas.List.{append-nil}
use Rattle.io_edge.specs.Edge.{IsWhereTold, Rose}
use Rattle.desk_front.specs.declared.front_settings.FrontSettings.{FrontSettings}
use Rattle.exit_status.specs.declared.closed.Closed.{Closed}
use Rattle.session_hub.specs.Seats.{HubView, SeatView}
use Rattle.tailnet_serve.specs.Runs.{IsSeatRun}
use Rattle.tailnet_serve.specs.Visits.{Visit, is_any_starved, is_starved}
use Rattle.tailnet_serve.specs.Works.{IsWork, IsWorked, Standing}
use Rattle.tailnet_serve.specs.declared.worker.Stop.TheVariants as stop
use Rattle.tailnet_serve.specs.declared.worker.WorkLimits.{WorkLimits}
use Rattle.tailnet_serve.proofs.Visiting.{IsLeft, snoc_length, work_append}

pub starved_snoc : (vs : List Visit) (v : Visit) → is_any_starved (vs ++ v ∷ []) ≡ (is_any_starved vs || is_starved v.closed)
starved_snoc [] v = or-false (is_starved v.closed)
starved_snoc (x ∷ xs) v = ap (λ z. is_starved x.closed || z) (starved_snoc xs v) ∙ sym (or_assoc (is_starved x.closed) (is_any_starved xs) (is_starved v.closed))

-- the same hub
pub same_hub : (hub : HubView) (a b : SeatView) (turns : List _) → IsSeatRun a b turns → a.hub ≡ hub → b.hub ≡ hub
same_hub hub a b turns run e = ap (λ (z : SeatView). z.hub) run.new_is ∙ e

-- nothing was taken yet
pub left_first : (connections : ℕ) → IsLeft connections connections 0
left_first connections = record { unlimited = λ e. e; limited = λ some. (some, omega arith) }

two_left : (n : ℕ) → 0 < n → (n ≡ 1 → ⊥) → 1 < n
two_left zero some more = absurd (omega (arith, some))
two_left (suc zero) some more = absurd (more refl)
two_left (suc (suc n)) some more = omega arith

pub left_then : (connections left next : ℕ) (vs : List Visit) (v : Visit) → next ≡ left - 1 → (left ≡ 1 → ⊥) → IsLeft connections left (length vs) → IsLeft connections next (length (vs ++ v ∷ []))
left_then connections left next vs v is more l = record {
  unlimited = λ e. let z = l.unlimited e in omega (arith, z, is);
  limited = λ some.
      let p = l.limited some in
      let two = two_left left p.0 more in
      (omega (arith, two, is), omega (arith, p.1, two, is, snoc_length vs v));
}

few_of : (connections left taken : ℕ) → IsLeft connections left taken → 0 < connections → taken ≤ connections
few_of connections left taken l some = let p = l.limited some in omega (arith, p.1)

module _ (given : FrontSettings) (limits : WorkLimits) (old mid new : Standing) (vs : List Visit) (left : ℕ) (starved : Bool)
    (work : IsWork given limits vs old mid) (is_left : IsLeft limits.connections left (length vs)) (is : starved ≡ is_any_starved vs) where
  -- no connection will come
  pub worked_over : IsWork given limits [] mid new → IsWhereTold [] new.door.coming → IsWorked given limits old new (record { stop = stop.Over; starved = starved })
  worked_over none told = record {
    visits = vs;
    work = subst (λ z. IsWork given limits z old new) (append-nil vs) (work_append given limits vs [] old mid new work none);
    stop = told;
    few = few_of limits.connections left (length vs) is_left;
    starved = is;
  }

  -- the door failed
  pub worked_failed : IsWork given limits [] mid new → Rose mid.door.faults new.door.faults → IsWorked given limits old new (record { stop = stop.DoorFault; starved = starved })
  worked_failed none rose = record {
    visits = vs;
    work = subst (λ z. IsWork given limits z old new) (append-nil vs) (work_append given limits vs [] old mid new work none);
    stop = omega (arith, rose, work.later);
    few = few_of limits.connections left (length vs) is_left;
    starved = is;
  }

  -- the last one was taken
  pub worked_full : (v : Visit) (closed : Closed) (starved_then : Bool) → v.closed ≡ closed → starved_then ≡ (starved || is_starved closed) → left ≡ 1 → IsWork given limits (v ∷ []) mid new → IsWorked given limits old new (record { stop = stop.Full; starved = starved_then })
  worked_full v closed starved_then closed_is then_is last one =
      let all : 0 < limits.connections = some limits.connections left last is_left in
      let n : length (vs ++ v ∷ []) ≡ limits.connections = omega (arith, (is_left.limited all).1, last, snoc_length vs v) in
      record {
        visits = vs ++ v ∷ [];
        work = work_append given limits vs (v ∷ []) old mid new work one;
        stop = (all, n);
        few = λ h. omega (arith, n);
        starved = then_is ∙ (λ i. is i || is_starved (sym closed_is i)) ∙ sym (starved_snoc vs v);
      }
    where
      some : (connections left : ℕ) → left ≡ 1 → IsLeft connections left (length vs) → 0 < connections
      some zero left last l = absurd (let z = l.unlimited refl in omega (arith, z, last))
      some (suc n) left last l = omega arith
