-- A run in whose way nothing stands ends well, and so does each of its connections at which nothing failed.
use Rattle.std.proofs.Common.{◌≡◌, ◌⊎◌, ◌||◌, ◌+◌, ℕ, Bool, Option, None, List, [], ◌∷◌, inl, inr, refl, sym, subst, true, false}
use Rattle.std.specs.List.{AllByRecursion}
use Rattle.std.proofs.lemmas.Bool.{or_parts}
use Rattle.io_edge.specs.Edge.{Rose}
use Rattle.desk_front.specs.declared.front_settings.FrontSettings.{FrontSettings}
use Rattle.exit_status.specs.declared.closed.Closed.{Closed}
use Rattle.exit_status.specs.declared.closed.Closed.TheVariants.{End, Early, ReadFault, WriteFault, NoMemory}
use Rattle.exit_status.specs.declared.status.Status.{Status}
use Rattle.exit_status.specs.declared.status.Status.TheVariants as status
use Rattle.connections.specs.Connection.{Ends, Told}
use Rattle.connections.specs.Exchanges.{Exchange}
use Rattle.session_hub.specs.declared.known.Line.{Line}
use Rattle.tailnet_commands.proofs.CompleteLemmas.{starved_unopened}
use Rattle.tailnet_commands.specs.Outside.{Outside}
use Rattle.tailnet_serve.specs.Complete.{IsServable, IsServedWell, IsServingComplete, ServesWell}
use Rattle.tailnet_serve.specs.Serve.{ServeDone, serve_status}
use Rattle.tailnet_serve.specs.Service.{AreShifts, Shift, any_starved}
use Rattle.tailnet_serve.specs.Visits.{AreVisits, Drawing, Visit, is_any_starved, is_starved}
use Rattle.tailnet_serve.specs.declared.serve_end.ServeEnd.{ServeEnd}
use Rattle.tailnet_serve.specs.declared.serve_end.ServeEnd.TheVariants as end
use Rattle.tailnet_serve.specs.declared.worker.WorkLimits.{WorkLimits}

-- by how the run ended
ends_well : (how : ServeEnd) (name : List ℕ) (old new : Outside) → ServeDone how name old new → IsServable name old new
    → (serve_status how ≡ status.Ok) ⊎ (serve_status how ≡ status.NoMemory)
ends_well (end.Unopened e) name old new done clear = inr (starved_unopened e name None old new done.0 done.1 clear.openable)
ends_well end.EntropyFault name old new done clear = absurd (clear.no_word_fault done.ran.2)
ends_well end.DoorFault name old new done clear = absurd (clear.no_door_fault done.ran.2)
ends_well end.NoMemory name old new done clear = inr refl
ends_well (end.Served true starved) name old new done clear = absurd (clear.no_door_fault (done.ran.doors_rose refl))
ends_well (end.Served false true) name old new done clear = inr refl
ends_well (end.Served false false) name old new done clear = inl refl

pub serving_complete : IsServingComplete
serving_complete s name old new outcome clear =
    subst (λ (x : Status). (x ≡ status.Ok) ⊎ (x ≡ status.NoMemory)) (sym outcome.status_is) (ends_well outcome.ended name old new outcome.done clear)

-- by how a connection ended
closed_well : (c : Closed) (xs : List Exchange) (rest extra written : List ℕ) (old new : Told) → Ends c xs rest extra written old new → is_starved c ≡ false
    → (Rose old.read_faults new.read_faults → ⊥) → (Rose old.giving.write_faults new.giving.write_faults → ⊥) → (c ≡ End) ⊎ (c ≡ Early)
closed_well End xs rest extra written old new ending fed read wrote = inl refl
closed_well Early xs rest extra written old new ending fed read wrote = inr refl
closed_well ReadFault xs rest extra written old new ending fed read wrote = absurd (read ending.3)
closed_well WriteFault xs rest extra written old new ending fed read wrote = absurd (wrote ending.1)
closed_well NoMemory xs rest extra written old new ending fed read wrote = absurd (cc)

visits_well : (given : FrontSettings) (more requests : ℕ) (before after : Drawing) (vs : List Visit) → AreVisits given more requests before vs after → is_any_starved vs ≡ false
    → AllByRecursion IsServedWell vs
visits_well given more requests before after [] served fed = tt
visits_well given more requests before after (v ∷ vs) served fed =
    let parts = or_parts (is_starved v.closed) (is_any_starved vs) fed in
    let is = served.1.serves in (
      λ read wrote. closed_well v.closed is.exchanges is.rest is.extra is.written v.came v.left is.ending parts.0 read wrote,
      visits_well given more requests _ after vs served.2 parts.1,
    )

shifts_well : (given : FrontSettings) (limits : WorkLimits) (told : Option (List (List (List ℕ)))) (start : Drawing) (history : List Line) (place : ℕ) (ws : List Shift)
    → AreShifts given limits told start history place ws → any_starved ws ≡ false → AllByRecursion (λ (w : Shift). AllByRecursion IsServedWell w.visits) ws
shifts_well given limits told start history place [] each fed = tt
shifts_well given limits told start history place (w ∷ ws) each fed =
    let parts = or_parts (is_any_starved w.visits) (any_starved ws) fed in (
      visits_well given limits.more limits.requests w.drawing w.drawing_after w.visits each.0.served parts.0,
      shifts_well given limits told start history (place + 1) ws each.1 parts.1,
    )

pub serves_well : ServesWell
serves_well failed settings old new run = shifts_well _ _ _ _ run.history 0 run.shifts run.shared.each (sym run.starved_is)
