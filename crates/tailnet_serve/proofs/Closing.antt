-- Doors that are closed again, by what each of them told.
use Rattle.std.proofs.Common.{◌≡◌, ◌+◌, ◌-◌, ◌≤◌, ◌^◌, ◌||◌, ℕ, Bool, true, false, Option, List, [], ◌∷◌, map, min, sum_by, refl, sym, ap, ◌∙◌, subst, arith}
use Rattle.std.proofs.lemmas.List.Sums.{sum_by-cons}
use Rattle.io_edge.specs.Edge.{Rose}
use Rattle.desk_front.specs.declared.front_settings.FrontSettings.{FrontSettings}
use Rattle.session_hub.specs.declared.known.Line.{Line}
use Rattle.tailnet_serve.specs.Crews.{is_door_fault}
use Rattle.tailnet_serve.specs.Service.{AreShifts, Shift, any_failed}
use Rattle.tailnet_serve.specs.Visits.{Drawing, Visit}
use Rattle.tailnet_serve.specs.Works.{DoorTold, IsStop}
use Rattle.tailnet_serve.specs.declared.worker.Stop.{Stop}
use Rattle.tailnet_serve.specs.declared.worker.Stop.TheVariants as stop
use Rattle.tailnet_serve.specs.declared.worker.WorkLimits.{WorkLimits}

pub map_map : {A B D : Type 0} (f : A → B) (g : B → D) (xs : List A) → map g (map f xs) ≡ map (λ x. g (f x)) xs
map_map f g [] = refl
map_map f g (x ∷ xs) = ap (λ z. g (f x) ∷ z) (map_map f g xs)

pub sum_map : {A B : Type 0} (f : A → B) (g : B → ℕ) (xs : List A) → sum_by g (map f xs) ≡ sum_by (λ x. g (f x)) xs
sum_map f g [] = refl
sum_map f g (x ∷ xs) = sum_by-cons g (f x) (map f xs) ∙ ap (λ n. g (f x) + n) (sum_map f g xs) ∙ sym (sum_by-cons (λ y. g (f y)) x xs)

-- the door of a worker that stopped so has a fault
faulty : (s : Stop) (connections : ℕ) (visits : List Visit) (old new : DoorTold) → IsStop s connections visits old new → is_door_fault s ≡ true → 1 ≤ new.faults
faulty stop.Over connections visits old new h e = absurd (let bad : false ≡ true = e in cc)
faulty stop.Full connections visits old new h e = absurd (let bad : false ≡ true = e in cc)
faulty stop.DoorFault connections visits old new h e = omega (arith, h)

abbrev pub faults_after : List Shift → ℕ
faults_after ws = sum_by (λ (d : DoorTold). d.faults) (map (λ (w : Shift). w.door_after) ws)

either : (a b : Bool) (n m : ℕ) → (a ≡ true → 1 ≤ n) → (b ≡ true → 1 ≤ m) → (a || b) ≡ true → 1 ≤ n + m
either true b n m f g e = let h = f refl in omega (arith, h)
either false b n m f g e = let h = g e in omega (arith, h)

-- if a door failed there are faults
pub failed_sum : (given : FrontSettings) (limits : WorkLimits) (told : Option (List (List (List ℕ)))) (start : Drawing) (history : List Line) (place : ℕ) (ws : List Shift) → AreShifts given limits told start history place ws → any_failed ws ≡ true → 1 ≤ faults_after ws
failed_sum given limits told start history place [] h e = absurd (let bad : false ≡ true = e in cc)
failed_sum given limits told start history place (w ∷ ws) h e =
    subst (λ n. 1 ≤ n) (sym (sum_by-cons (λ (d : DoorTold). d.faults) w.door_after (map (λ (v : Shift). v.door_after) ws)))
    (either (is_door_fault w.stop) (any_failed ws) w.door_after.faults (faults_after ws)
    (faulty w.stop limits.connections w.visits w.door w.door_after h.0.stops)
    (failed_sum given limits told start history (place + 1) ws h.1) e)

pub rose_by_one : (before now n : ℕ) → now ≡ min (before + n) (2 ^ 64 - 1) → 1 ≤ n → Rose before now
rose_by_one before now n e some = omega (arith, e, some)
