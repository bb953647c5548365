-- A keeper that has loaded knows its store.
use Rattle.std.proofs.Common.{◌≡◌, Bool, true, false, refl, sym}
use Rattle.std.proofs.lemmas.Bool.{true≢false}
use Rattle.sqlite.specs.State.{State}
use Rattle.store_loads.specs.Tells.{IsKnown}
use Rattle.store_loads.proofs.Loading.{by_known, known_by}
use Rattle.keeper_sqlite.specs.Known.{knows_if_loaded}

pub kept_known : (is_loaded : Bool) (s : State) → is_loaded ≡ true → knows_if_loaded is_loaded s ≡ true → IsKnown s
unfolding knows_if_loaded
kept_known true s loaded h = known_by s h
kept_known false s loaded h = absurd (true≢false (sym loaded))

pub known_kept : (is_loaded : Bool) (s : State) → (is_loaded ≡ true → IsKnown s) → knows_if_loaded is_loaded s ≡ true
unfolding knows_if_loaded
known_kept true s known = by_known s (known refl)
known_kept false s known = refl

pub kept_on : (is_loaded : Bool) (old new : State) → knows_if_loaded is_loaded old ≡ true → (IsKnown old → IsKnown new) → knows_if_loaded is_loaded new ≡ true
kept_on is_loaded old new kept on = known_kept is_loaded new (λ loaded. on (kept_known is_loaded old loaded kept))

pub kept_new : (s : State) → knows_if_loaded false s ≡ true
unfolding knows_if_loaded
kept_new s = refl
