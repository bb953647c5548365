-- The responses of a session.
use Rattle.std.proofs.Common.{◌≡◌, ◌+◌, ℕ, Bool, true, false, List, [], ◌∷◌, arith, refl, subst, if◌then◌else◌}
use Rattle.std.specs.Prelude.{IfSome, Option, Some, None}
use Rattle.tailcfg.specs.declared.patch.Patch.{Patch}
use Rattle.tailcfg.specs.declared.response.Response.{Response}
use Rattle.fresh_maps.specs.InOrder.{IsInOrder}
use Rattle.fresh_maps.specs.declared.view.View.{View}
use Rattle.map_delta.specs.Delta.{AreNumbered, change, is_empty, patches_between, responses_for, then_patch}
use Rattle.map_delta.specs.Fold.{fold_all}
use Rattle.map_delta.proofs.DeltaLaws.{delta_law}
use Rattle.map_delta.proofs.FirstLaws.{first_law}

pub session_law : (handle : List ℕ) (seq : ℕ) (sent : Option View) (new : View) → IsInOrder new
    → IfSome sent (λ old. IsInOrder old × (old.domain ≡ new.domain)) → fold_all sent (responses_for handle seq sent new) ≡ Some new
session_law handle seq None new h s = first_law new (Some handle) (Some (seq + 1)) h
session_law handle seq (Some old) new h s = delta_law old new seq s.0 h s.1

patches_numbered : (ps : List Patch) (seq : ℕ) → AreNumbered seq (then_patch ps (seq + 1))
patches_numbered [] seq = tt
patches_numbered (p ∷ ps) seq = (refl, tt)

delta_numbered : (c : Response) (ps : List Patch) (seq : ℕ) (b : Bool) → c.seq ≡ Some (seq + 1)
    → AreNumbered seq (if b then then_patch ps (seq + 1) else c ∷ then_patch ps (seq + 2))
delta_numbered c ps seq true e = patches_numbered ps seq
delta_numbered c ps seq false e =
    let next : (seq + 1) + 1 ≡ seq + 2 = omega arith in
    (e, subst (λ (n : ℕ). AreNumbered (seq + 1) (then_patch ps n)) next (patches_numbered ps (seq + 1)))

pub numbered_law : (handle : List ℕ) (seq : ℕ) (sent : Option View) (new : View) → AreNumbered seq (responses_for handle seq sent new)
numbered_law handle seq None new = (refl, tt)
numbered_law handle seq (Some old) new =
    delta_numbered (change old new (seq + 1)) (patches_between old.peers new.peers) seq (is_empty (change old new (seq + 1))) refl
