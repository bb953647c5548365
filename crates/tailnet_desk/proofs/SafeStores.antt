-- What a crash leaves of what keeps rows, before a desk is over it and after.
use Rattle.std.proofs.Common.{◌≡◌, ◌⊎◌, inl, inr, Bool, Option, Some, None, refl, sym, subst}
use Rattle.std.specs.Prelude.{IfSome, IsSome, IsTrue}
use Rattle.io_edge.specs.Edge.{IsWhereTold, StillTells}
use Rattle.net_rows.specs.declared.rows.Rows.{Rows}
use Rattle.row_keeper.specs.Crashes.{LeavesNoMore}
use Rattle.tailnet_desk.specs.Crashes.{IsSafeDesk, IsSafeStore, LeavesAlso, OrOneMore}
use Rattle.tailnet_desk.specs.Seated.{Seated}

-- what may be found, where it is told that these rows are kept
abbrev Leaves : Bool → (Option Rows → Type 0) → Option Rows → Type 0
Leaves is_clean may told = IsTrue is_clean → IfSome told (λ rows. (found : Option Rows) → may found → OrOneMore rows found)

handed : (a_clean b_clean : Bool) (a_may b_may : Option Rows → Type 0) (a b : Option Rows) → StillTells a b → IfSome a (λ rows. LeavesNoMore a_clean a_may b_clean b_may)
    → Leaves a_clean a_may a → Leaves b_clean b_may b
handed a_clean b_clean a_may b_may a None still more safe clean = tt
handed a_clean b_clean a_may b_may None (Some y) still more safe clean = absurd (let bad : None ≡ Some y = still in cc)
handed a_clean b_clean a_may b_may (Some x) (Some y) still more safe clean =
    let e : Some x ≡ Some y = still in
    let same : x ≡ y = cc in
    λ found may. subst (λ rows. OrOneMore rows found) same (safe (more.clean clean) found (more.crash clean found may))

-- what takes over what another kept, and leaves no more
pub store_handed : {A B : Type 0} (a_told : A → Option Rows) (a_clean : A → Bool) (a_may : A → Option Rows → Type 0) (b_told : B → Option Rows) (b_clean : B → Bool) (b_may : B → Option Rows → Type 0) (a : A) (b : B)
    → StillTells (a_told a) (b_told b) → IfSome (a_told a) (λ rows. LeavesNoMore (a_clean a) (a_may a) (b_clean b) (b_may b))
    → IsSafeStore a_told a_clean a_may a → IsSafeStore b_told b_clean b_may b
store_handed a_told a_clean a_may b_told b_clean b_may a b still more safe = handed (a_clean a) (b_clean b) (a_may a) (b_may b) (a_told a) (b_told b) still more safe

-- where it was told, what is given tells the same
pub given_still : (a b : Option Rows) → IsSome a → IfSome a (λ rows. b ≡ Some rows) → StillTells a b
given_still None b tells gives = absurd cc
given_still (Some x) None tells gives = tt
given_still (Some x) (Some y) tells gives = sym gives

module _ {K : Type 0} (told : K → Option Rows) (is_clean : K → Bool) (may_leave : K → Option Rows → Type 0) where
  loaded : (k_clean l_clean : Bool) (k_may l_may : Option Rows → Type 0) (k l : Option Rows) → StillTells k l
      → IfSome k (λ rows. (IsTrue l_clean → IsTrue k_clean) × (IsTrue l_clean → (found : Option Rows) → l_may found → k_may found ⊎ (found ≡ Some rows)))
      → Leaves k_clean k_may k → Leaves l_clean l_may l
  loaded k_clean l_clean k_may l_may k None still also safe clean = tt
  loaded k_clean l_clean k_may l_may None (Some y) still also safe clean = absurd (let bad : None ≡ Some y = still in cc)
  loaded k_clean l_clean k_may l_may (Some x) (Some y) still also safe clean =
      let e : Some x ≡ Some y = still in
      let same : x ≡ y = cc in
      λ found may. subst (λ rows. OrOneMore rows found) same (elim (also.1 clean found may) [ inl was ↦ safe (also.0 clean) found was | inr now ↦ inl now ])

  also_of : (k : Option Rows) (a l : K) → told a ≡ k → IfSome k (λ rows. LeavesAlso told is_clean may_leave a rows l)
      → IfSome k (λ rows. (IsTrue (is_clean l) → IsTrue (is_clean a)) × (IsTrue (is_clean l) → (found : Option Rows) → may_leave l found → may_leave a found ⊎ (found ≡ Some rows)))
  also_of None a l is also = tt
  also_of (Some rows) a l is also = (also.clean, λ clean. also.crash clean (rw is refl))

  -- a keeper whose rows were loaded
  pub store_loaded : (k l : K) → StillTells (told k) (told l) → IfSome (told k) (λ rows. LeavesAlso told is_clean may_leave k rows l)
      → IsSafeStore told is_clean may_leave k → IsSafeStore told is_clean may_leave l
  store_loaded k l still also safe = loaded (is_clean k) (is_clean l) (may_leave k) (may_leave l) (told k) (told l) still (also_of (told k) k l refl also) safe

  rows_of : (rows : Rows) (o : Option Rows) (found : Option Rows) → IsWhereTold rows o → IsSome o → IfSome o (λ r. OrOneMore r found) → OrOneMore rows found
  rows_of rows None found is tells h = absurd cc
  rows_of rows (Some r) found is tells h = subst (λ x. OrOneMore x found) (sym is) h

  found_of : (o : Option Rows) (may : Option Rows → Type 0) (found : Option Rows) → may found → IfSome o (λ rows. (f : Option Rows) → may f → OrOneMore rows f) → IfSome o (λ rows. OrOneMore rows found)
  found_of None may found is h = tt
  found_of (Some r) may found is h = h found is

  -- a desk over a keeper
  pub desk_over : (d : Seated K) → IsWhereTold d.state.rows (told d.keeper) → IsSafeStore told is_clean may_leave d.keeper → IsSafeDesk told is_clean may_leave d
  desk_over d is safe clean tells found may = rows_of d.state.rows (told d.keeper) found is tells (found_of (told d.keeper) (may_leave d.keeper) found may (safe clean))

  leaves_of : (rows : Rows) (o : Option Rows) (may : Option Rows → Type 0) → IsWhereTold rows o → (IsSome o → (found : Option Rows) → may found → OrOneMore rows found)
      → IfSome o (λ r. (found : Option Rows) → may found → OrOneMore r found)
  leaves_of rows None may is h = tt
  leaves_of rows (Some r) may is h = λ found m. subst (λ x. OrOneMore x found) is (h refl found m)

  -- and its keeper again
  pub desk_left : (d : Seated K) → IsWhereTold d.state.rows (told d.keeper) → IsSafeDesk told is_clean may_leave d → IsSafeStore told is_clean may_leave d.keeper
  desk_left d is safe clean = leaves_of d.state.rows (told d.keeper) (may_leave d.keeper) is (safe clean)

  -- the keeper that a desk gives back
  pub desk_closed : (d : Seated K) (k : K) → k ≡ d.keeper → IsWhereTold d.state.rows (told k) → IsSafeDesk told is_clean may_leave d → IsSafeStore told is_clean may_leave k
  desk_closed d k same is safe = rw same (desk_left d (rw same at is) safe)
