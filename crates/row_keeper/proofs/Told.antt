-- What a keeper tells after its tables were loaded.
use Rattle.std.proofs.Common.{◌≡◌, Option, Some, None, IfSome, refl}
use Rattle.std.specs.Option.{option_map}
use Rattle.io_edge.specs.Edge.{IsWhereTold, StillTells}
use Rattle.net_rows.specs.Damage.{damage}
use Rattle.net_rows.specs.Rows.{after}
use Rattle.net_rows.specs.declared.rows.Rows.{Rows}
use Rattle.net_rows.specs.declared.change.Change.{Change}
use Rattle.row_keeper.specs.Before.{ToldBefore}

-- the rows that are still told are those that were loaded
pub told_still : (before now : Option Rows) (rows : Rows) → IsWhereTold rows before → StillTells before now → IsWhereTold rows now
told_still before None rows loaded same = tt
told_still (Some a) (Some b) rows loaded same = let e : a ≡ b = cc in rw (← e) loaded
told_still None (Some b) rows loaded same = absurd (cc)

-- a change that keeps the rules of the rows that were loaded may be committed
pub sound_where_told : (now : Option Rows) (rows : Rows) (change : Change) → IsWhereTold rows now → damage (after rows change) ≡ None
    → IfSome now (λ r. damage (after r change) ≡ None)
sound_where_told None rows change is sound = tt
sound_where_told (Some r) rows change is sound = rw (← is) sound

-- what still tells told before
pub told_before : (before now : Option Rows) → StillTells before now → ToldBefore before now
told_before (Some a) now same tells = refl
told_before None (Some b) same tells = absurd (cc)
told_before None None same tells = tells

-- and so it is where a change was made
pub told_before_change : (f : Rows → Rows) (before now : Option Rows) → StillTells (option_map f before) now → ToldBefore before now
told_before_change f (Some a) now same tells = refl
told_before_change f None (Some b) same tells = absurd (cc)
told_before_change f None None same tells = tells
