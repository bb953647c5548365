-- Tables without rows.
use Rattle.std.proofs.Common.{◌≡◌, ℕ, List, [], ◌∷◌, refl}
use Rattle.std.specs.Prelude.{None}
use Rattle.net_rows.specs.Rows.{empty_rows, after}
use Rattle.net_rows.specs.declared.change.Row.{Row}
use Rattle.net_rows.specs.declared.change.Row.TheVariants as row
use Rattle.net_rows.specs.declared.change.RowKey.{RowKey}
use Rattle.net_rows.specs.Damage.{damage}

pub damage-empty : damage empty_rows ≡ None
unfolding damage
damage-empty = refl

-- a first user is put
pub one_user : (login : List ℕ) (puts : List Row) (gone : List RowKey) → puts ≡ row.User (record { id = 1; login = login }) ∷ [] → gone ≡ []
    → damage (after empty_rows (record { puts = puts; gone = gone; next = record { user = 2; key = 1; pending = 1; machine = 1 } })) ≡ None
unfolding damage
one_user login puts gone e f = rw (e, f) refl
