-- What holds of a keeper's store once it has loaded.
use Rattle.std.specs.Prelude.{Bool, not, ◌||◌}
use Rattle.sqlite.specs.State.{State}
use Rattle.store_loads.specs.Told.{is_known}

-- what has loaded knows its store
unfoldable pub knows_if_loaded : Bool → State → Bool
knows_if_loaded is_loaded s = not is_loaded || is_known s
