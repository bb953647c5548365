-- Rows that are put among rows by id.
use Rattle.std.specs.Prelude.{ℕ, List, [], ◌∷◌}
use Rattle.net_rows.specs.Shelf.{put_row}
use Rattle.tailcfg.specs.declared.node_row.NodeRow.{NodeRow}
use Rattle.tailcfg.specs.declared.profile.Profile.{Profile}

-- the ids of nodes and profiles
abbrev pub node_id : NodeRow → ℕ
node_id node = node.id

abbrev pub profile_id : Profile → ℕ
profile_id profile = profile.id

-- each row replaces the row of its id, or stands where its id belongs; one after the other
abbrev pub put_rows : {T : Type 0} → (T → ℕ) → List T → List T → List T
put_rows id rows [] = rows
put_rows id rows (x ∷ xs) = put_rows id (put_row id rows x) xs
