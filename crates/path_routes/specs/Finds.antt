-- What a path leads to, with the id in it.
use Rattle.std.specs.Prelude.{ℕ, List, Option, Some, None, option_map, option_and_then, if◌then◌else◌}
use Rattle.std.specs.Str.{is_utf8}
use Rattle.path_routes.specs.Segments.{id_of, segment_from}
use Rattle.path_routes.specs.Table.{entry_in}
use Rattle.path_routes.specs.declared.found.Found.{Found}
use Rattle.path_routes.specs.declared.table.Entry.{Entry}

-- a route with its id, which is 0 if it has none; a segment that is no id leads nowhere
abbrev pub with_id : List ℕ → Entry → Option Found
with_id path e =
    if e.has_id then option_map (λ id. record { route = e.route; id = id; start = e.start }) (id_of (segment_from path e.start))
    else Some (record { route = e.route; id = 0; start = e.start })

-- the text that a path, or a segment of one, is, if it is UTF-8
abbrev pub text_of : List ℕ → Option (List ℕ)
text_of path = if is_utf8 path then Some path else None

-- what a path of UTF-8 leads to
abbrev pub found_in : List ℕ → Option Found
found_in path = option_and_then (with_id path) (option_and_then entry_in (text_of path))

-- the segment of a path that names a row
abbrev pub owner_in : List ℕ → Found → List ℕ
owner_in path found = segment_from path found.start
