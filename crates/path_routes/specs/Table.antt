-- The table of paths, as a router keeps it. A segment in braces stands for any segment that isn't empty.
use Rattle.std.specs.Prelude.{ℕ, Bool, false, List, [], ◌∷◌, Option, None, Some, Result, Ok, Err, codes, drop, is_none, length, map, nat_eq, option_map, position, ◌==◌}
use Rattle.std.specs.List.{starts_with}
use Rattle.matchit.specs.Order.{placed}
use Rattle.matchit.specs.Route.{Scan, open_brace, parse_route}
use Rattle.matchit.specs.Router.{RouteOf, nearest, route_from}
use Rattle.matchit.specs.Rows.{RowsOf}
use Rattle.matchit.specs.Seek.{first}
use Rattle.matchit.specs.declared.error.InsertError.{InsertError}
use Rattle.path_routes.specs.declared.route.Route.{Route}
use Rattle.path_routes.specs.declared.table.Entry.{Entry}
use Rattle.path_routes.specs.declared.table.TheConstants.{PATHS}

-- where the first brace opens
abbrev pub brace_in : List ℕ → Option ℕ
brace_in text = position (λ b. b == open_brace) text

-- the segment in braces is an id
abbrev pub names_id_at : List ℕ → Option ℕ → Bool
names_id_at text None = false
names_id_at text (Some start) = starts_with nat_eq (drop start text) (codes "{id}")

abbrev pub names_id : List ℕ → Bool
names_id text = names_id_at text (brace_in text)

-- what the router keeps of a path
abbrev pub entry_at : List ℕ → Route → Option ℕ → Entry
entry_at text r None = record { route = r; start = length text; has_id = false }
entry_at text r (Some start) = record { route = r; start = start; has_id = names_id_at text (Some start) }

abbrev pub entry_of : List ℕ → Route → Entry
entry_of text r = entry_at text r (brace_in text)

-- the router takes a path of this text: it is well-formed, and is like no path that was entered
abbrev pub is_free : RowsOf (RouteOf Entry) → Result Scan InsertError → Bool
is_free rows (Ok scan) = is_none (nearest scan.pattern rows)
is_free rows (Err e) = false

-- the rows with one more, in its place
abbrev pub entered : RowsOf (RouteOf Entry) → Result Scan InsertError → Entry → RowsOf (RouteOf Entry)
entered rows (Ok scan) e = placed ((route_from scan e).pattern, route_from scan e) rows
entered rows (Err error) e = rows

-- the rows with a path more
abbrev pub with_path : RowsOf (RouteOf Entry) → List ℕ → Route → RowsOf (RouteOf Entry)
with_path rows text r = entered rows (parse_route text) (entry_of text r)

-- the rows with these paths more, one after the other
abbrev pub with_paths : RowsOf (RouteOf Entry) → List (List ℕ × Route) → RowsOf (RouteOf Entry)
with_paths rows [] = rows
with_paths rows (path ∷ rest) = with_paths (with_path rows path.0 path.1) rest

-- each path, and its route
abbrev pub paths : List (List ℕ × Route)
paths = map (λ path. (path.0.now, path.1)) PATHS

-- all of them
unfoldable pub table : RowsOf (RouteOf Entry)
table = with_paths [] paths

-- what the router keeps of the path that a request's is like
abbrev pub entry_in : List ℕ → Option Entry
entry_in path = option_map (λ (r : RouteOf Entry). r.value) (first table path)
