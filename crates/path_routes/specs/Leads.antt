-- Paths of the table with a segment in the braces' place, and where they lead.
use Rattle.std.specs.Prelude.{◌≡◌, ◌<◌, ◌≤◌, ℕ, true, false, List, [], ◌∷◌, ◌++◌, Option, None, Some, drop, length, option_map, take, ◌==◌, if◌then◌else◌}
use Rattle.std.specs.Fmt.{decimal}
use Rattle.std.specs.Str.{IsUtf8}
use Rattle.matchit.specs.Route.{close_brace}
use Rattle.matchit.specs.Seek.{has_slash}
use Rattle.net_rows.specs.declared.limits.TheConstants.{COUNTER_LIMIT}
use Rattle.path_routes.specs.Finds.{found_in, owner_in}
use Rattle.path_routes.specs.Table.{brace_in, names_id}
use Rattle.path_routes.specs.declared.found.Found.{Found}
use Rattle.path_routes.specs.declared.route.Route.{Route}

-- some text without a slash
abbrev pub IsSegment : List ℕ → Type 0
IsSegment segment = (0 < length segment) × IsUtf8 segment × (has_slash segment ≡ false)

-- what stands behind the first closing brace
abbrev pub behind_brace : List ℕ → List ℕ
behind_brace [] = []
behind_brace (b ∷ bs) = if b == close_brace then bs else behind_brace bs

-- a path of the table with this segment in the place of the one in braces
abbrev pub filled_at : List ℕ → List ℕ → Option ℕ → List ℕ
filled_at text segment None = text
filled_at text segment (Some start) = take start text ++ (segment ++ behind_brace (drop start text))

abbrev pub filled : List ℕ → List ℕ → List ℕ
filled text segment = filled_at text segment (brace_in text)

-- where a path leads: its route, its id and the segment that names a row
abbrev pub leads : List ℕ → Option (Route × ℕ × List ℕ)
leads path = option_map (λ (found : Found). (found.route, found.id, owner_in path found)) (found_in path)

-- What a path of the table says of the id and of the segment that names a row: without braces, nothing.
-- With them the segment is some text without a slash, and an id where the braces stand for one.
abbrev pub IsReadAt : List ℕ → Option ℕ → ℕ → List ℕ → Type 0
IsReadAt text None id segment = (id ≡ 0) × (segment ≡ [])
IsReadAt text (Some start) id segment =
    IsSegment segment
    × (names_id text ≡ true → (1 ≤ id) × (id ≤ COUNTER_LIMIT) × (segment ≡ decimal id))
    × (names_id text ≡ false → id ≡ 0)

-- the path is this one of the table, with the segment in the place of the one in braces, and leads to its route
pub record IsLed (path : List ℕ) (route : Route) (id : ℕ) (segment : List ℕ) (row : List ℕ × Route) : Type 0 where
  pub path_is : path ≡ filled row.0 segment
  pub route_is : route ≡ row.1
  pub read : IsReadAt row.0 (brace_in row.0) id segment
