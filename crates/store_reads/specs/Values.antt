-- What the rows of a tree are read as: values, if each of them is the row of one.
use Rattle.std.specs.Prelude.{◌+◌, ℕ, List, [], ◌∷◌, map, Option, Some, None, if◌then◌else◌}
use Rattle.std.specs.Option.{option_and_then, option_map}
use Rattle.net_rows.specs.declared.change.Counters.{Counters}
use Rattle.sqlite_sql.specs.Ops.{is_null}
use Rattle.sqlite_value.specs.Order.{Row}
use Rattle.store_reads.specs.Readable.{cell_in}
use Rattle.store_rows.specs.Reading.{extra_of, meta_of, policy_in_cells}
use Rattle.store_rows.specs.declared.cell.Cell.{Cell}
use Rattle.tailcfg.specs.declared.dns.DnsExtra.{DnsExtra}

-- the cells of a row that has NULL in the place of its key
abbrev pub tree_cells : Row → List Cell
tree_cells [] = []
tree_cells (id ∷ []) = []
tree_cells (id ∷ key ∷ rest) = if is_null key then cell_in id ∷ map cell_in rest else []

-- the values of these rows, if each is the row of one
abbrev pub values_in : {T : Type 0} → (List Cell → Option T) → List Row → Option (List T)
values_in read [] = Some []
values_in read (row ∷ rows) = option_and_then (λ x. option_map (λ xs. x ∷ xs) (values_in read rows)) (read (tree_cells row))

-- the same of extra records, at the places from this one on
abbrev pub extras_in : ℕ → List Row → Option (List DnsExtra)
extras_in place [] = Some []
extras_in place (row ∷ rows) = option_and_then (λ x. option_map (λ xs. x ∷ xs) (extras_in (place + 1) rows)) (extra_of place (tree_cells row))

-- the counters of the one row of `meta`
abbrev pub next_in : List Row → Option Counters
next_in [] = None
next_in (row ∷ []) = meta_of (tree_cells row)
next_in (row ∷ other ∷ rows) = None

-- the policy's text of the one row of `policy`, if there is one
abbrev pub policy_in_rows : List Row → Option (Option (List ℕ))
policy_in_rows [] = Some None
policy_in_rows (row ∷ []) = option_map (λ body. Some body) (policy_in_cells (tree_cells row))
policy_in_rows (row ∷ other ∷ rows) = None
