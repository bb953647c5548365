-- The first damage of the tables: they are read tree by tree, each by its rowids.
use Rattle.std.specs.Prelude.{◌≡◌, ◌⊎◌, ◌++◌, ℕ, List, [], ◌∷◌, map, Option, Some, None, Result, Ok, Err, IsPermutation, IsSorted, is_some, unwrap_or, ⊤, if◌then◌else◌}
use Rattle.std.specs.List.{AllByRecursion}
use Rattle.net_rows.specs.Damage.{damage, damage_unless}
use Rattle.net_rows.specs.declared.change.Damage.{Damage}
use Rattle.net_rows.specs.declared.change.Kind.{Kind}
use Rattle.net_rows.specs.declared.change.Kind.TheVariants as kind
use Rattle.net_rows.specs.declared.rows.Rows.{Rows}
use Rattle.row_keeper.specs.declared.keeper.LoadFault.{LoadFault}
use Rattle.row_keeper.specs.declared.keeper.LoadFault.TheVariants.{Failed, Damaged, NoMemory}
use Rattle.sqlite.specs.State.{HasCleanDisk, IsLive, State}
use Rattle.sqlite_trees.specs.Tree.{Trees, rowid}
use Rattle.sqlite_value.specs.Order.{Row, column, value_cmp}
use Rattle.store_reads.specs.Readable.{IsReadable, cell_in, shown_row}
use Rattle.store_reads.specs.Values.{extras_in, next_in, policy_in_rows, tree_cells, values_in}
use Rattle.store_rows.specs.Reading.{auth_key_of, machine_in_cells, natural_of, on_number, pending_in_cells, user_in_cells}
use Rattle.store_rows.specs.declared.cell.Cell.{Cell}
use Rattle.store_sql.specs.Schema.{schema_1}

-- ---- rows

-- The rows of a tree in the order of their rowids. In a store none comes twice, so there is one such order.
abbrev pub AreInOrder : List Row → List Row → Type 0
AreInOrder tree rows = IsPermutation tree rows × IsSorted (λ a b. value_cmp (rowid a) (rowid b)) rows

-- the id that a row shows: 0 where its first column is no id of 32 bits
abbrev pub id_in : Row → ℕ
id_in row = unwrap_or (on_number natural_of (cell_in (column row 0))) 0

-- the first of these rows that is the row of no value
abbrev pub first_unread : {T : Type 0} → Kind → (List Cell → Option T) → List Row → Option Damage
first_unread k read [] = None
first_unread k read (row ∷ rows) =
    if is_some (read (tree_cells row)) then first_unread k read rows else Some (record { kind = k; id = id_in row })

-- damage of what has no id, where the rows aren't the rows of a value
abbrev pub unless_read : {X : Type 0} → Kind → (List Row → Option X) → List Row → Option Damage
unless_read k read rows = damage_unless k (is_some (read rows))

-- ---- trees

-- In their order the rows of the tree have this damage, or are those of a value, and it is found behind them.
abbrev pub IsFoundIn : {X : Type 0} → (List Row → Option X) → (List Row → Option Damage) → List Row → (X → Damage → Type 0) → Damage → Type 0
IsFoundIn {X} values first tree behind d =
    (rows : List Row) × AreInOrder tree rows × ((first rows ≡ Some d) ⊎ ((x : X) × (values rows ≡ Some x) × behind x d))

-- The first damage of what the trees hold: the first row, tree by tree, that isn't the row of a value, or else
-- the first rule of the tables that the values break.
unfoldable pub IsFirstIn : Trees → Damage → Type 0
IsFirstIn trees =
    IsFoundIn next_in (unless_read kind.Meta next_in) (trees 0) (λ next.
    IsFoundIn (values_in user_in_cells) (first_unread kind.User user_in_cells) (trees 1) (λ users.
    IsFoundIn (values_in auth_key_of) (first_unread kind.Key auth_key_of) (trees 3) (λ keys.
    IsFoundIn (values_in pending_in_cells) (first_unread kind.Pending pending_in_cells) (trees 5) (λ pending.
    IsFoundIn (values_in machine_in_cells) (first_unread kind.Machine machine_in_cells) (trees 8) (λ machines.
    IsFoundIn (extras_in 1) (unless_read kind.Extras (extras_in 1)) (trees 14) (λ extras.
    IsFoundIn policy_in_rows (unless_read kind.Policy policy_in_rows) (trees 15) (λ policy d.
    damage (record { users = users; keys = keys; pending = pending; machines = machines; extras = extras; policy = policy; next = next }) ≡ Some d)))))))

-- What these rows break is the first damage of the trees.
abbrev pub Breaks : Trees → Rows → Type 0
Breaks trees rows = (d : Damage) → damage rows ≡ Some d → IsFirstIn trees d

-- ---- readings

-- A fault that is damage is such damage.
abbrev pub NamesDamage : (Damage → Type 0) → LoadFault → Type 0
NamesDamage P Failed = ⊤
NamesDamage P (Damaged k id) = P (record { kind = k; id = id })
NamesDamage P NoMemory = ⊤

-- What was read is what the rows of the tree hold, by their order, or the damage is theirs.
abbrev pub Finds : {X : Type 0} → (List Row → Option X) → (List Row → Option Damage) → List Row → Result X LoadFault → Type 0
Finds values first tree (Ok x) = (rows : List Row) × AreInOrder tree rows × (values rows ≡ Some x)
Finds values first tree (Err e) = NamesDamage (λ d. (rows : List Row) × AreInOrder tree rows × (first rows ≡ Some d)) e

-- the same of rows of a kind
abbrev pub FindsAll : {T : Type 0} → Kind → (List Cell → Option T) → List Row → Result (List T) LoadFault → Type 0
FindsAll k read = Finds (values_in read) (first_unread k read)

-- and of what has no ids
abbrev pub FindsOne : {X : Type 0} → Kind → (List Row → Option X) → List Row → Result X LoadFault → Type 0
FindsOne k read = Finds read (unless_read k read)

-- This is so on a clean disk of a database with our tables.
abbrev pub WhereOurs : State → State → Type 0 → Type 0
WhereOurs old new P = HasCleanDisk new → old.now.schema ≡ schema_1 → IsLive old → P

-- Among the rows that a query shows, this is damage of the first that is no readable row.
pub record IsFirstUnread {T : Type 0} (cells : T → List Cell) (Typed : T → Type 0) (k : Kind) (rows : List Row) (d : Damage) : Type 0 where
  pub before : List T
  pub row : Row
  pub behind : List Row
  pub are : rows ≡ map (λ x. shown_row (cells x)) before ++ row ∷ behind
  pub readable : AllByRecursion (IsReadable cells Typed) before
  pub none : (x : T) → row ≡ shown_row (cells x) → IsReadable cells Typed x → ⊥
  pub is : d ≡ record { kind = k; id = id_in row }
