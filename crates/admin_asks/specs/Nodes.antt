-- Operators list machines, let them expire, rename, tag and remove them.
use Rattle.std.specs.Prelude.{ℕ, ℤ, Bool, false, List, map, Option, Some, None, unwrap_or, Result, Ok, ◌==◌, not, ◌&&◌, if◌then◌else◌}
use Rattle.std.specs.Cmp.Lexicographic.{pointwise, slice_cmp}
use Rattle.std.specs.List.{list_any}
use Rattle.std.specs.Ordering.{int_eq, nat_cmp}
use Rattle.std.specs.Str.{bytes_eq}
use Rattle.tail_base.specs.Labels.{label_of}
use Rattle.tail_base.specs.Sorted.{sorted_once}
use Rattle.tail_base.specs.Steps.{◌>>=◌, or_fault, refuse_if}
use Rattle.net_rows.specs.Rows.{machine_with}
use Rattle.net_rows.specs.declared.machine.Machine.{Machine}
use Rattle.desk_state.specs.Changes.{machine_gone}
use Rattle.desk_state.specs.Decisions.{only, changing}
use Rattle.desk_state.specs.Lines.{node_line}
use Rattle.desk_state.specs.State.{State}
use Rattle.desk_state.specs.Tags.{tags_defined}
use Rattle.desk_state.specs.declared.decision.Decision.{Decision}
use Rattle.desk_state.specs.declared.lines.NodeLine.{NodeLine}
use Rattle.desk_state.specs.declared.refusal.Refusal.{Refusal}
use Rattle.desk_state.specs.declared.refusal.Refusal.TheVariants.{UnknownMachine, BadName, NameTaken}
use Rattle.desk_state.specs.Rows.{row_replaced}
use Rattle.admin_asks.specs.declared.operator_answer.OperatorAnswer.{OperatorAnswer}
use Rattle.admin_asks.specs.declared.operator_answer.OperatorAnswer.TheVariants as answer

-- the machines as an operator is shown them
abbrev pub node_lines : State → List Machine → List NodeLine
node_lines s machines = map (node_line s) machines

-- the machines by id, whether they are live or not
abbrev pub nodes : State → Result (Decision OperatorAnswer) Refusal
nodes s = Ok (only (answer.Nodes (node_lines s s.rows.machines)))

-- the machine's row stays as it is
abbrev pub same_node : State → Machine → Decision OperatorAnswer
same_node s m = only (answer.Node (node_line s m))

-- the machine's row is this one from now on
abbrev pub changed_node : State → Machine → Decision OperatorAnswer
changed_node s m = changing (row_replaced s.rows m) (answer.Node (node_line s m))

-- the expiry is this moment
abbrev pub ends_at : Option ℤ → ℤ → Bool
ends_at None end = false
ends_at (Some moment) end = int_eq moment end

-- a machine whose node key expires then already stays as it is
abbrev pub expired_node : State → Machine → ℤ → Decision OperatorAnswer
expired_node s m end = if ends_at m.expiry end then same_node s m else changed_node s (record m { expiry = Some end })

-- if no moment is given, it is now
abbrev pub expire_node : State → ℕ → Option ℤ → Result (Decision OperatorAnswer) Refusal
expire_node s id expiry = do
  machine ← or_fault UnknownMachine (machine_with s.rows.machines id)
  Ok (expired_node s machine (unwrap_or expiry s.now))

-- a machine of another id has the name
abbrev pub is_name_taken : List Machine → ℕ → List ℕ → Bool
is_name_taken machines id name = list_any (λ m. bytes_eq m.name name && not (m.id == id)) machines

-- a machine that has the name already stays as it is
abbrev pub renamed_node : State → Machine → List ℕ → Decision OperatorAnswer
renamed_node s m name = if bytes_eq m.name name then same_node s m else changed_node s (record m { name = name })

-- a name has to be a label that no other machine has
abbrev pub rename : State → ℕ → List ℕ → Result (Decision OperatorAnswer) Refusal
rename s id name = do
  machine ← or_fault UnknownMachine (machine_with s.rows.machines id)
  label ← or_fault BadName (label_of name)
  free ← refuse_if (is_name_taken s.rows.machines machine.id label) NameTaken
  Ok (renamed_node s machine label)

-- a machine that has the tags already stays as it is
abbrev pub tagged_node : State → Machine → List (List ℕ) → Decision OperatorAnswer
tagged_node s m tags = if pointwise bytes_eq m.tags tags then same_node s m else changed_node s (record m { tags = tags })

-- tags have to be defined, and are kept in byte order, each once
abbrev pub set_tags : State → ℕ → List (List ℕ) → Result (Decision OperatorAnswer) Refusal
set_tags s id tags = do
  machine ← or_fault UnknownMachine (machine_with s.rows.machines id)
  defined ← tags_defined s tags
  Ok (tagged_node s machine (sorted_once (slice_cmp nat_cmp) tags))

-- the machine of an id goes
abbrev pub drop_node : State → ℕ → Result (Decision OperatorAnswer) Refusal
drop_node s id = do
  machine ← or_fault UnknownMachine (machine_with s.rows.machines id)
  Ok (changing (machine_gone s.rows machine.id) answer.Gone)
