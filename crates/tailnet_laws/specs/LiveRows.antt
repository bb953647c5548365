-- Rows of live machines, as maps show them.
use Rattle.std.specs.Prelude.{◌≡◌, ◌⊎◌, true, Contains}
use Rattle.net_addr.specs.Bits.{Block}
use Rattle.net_rows.specs.declared.machine.Machine.{Machine}
use Rattle.tailcfg.specs.declared.node_row.NodeRow.{NodeRow}
use Rattle.policy_sites.specs.Approvals.{approved_of, is_exit}
use Rattle.policy_sites.specs.Exits.{exit_routes}
use Rattle.policy_sites.specs.Owners.{machine_login}
use Rattle.peer_view.specs.Nodes.{own_addresses}
use Rattle.desk_state.specs.State.{State, is_live}

-- The prefix is one of the machine's own two addresses, one of its approved routes, or an exit route of an exit node.
abbrev pub IsServedPrefix : State → Machine → Block → Type 0
IsServedPrefix s m prefix =
    let login = machine_login s.rows.users m in
    Contains (own_addresses m) prefix ⊎ (Contains (approved_of s.policy login m) prefix ⊎ ((is_exit s.policy login m ≡ true) × Contains exit_routes prefix))

-- The row shows a live machine of the tables, and packets go through it to prefixes alone that the machine serves.
pub record ShowsLive (s : State) (row : NodeRow) : Type 0 where
  pub machine : Machine
  pub inside : Contains s.rows.machines machine
  pub live : is_live s machine ≡ true
  pub id : row.id ≡ machine.id
  pub key : row.key ≡ machine.node
  pub prefixes : (prefix : Block) → Contains row.allowed prefix → IsServedPrefix s machine prefix
