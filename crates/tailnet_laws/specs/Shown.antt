-- Whom a map shows.
use Rattle.std.specs.Prelude.{◌≡◌, ◌≢◌, ℕ, false, Contains}
use Rattle.net_rows.specs.declared.machine.Machine.{Machine}
use Rattle.tailcfg.specs.declared.node_row.NodeRow.{NodeRow}
use Rattle.fresh_maps.specs.declared.view.View.{View}
use Rattle.desk_state.specs.State.{State, is_ahead}

-- The map shows no node of this id, neither as its own nor as a peer.
pub record Hides (map : View) (id : ℕ) : Type 0 where
  pub own : map.node.id ≢ id
  pub peers : (peer : NodeRow) → Contains map.peers peer → peer.id ≢ id

-- The machine has a row, and its node key has expired.
pub record IsExpired (s : State) (m : Machine) : Type 0 where
  pub row : Contains s.rows.machines m
  pub past : is_ahead s.now m.expiry ≡ false
