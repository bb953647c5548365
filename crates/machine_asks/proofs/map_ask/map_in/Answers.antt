use Rattle.std.proofs.Common.{◌≡◌, IfOk, subst, sym}
use Rattle.desk_state.specs.State.{State}
use Rattle.machine_asks.specs.OneMap.{IsLiveRow, map_for}
use Rattle.machine_asks.proofs.map_ask.map_in.Goals as goal

pub returns : goal.returns
returns c = record {
  value = subst (λ (s : State). IfOk c.map_for.result (λ a. a ≡ map_for (record s { rows = c.args.tables.now.rows }) c.args.row.now)) c.at.view_is c.map_for.ensures.value;
}

pub map_for-requires : goal.map_for-requires
map_for-requires c = record { live = subst (λ (s : State). IsLiveRow (record s { rows = c.args.tables.now.rows }) c.args.row.now) (sym c.at.view_is) c.requires.live }
