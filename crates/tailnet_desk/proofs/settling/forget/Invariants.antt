use Rattle.std.proofs.Common.{◌≡◌, ◌≤◌, drop}
use Rattle.desk_state.specs.State.{forgotten}
use Rattle.tailnet_desk.proofs.settling.forget.Given as goal

abbrev pub invariant-loop-key : goal.invariant-loop-key
invariant-loop-key g l = record {
  rows : forgotten g.T.HasId.id l.rows.0 (drop l.key-index l.gone) ≡ forgotten g.T.HasId.id l.initial.rows.0 l.gone;
  spare : l.initial.rows.1 ≤ l.rows.1;
}
