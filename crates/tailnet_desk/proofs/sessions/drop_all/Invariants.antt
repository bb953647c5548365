use Rattle.std.proofs.Common.{◌≡◌, drop}
use Rattle.desk_state.specs.State.{without_all}
use Rattle.tailnet_desk.proofs.sessions.drop_all.Given as goal

abbrev pub invariant-loop-id : goal.invariant-loop-id
invariant-loop-id g l = without_all g.T.HasId.id l.rows.0 (drop l.id-index l.ids) ≡ without_all g.T.HasId.id l.initial.rows.0 l.ids
