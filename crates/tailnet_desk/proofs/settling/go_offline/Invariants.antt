use Rattle.std.proofs.Common.{◌≡◌, ◌≤◌, drop, length}
use Rattle.desk_state.specs.State.{all_offline}
use Rattle.tailnet_desk.proofs.settling.go_offline.Given as goal

abbrev pub invariant-loop-id : goal.invariant-loop-id
invariant-loop-id l = record {
  presence : all_offline l.now l.presence.0 (drop l.id-index l.ids) ≡ all_offline l.now l.initial.presence.0 l.ids;
  room : length (drop l.id-index l.ids) ≤ l.presence.1;
}
