use Rattle.std.proofs.Common.{◌≡◌, ◌≤◌, drop}
use Rattle.desk_state.specs.State.{all_ended}
use Rattle.tailnet_desk.proofs.settling.end_presence.Given as goal

abbrev pub invariant-loop-id : goal.invariant-loop-id
invariant-loop-id l = record {
  presence : all_ended l.now l.presence.0 (drop l.id-index l.ids) ≡ all_ended l.now l.initial.presence.0 l.ids;
  spare : l.initial.presence.1 ≤ l.presence.1;
}
