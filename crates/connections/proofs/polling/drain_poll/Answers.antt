use Rattle.std.proofs.Common.{◌∙◌, ap, arith, refl, rules, w64}
use mir.Val.{SFits}
use Rattle.std.proofs.lemmas.Int.{to_z-of_z}
use Rattle.net_addr.specs.Moments.{clamped}
use Rattle.tailnet_desk.specs.Step.{drain_reply}
use Rattle.connections.proofs.PollLemmas.{drained_once}
use Rattle.connections.proofs.polling.drain_poll.Goals as goal

pub returns : goal.returns
returns g c = record {
  drained = λ rest.
      let fits : SFits w64 c.seconds.result = search rules in
      drained_once _ c.args.machine.now c.args.handle.now c.seconds.result c.clamp-moment.result (drain_reply c.drain-drained.result) _ _ _ _
      (c.clamp-moment.ensures.value ∙ ap clamped (to_z-of_z w64 c.seconds.result fits)) c.known_drained.ensures.typed
      (λ k. refl) (omega arith) c.seconds.ensures.took c.drain-drained.ensures.turn;
}
