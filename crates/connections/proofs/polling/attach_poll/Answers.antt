use Rattle.std.proofs.Common.{◌∙◌, ap, rules, w64}
use mir.Val.{SFits}
use Rattle.std.proofs.lemmas.Int.{to_z-of_z}
use Rattle.net_addr.specs.Moments.{clamped}
use Rattle.connections.proofs.PollLemmas.{attached_once}
use Rattle.connections.proofs.polling.attach_poll.Goals as goal

pub returns-clause-attached : goal.returns-clause-attached
returns-clause-attached g c = λ held write_faults.
    let fits : SFits w64 c.seconds.result = search rules in
    attached_once _ c.args.poll.now c.seconds.result c.clamp-moment.result c.draw_words-words.result c.attach.result _ _ _ _
    (c.clamp-moment.ensures.value ∙ ap clamped (to_z-of_z w64 c.seconds.result fits)) c.draw_words-words.ensures.drew c.seconds.ensures.took c.attach.ensures.turn
