use Rattle.std.proofs.Common.{◌∙◌, ap, rules, w64}
use mir.Val.{SFits}
use Rattle.std.proofs.lemmas.Int.{to_z-of_z}
use Rattle.net_addr.specs.Moments.{clamped}
use Rattle.connections.proofs.AnswerLemmas.{asked_once}
use Rattle.connections.proofs.answering.answer_ask.Goals as goal

pub returns : goal.returns
returns g c =
    let fits : SFits w64 c.seconds.result = search rules in
    record {
      asked = asked_once _ c.args.front.now _ _ _ c.seconds.result c.clamp-moment.result c.draw-words.result c.ask-reply.result _ _ _ _
          (c.clamp-moment.ensures.value ∙ ap clamped (to_z-of_z w64 c.seconds.result fits)) c.draw-words.ensures.drew c.seconds.ensures.took c.ask-reply.ensures.turn c.send_reply.ensures.sent;
    }
