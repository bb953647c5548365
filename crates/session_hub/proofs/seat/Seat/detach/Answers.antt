use Rattle.std.proofs.Common.{subst}
use Rattle.tailnet_desk.specs.declared.entry.Event.TheVariants as event
use Rattle.tailnet_desk.specs.declared.reply.Reply.{Reply}
use Rattle.session_hub.specs.Seats.{IsSeatTurn}
use Rattle.session_hub.proofs.seat.Seat.detach.Goals as goal

pub returns : goal.returns
returns g c = record {
  turn = subst (λ (r : Reply). IsSeatTurn c.args.self.now c.take_turn-reply.new.self (event.Detach c.args.machine.now c.args.handle.now c.args.moment) r) c.take_turn-reply.ensures.kind
      c.take_turn-reply.ensures.turn;
}
