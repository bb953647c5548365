use Rattle.std.proofs.Common.{◌∙◌, ap, refl, subst}
use Rattle.std.specs.Option.{option_map}
use Rattle.tailnet_desk.specs.Crashes.{IsSafeDesk}
use Rattle.tailnet_desk.specs.Seated.{point_of}
use Rattle.session_hub.specs.Calls.{event_of}
use Rattle.session_hub.specs.Lines.{Replays}
use Rattle.session_hub.specs.Seats.{IsSeatTurn}
use Rattle.session_hub.proofs.Histories.{replays_more}
use Rattle.session_hub.proofs.Turns.{after_is, entry_there, may_enter, rested, rests, turned}
use Rattle.session_hub.proofs.seat.Seat.take_turn.Goals as goal

pub advance-requires-clause-entry : goal.advance-requires-clause-entry
advance-requires-clause-entry g c =
    let at = point_of g.K.Keeper.told g.K.Keeper.faults g.K.Keeper.calls in
    let safe = IsSafeDesk g.K.Keeper.told g.K.Keeper.is_clean g.K.Keeper.may_leave in
    let me = c.self.inside.place.me in
    let r = rests me c.self.invariant.0 c.self.invariant.1 in
    may_enter (Replays at safe) r.0 me c.draw_ticket-ticket.new.place.me c.take_desk-desk.new.place.me c.take_desk-desk.result c.run-reply.new.desk c.draw_ticket-ticket.result _
    r.1 c.draw_ticket-ticket.ensures.drawn c.take_desk-desk.ensures.has c.self.invariant.2
    (λ ls s. replays_more g.K.Keeper.told g.K.Keeper.faults g.K.Keeper.calls g.K.Keeper.is_clean g.K.Keeper.may_leave r.0 c.take_desk-desk.result c.run-reply.new.desk ls _ (ap (λ z. (at z).keeping.faults) c.of-before.ensures) refl c.run-reply.ensures.kept s)

pub returns : goal.returns
returns g c =
    let at = point_of g.K.Keeper.told g.K.Keeper.faults g.K.Keeper.calls in
    let safe = IsSafeDesk g.K.Keeper.told g.K.Keeper.is_clean g.K.Keeper.may_leave in
    let me = c.self.inside.place.me in
    let r = rests me c.self.invariant.0 c.self.invariant.1 in
    record {
      turn = subst (λ z. IsSeatTurn z (record { hub = record { table = c.advance.new.place.table_id; start = option_map at c.advance.new.place.me.0.start }; name = c.self.inside.name; names = c.advance.new.place.me.0.names; seen = c.advance.new.place.me.0.seen }) (event_of c.args.call.now) c.run-reply.result) c.self.view_is
          (turned (Replays at safe) r.0 me c.draw_ticket-ticket.new.place.me c.take_desk-desk.new.place.me c.take_desk-desk.result c.run-reply.new.desk c.draw_ticket-ticket.result _
          r.1 c.draw_ticket-ticket.ensures.drawn c.take_desk-desk.ensures.has c.self.invariant.2
          (λ ls s. replays_more g.K.Keeper.told g.K.Keeper.faults g.K.Keeper.calls g.K.Keeper.is_clean g.K.Keeper.may_leave r.0 c.take_desk-desk.result c.run-reply.new.desk ls _ (ap (λ z. (at z).keeping.faults) c.of-before.ensures) refl c.run-reply.ensures.kept s)
          at (λ ls h. h.replays.legal) c.advance.new.place.me c.self.inside.place.table_id c.advance.new.place.table_id _ _ c.advance.ensures.entered (c.advance.ensures.same.0 ∙ c.take_desk-desk.ensures.same.0 ∙ c.draw_ticket-ticket.ensures.same.0)
          refl refl);
      kind = c.run-reply.ensures.kind;
    }

pub invariant_of-self : goal.invariant_of-self
invariant_of-self g c =
    let at = point_of g.K.Keeper.told g.K.Keeper.faults g.K.Keeper.calls in
    let safe = IsSafeDesk g.K.Keeper.told g.K.Keeper.is_clean g.K.Keeper.may_leave in
    let me = c.self.inside.place.me in
    let r = rests me c.self.invariant.0 c.self.invariant.1 in
    rested at c.advance.new.place.me r.0 _ me.0.names c.self.inside.name c.self.inside.count
    (after_is (Replays at safe) r.0 me c.draw_ticket-ticket.new.place.me c.take_desk-desk.new.place.me c.take_desk-desk.result c.run-reply.new.desk c.draw_ticket-ticket.result _
    r.1 c.draw_ticket-ticket.ensures.drawn c.take_desk-desk.ensures.has c.self.invariant.2
    (λ ls s. replays_more g.K.Keeper.told g.K.Keeper.faults g.K.Keeper.calls g.K.Keeper.is_clean g.K.Keeper.may_leave r.0 c.take_desk-desk.result c.run-reply.new.desk ls _ (ap (λ z. (at z).keeping.faults) c.of-before.ensures) refl c.run-reply.ensures.kept s)
    c.advance.new.place.me c.advance.ensures.entered)
    c.self.invariant.2 c.self.invariant.3
    (entry_there (Replays at safe) r.0 me c.draw_ticket-ticket.new.place.me c.take_desk-desk.new.place.me c.take_desk-desk.result c.run-reply.new.desk c.draw_ticket-ticket.result _
    r.1 c.draw_ticket-ticket.ensures.drawn c.take_desk-desk.ensures.has c.self.invariant.2
    (λ ls s. replays_more g.K.Keeper.told g.K.Keeper.faults g.K.Keeper.calls g.K.Keeper.is_clean g.K.Keeper.may_leave r.0 c.take_desk-desk.result c.run-reply.new.desk ls _ (ap (λ z. (at z).keeping.faults) c.of-before.ensures) refl c.run-reply.ensures.kept s)).replays.legal
