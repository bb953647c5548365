use Rattle.std.proofs.Common.{rules, ap, ◌∙◌, subst, sym, Some, ◌∷◌}
use Rattle.atomic_table.specs.Table.{rest}
use Rattle.tailnet_desk.specs.Crashes.{IsSafeDesk}
use Rattle.tailnet_desk.specs.Seated.{point_of}
use Rattle.session_hub.specs.Lines.{Replays}
use Rattle.session_hub.specs.Plays.{HasDesk, ticket_of}
use Rattle.session_hub.proofs.TurnSteps.{serves}
use Rattle.session_hub.proofs.Turns.{took}
use Rattle.session_hub.proofs.hub.Hub.take_desk.Goals as goal

pub load-served-requires : goal.load-served-requires
load-served-requires g c = (search rules, search rules, serves _ _ _ _ _ c.args.ticket (search rules))

pub exchange-requires : goal.exchange-requires
exchange-requires g c =
    let stage = ap (λ m. m.0.stage) c.loop.invariant.2 ∙ c.requires.waits in
    let gets = c.load-served.ensures.2.0 (search rules ∙ sym (ap ticket_of stage)) in
    let held = ap (λ m. m.1) gets.after_is in
    (search rules, (Some gets.desk, held ∙ ap (λ z. (0, Some gets.desk) ∷ rest z) (sym held)))

pub returns-then-served-ticket-clause-has : goal.returns-then-served-ticket-clause-has
returns-then-served-ticket-clause-has g c =
    let stage = ap (λ m. m.0.stage) c.loop.invariant.2 ∙ c.requires.waits in
    let gets = c.load-served.ensures.2.0 (search rules ∙ sym (ap ticket_of stage)) in
    let reaches = Replays (point_of g.K.Keeper.told g.K.Keeper.faults g.K.Keeper.calls) (IsSafeDesk g.K.Keeper.told g.K.Keeper.is_clean g.K.Keeper.may_leave) in
    subst (λ me. HasDesk reaches me c.in-Some-exchange.desk c.exchange.new.seat.me) c.loop.invariant.2
    (took reaches c.loop.place.me c.load-served.new.seat.me c.exchange.new.seat.me c.exchange.result c.in-Some-exchange.desk gets c.exchange.ensures.2 c.in-Some-exchange.is c.exchange.ensures.3)
