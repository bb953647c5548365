use Rattle.std.proofs.Common.{IfSome, subst, sym}
use Rattle.tailnet_desk.specs.Sound.{IsSoundState}
use Rattle.tailnet_desk.proofs.Histories.{Chain-map}
use Rattle.session_hub.specs.Seats.{HubView}
use Rattle.connections.specs.Exchanges.{turns_of}
use Rattle.connections.proofs.Seen.{serves_map}
use Rattle.tailnet_serve.specs.Runs.{IsSeatStep}
use Rattle.tailnet_serve.proofs.SeatRuns.{chain_same}
use Rattle.tailnet_serve.proofs.ServiceLawLemmas.{seat_folds}
use Rattle.tailnet_serve.proofs.seat_serving.serve_turns.Goals as goal

pub returns-clause-same : goal.returns-clause-same
returns-clause-same g c = chain_same _ (λ z. z.seat.ghost_name) (λ s e r t h. h.0) _ _ _ c.serve.ensures.serves.chain

pub returns-clause-serves : goal.returns-clause-serves
returns-clause-serves g c = serves_map _ IsSeatStep _ _ (λ z. z.seat.now) (λ s e r t h. h.1) _ _ _ _ _ _ _ c.serve.ensures.serves

pub returns-clause-followed : goal.returns-clause-followed
returns-clause-followed g c =
    seat_folds c.args.turns.now.seat.now c.serve.new.turns.seat.now (turns_of c.serve.ensures.serves.exchanges)
    (Chain-map _ IsSeatStep (λ z. z.seat.now) (λ s e r t h. h.1) _ _ _ c.serve.ensures.serves.chain)
    (subst (λ (hub : HubView). IfSome hub.start (λ start. IsSoundState start.state)) (sym c.args.turns.now.of_hub) c.rules.ensures.sound) c.rules-2.ensures.legal
