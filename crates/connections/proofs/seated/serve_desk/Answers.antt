use Rattle.tailnet_desk.specs.Seated.{point_of}
use Rattle.tailnet_desk.specs.Turns.{IsTurn}
use Rattle.tailnet_desk.proofs.KeptTurns.{turns_safe}
use Rattle.tailnet_laws.proofs.SoundStates.{chain_followed}
use Rattle.connections.specs.Exchanges.{turns_of}
use Rattle.connections.proofs.Seen.{serves_map}
use Rattle.connections.proofs.seated.serve_desk.Goals as goal

pub returns : goal.returns
returns g c =
    let k = g.K.Keeper in
    record {
      serves = serves_map _ IsTurn c.args.front.now 0 (point_of k.told k.faults k.calls) (λ s e reply t h. h.turn) _ _ _ _ _ _ _ c.serve.ensures.serves;
      followed = λ turns chain. chain_followed _ turns _ chain c.rules.ensures.sound;
      safe = turns_safe k.told k.faults k.calls k.is_clean k.may_leave _ (turns_of c.serve.ensures.serves.exchanges) _ c.serve.ensures.serves.chain;
    }
