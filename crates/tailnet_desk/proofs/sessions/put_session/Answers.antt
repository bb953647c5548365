use Rattle.tailnet_desk.proofs.SessionLemmas.{room_for}
use Rattle.tailnet_desk.proofs.sessions.put_session.Goals as goal

pub put-requires : goal.put-requires
put-requires c = record { spare = λ none. room_for _ _ c.requires.found none }
