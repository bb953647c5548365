use Rattle.map_delta.proofs.SessionLaws.{numbered_law, session_law}
use Rattle.map_delta.proofs.laws.sessions_have_their_maps.Goals as goal

pub returns : goal.returns
returns c = record { folds = session_law; numbered = numbered_law }
