use Rattle.wire_laws.proofs.ResponseForms.{texts_tell_responses}
use Rattle.wire_laws.proofs.texts.texts_tell_responses.Goals as goal

pub returns : goal.returns
returns c = record { tell = texts_tell_responses }
