use Rattle.response_laws.proofs.ResponseBack.{a_response_is_read_back}
use Rattle.response_laws.proofs.texts.a_response_is_read_back.Goals as goal

pub returns : goal.returns
returns c = record { back = a_response_is_read_back }
