use Rattle.byte_laws.proofs.Reading.{answer_read_back}
use Rattle.byte_laws.proofs.polls.polls_are_read_back.Goals as goal

pub returns : goal.returns
returns c = record { read = answer_read_back }
