use Rattle.byte_laws.proofs.Running.{desk_read_back, seat_read_back}
use Rattle.byte_laws.proofs.runs.connections_are_read_back.Goals as goal

pub returns : goal.returns
returns c = record { desk = desk_read_back; seat = seat_read_back }
