use Rattle.wire_laws.proofs.FrameLemmas.{bodies_tell, chunks_tell, frames_tell, streams_tell}
use Rattle.wire_laws.proofs.streams.streams_tell_responses.Goals as goal

pub returns : goal.returns
returns c = record { frame = frames_tell; so_far = chunks_tell; stream = streams_tell; one_way = bodies_tell }
