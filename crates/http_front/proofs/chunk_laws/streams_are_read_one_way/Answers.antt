use Rattle.http_front.proofs.ChunkLemmas.{same_bodies}
use Rattle.http_front.proofs.chunk_laws.streams_are_read_one_way.Goals as goal

pub returns : goal.returns
returns c = record { one = same_bodies }
