use Rattle.http_front.proofs.ChunkLemmas.{same_streams}
use Rattle.http_front.proofs.chunk_laws.streams_differ.Goals as goal

pub returns : goal.returns
returns c = record { one = same_streams }
