use Rattle.http_front.proofs.Streams.{Splits_unique}
use Rattle.http_front.proofs.law.one_reading.Goals as goal

pub returns : goal.returns
returns c = record { one = Splits_unique }
