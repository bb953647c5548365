use Rattle.http_front.proofs.Readings.{a_reading}
use Rattle.http_front.proofs.law.there_is_a_reading.Goals as goal

pub returns : goal.returns
returns c = record { some = a_reading }
