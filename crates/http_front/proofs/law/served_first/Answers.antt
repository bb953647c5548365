use Rattle.http_front.proofs.Streams.{Leads_first}
use Rattle.http_front.proofs.law.served_first.Goals as goal

pub returns : goal.returns
returns c = record { first = Leads_first }
