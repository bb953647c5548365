use Rattle.http_front.proofs.Streams.{Leads_whole}
use Rattle.http_front.proofs.law.whole_requests.Goals as goal

pub returns : goal.returns
returns c = record { all = Leads_whole }
