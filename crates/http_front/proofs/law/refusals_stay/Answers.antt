use Rattle.http_front.proofs.Refusals.{Splits-append_bad}
use Rattle.http_front.proofs.law.refusals_stay.Goals as goal

pub returns : goal.returns
returns c = record { stays = Splits-append_bad }
