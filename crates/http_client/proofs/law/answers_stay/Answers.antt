use Rattle.http_client.proofs.AnswerLaws.{bad_stays, whole_stays}
use Rattle.http_client.proofs.law.answers_stay.Goals as goal

pub returns : goal.returns
returns c = record { whole = whole_stays; bad = bad_stays }
