use Rattle.status_laws.proofs.AnswerLemmas.{lacks_counted, losses_counted}
use Rattle.status_laws.proofs.laws.answers_name_their_faults.Goals as goal

pub returns : goal.returns
returns c = record { losses = losses_counted; lacks = lacks_counted }
