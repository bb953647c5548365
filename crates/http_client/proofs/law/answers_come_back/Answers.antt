use Rattle.http_client.proofs.SentAnswers.{comes_back, sent_whole}
use Rattle.http_client.proofs.law.answers_come_back.Goals as goal

pub returns : goal.returns
returns c = record { whole = sent_whole; taken = comes_back }
