use Rattle.http_client.proofs.AnswerLaws.{part_or_bad, whole_once, whole_or_bad, whole_or_part}
use Rattle.http_client.proofs.law.one_answer.Goals as goal

pub returns : goal.returns
returns c = record {
  one = whole_once;
  whole_or_part = whole_or_part;
  whole_or_bad = whole_or_bad;
  part_or_bad = part_or_bad;
}
