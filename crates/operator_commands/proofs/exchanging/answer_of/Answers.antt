use Rattle.std.proofs.Common.{inr}
use Rattle.operator_commands.proofs.Exchanges.{bad_read}
use Rattle.operator_commands.proofs.exchanging.answer_of.Goals as goal

pub returns-in-Bad : goal.returns-in-Bad
returns-in-Bad g c = record {
  read = inr (bad_read _ _ _ _ c.in-Ok.ensures.value c.in-Bad.ensures.taken);
  asked = c.in-Bad.ensures.asked;
  holds = c.in-Bad.ensures.holds;
}
