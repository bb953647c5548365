use Rattle.command_words.specs.Table.{lines}
use Rattle.command_words.specs.Words.{table_line}
use Rattle.command_words.proofs.line.table_line.Goals as goal

pub returns : goal.returns
unfolding table_line lines
returns c = record { value = c.line_in.ensures.value }
