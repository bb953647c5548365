use Rattle.std.proofs.Common.{◌≡◌, length, map}
use Rattle.command_words.specs.Table.{plain_line}
use Rattle.command_words.specs.Words.{line_in}
use Rattle.command_words.proofs.line.line_in.Given as goal

abbrev pub invariant-loop-rest : goal.invariant-loop-rest
invariant-loop-rest l = line_in (map plain_line l.rest) l.name ≡ line_in (map plain_line l.lines) l.name

abbrev pub decreases-loop-rest : goal.decreases-loop-rest
decreases-loop-rest l = length l.rest
