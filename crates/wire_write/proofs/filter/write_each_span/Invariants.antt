use Rattle.std.proofs.Common.{take}
use Rattle.wire_write.specs.Filters.{span_data}
use Rattle.wire_write.specs.Tokens.{Adds, each_tokens}
use Rattle.wire_write.proofs.filter.write_each_span.Given as goal

abbrev pub invariant-loop-prefix : goal.invariant-loop-prefix
invariant-loop-prefix l = Adds (each_tokens span_data (take l.prefix-index l.prefixes)) l.fn.out l.out
