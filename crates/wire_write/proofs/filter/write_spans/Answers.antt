use Rattle.wire_write.proofs.TokenLemmas.{listed}
use Rattle.wire_write.specs.Filters.{span_data}
use Rattle.wire_write.proofs.filter.write_spans.Goals as goal

pub returns : goal.returns
returns c = record { adds = listed span_data c.args.prefixes.now c.in_ok-begin_array.ensures.adds c.in_ok-write_each_span.ensures.adds c.in_ok-end_array.ensures.adds }
