use Rattle.std.proofs.Common.{◌≡◌, length, map}
use Rattle.httparse.specs.Spans.{header_bytes}
use Rattle.http_front.specs.Lines.{values_of, any_is}
use Rattle.http_front.proofs.lines.any_named_is.Given as goal

abbrev pub invariant-loop-rest : goal.invariant-loop-rest
invariant-loop-rest l = any_is l.word (values_of l.name (map (header_bytes l.buffer) l.rest)) ≡ any_is l.word (values_of l.name (map (header_bytes l.buffer) l.headers))

abbrev pub decreases-loop-rest : goal.decreases-loop-rest
decreases-loop-rest l = length l.rest
