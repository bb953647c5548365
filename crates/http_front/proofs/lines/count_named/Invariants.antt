use Rattle.std.proofs.Common.{◌≡◌, ◌+◌, ◌≤◌, length, map}
use Rattle.httparse.specs.Spans.{header_bytes}
use Rattle.http_front.specs.Lines.{values_of}
use Rattle.http_front.proofs.lines.count_named.Given as goal

abbrev pub invariant-loop-rest : goal.invariant-loop-rest
invariant-loop-rest l = (l.count + length l.rest ≤ length l.headers) × (l.count + length (values_of l.name (map (header_bytes l.buffer) l.rest)) ≡ length (values_of l.name (map (header_bytes l.buffer) l.headers)))

abbrev pub decreases-loop-rest : goal.decreases-loop-rest
decreases-loop-rest l = length l.rest
