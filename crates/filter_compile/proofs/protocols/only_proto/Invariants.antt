use Rattle.std.proofs.Common.{◌≡◌, ◌<◌, ℕ, false}
use Rattle.port_sets.specs.Protocols.{has_member}
use Rattle.filter_compile.proofs.protocols.only_proto.Given as goal

abbrev pub invariant-loop-proto : goal.invariant-loop-proto
invariant-loop-proto l = (k : ℕ) → k < l.proto → has_member l.protos k ≡ false
