use Rattle.std.proofs.Common.{take}
use Rattle.wire_write.specs.Dns.{resolver_data}
use Rattle.wire_write.specs.Tokens.{Adds, each_tokens}
use Rattle.wire_write.proofs.dns.write_each_resolver.Given as goal

abbrev pub invariant-loop-addr : goal.invariant-loop-addr
invariant-loop-addr l = Adds (each_tokens resolver_data (take l.addr-index l.addrs)) l.fn.out l.out
