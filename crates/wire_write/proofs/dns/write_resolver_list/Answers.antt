use Rattle.wire_write.proofs.TokenLemmas.{then, listed}
use Rattle.wire_write.specs.Dns.{resolver_data}
use Rattle.wire_write.proofs.dns.write_resolver_list.Goals as goal

pub returns : goal.returns
returns c = record { adds = then c.in_ok-write_name.ensures.adds (listed resolver_data c.args.addrs.now c.in_ok-begin_array.ensures.adds c.in_ok-write_each_resolver.ensures.adds c.in_ok-end_array.ensures.adds) }
