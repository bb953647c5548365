use Rattle.wire_write.proofs.TokenLemmas.{opened, next, last}
use Rattle.wire_write.specs.Dns.{resolver_data}
use Rattle.wire_write.proofs.dns.ResolverTokenForm.write_json.Goals as goal

pub returns : goal.returns
unfolding resolver_data
returns c = record { adds = opened _ c.in_ok-begin_object.ensures.adds (next _ _ c.in_ok-write_addr_member.ensures.adds (last c.in_ok-end_object.ensures.adds)) }
