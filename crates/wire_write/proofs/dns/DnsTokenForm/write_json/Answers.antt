use Rattle.wire_write.proofs.TokenLemmas.{opened, next, last}
use Rattle.wire_write.specs.Dns.{dns_data}
use Rattle.wire_write.proofs.dns.DnsTokenForm.write_json.Goals as goal

pub returns : goal.returns
unfolding dns_data
returns c = record { adds = opened _ c.in_ok-begin_object.ensures.adds (next _ _ c.in_ok-write_member.ensures.adds (next _ _ c.in_ok-write_member-2.ensures.adds (next _ _ c.in_ok-write_member-3.ensures.adds (next _ _ c.in_ok-write_resolvers.ensures.adds (next _ _ c.in_ok-write_routes.ensures.adds (last c.in_ok-end_object.ensures.adds)))))) }
