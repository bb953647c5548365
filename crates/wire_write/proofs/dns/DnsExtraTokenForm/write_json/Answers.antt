use Rattle.wire_write.proofs.TokenLemmas.{opened, next, last}
use Rattle.wire_write.specs.Dns.{extra_data}
use Rattle.wire_write.proofs.dns.DnsExtraTokenForm.write_json.Goals as goal

pub returns : goal.returns
unfolding extra_data
returns c = record { adds = opened _ c.in_ok-begin_object.ensures.adds (next _ _ c.in_ok-write_member.ensures.adds (next _ _ c.in_ok-write_type_member.ensures.adds (next _ _ c.in_ok-write_addr_member.ensures.adds (last c.in_ok-end_object.ensures.adds)))) }
