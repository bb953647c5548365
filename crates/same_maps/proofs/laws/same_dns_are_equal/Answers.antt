use Rattle.same_maps.proofs.DnsLemmas.{same_dns_is}
use Rattle.same_maps.proofs.laws.same_dns_are_equal.Goals as goal

pub returns : goal.returns
returns c = record { dns = same_dns_is }
