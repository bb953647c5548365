use Rattle.same_maps.proofs.DnsLemmas.{same_extras_is}
use Rattle.same_maps.proofs.laws.same_extras_are_equal.Goals as goal

pub returns : goal.returns
returns c = record { extras = same_extras_is }
