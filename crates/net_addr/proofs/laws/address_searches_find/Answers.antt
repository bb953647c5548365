use Rattle.net_addr.proofs.SearchLemmas.{address_finds, address_found}
use Rattle.net_addr.proofs.laws.address_searches_find.Goals as goal

pub returns : goal.returns
returns c = record { found = address_found; finds = address_finds }
