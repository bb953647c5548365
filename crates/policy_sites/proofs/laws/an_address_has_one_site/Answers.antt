use Rattle.policy_sites.proofs.EndLemmas.{beyond_end, own_end}
use Rattle.policy_sites.proofs.SiteLemmas.{one_site, sites_apart}
use Rattle.policy_sites.proofs.laws.an_address_has_one_site.Goals as goal

pub returns : goal.returns
returns c = record {
  one = one_site;
  own = λ sites addr site h inside has. own_end sites h addr site inside has;
  apart = sites_apart;
  free = λ sites addr site h inside beyond. beyond_end sites h addr site inside beyond;
}
