-- What was expanded of the policy in force.
use Rattle.std.proofs.Common.{◌≡◌, ℕ, List, ap, sym, subst, ◌∙◌}
use Rattle.std.specs.Prelude.{Option}
use Rattle.net_rows.specs.declared.rows.Rows.{Rows}
use Rattle.policy_rows.specs.declared.policy.Policy.{Policy}
use Rattle.policy_sites.specs.Fitting.{AreApproved}
use Rattle.policy_sites.specs.Sites.{sites_of}
use Rattle.policy_sites.specs.declared.site.Site.{Site}
use Rattle.policy_sites.proofs.FittingLemmas.{sites_approved}
use Rattle.policy_eval.specs.Expansion.{Expansion, IsOfPolicy, expansion_of}

-- what is expanded of a policy is of it
pub made_of_policy : (policy : Option Policy) (rows : Rows) (live : List ℕ) (made : Expansion) → made ≡ expansion_of policy rows live → IsOfPolicy policy made
made_of_policy policy rows live made is = record {
  groups = ap (λ (x : Expansion). x.groups) is;
  rules = ap (λ (x : Expansion). x.rules) is;
  sites = subst (λ (x : Expansion). AreApproved policy x.sites) (sym is) (sites_approved policy rows live);
}

-- and over sites that are still those of the live machines it is what would be expanded now
pub fits_now : (policy : Option Policy) (rows : Rows) (live : List ℕ) (made : Expansion) (sites : List Site) → IsOfPolicy policy made → sites ≡ made.sites
    → ((other : Option Policy) → AreApproved other sites → sites ≡ sites_of other rows live) → made ≡ expansion_of policy rows live
fits_now policy rows live made sites told same fits =
    let here = sym same ∙ fits policy (subst (λ (ss : List Site). AreApproved policy ss) (sym same) told.sites) in
    λ i. record { groups = told.groups i; rules = told.rules i; sites = here i }
