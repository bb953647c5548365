use Rattle.std.proofs.Common.{[], List, ap, ◌∙◌}
use Rattle.std.specs.Prelude.{Option}
use Rattle.policy_rows.specs.declared.rule.Rule.{Rule}
use Rattle.policy_sites.specs.Grants.{rules_or_open}
use Rattle.filter_compile.specs.Filters.{rules_filter}
use Rattle.filter_compile.proofs.FamilyLemmas.{families}
use Rattle.filter_compile.proofs.UnrestrictedLemmas.{alone, open_is}
use Rattle.filter_compile.proofs.laws.a_filter_without_rules_is_open.Goals as goal

pub returns : goal.returns
returns c = record {
  without_policy = open_is [];
  without_rules = λ policy sites m none h. ap (λ (rules : Option (List Rule)). rules_filter policy.groups (rules_or_open rules) sites m) none ∙ open_is policy.groups sites m h;
  alone = alone;
  families = families;
}
