use Rattle.std.proofs.Common.{List, ap}
use Rattle.std.specs.Prelude.{Option}
use Rattle.policy_rows.specs.declared.rule.Rule.{Rule}
use Rattle.policy_sites.specs.Grants.{rules_or_open, some_rule_grants}
use Rattle.filter_compile.specs.Filters.{rules_filter}
use Rattle.filter_compile.proofs.laws.closed_policies_close.Goals as goal

pub returns : goal.returns
returns c = record {
  grants = λ policy closed s d proto port. ap (λ (rules : Option (List Rule)). some_rule_grants policy.groups (rules_or_open rules) s d proto port) closed;
  filters = λ policy closed sites m. ap (λ (rules : Option (List Rule)). rules_filter policy.groups (rules_or_open rules) sites m) closed;
}
