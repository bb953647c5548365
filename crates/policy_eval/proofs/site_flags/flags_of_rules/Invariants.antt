use Rattle.std.proofs.Common.{◌≡◌, take}
use Rattle.std.specs.Prelude.{map}
use Rattle.std.specs.List.{list_any}
use Rattle.policy_eval.specs.Covering.{flag_at}
use Rattle.policy_eval.proofs.site_flags.flags_of_rules.Given as goal

abbrev pub invariant-loop-of_rule : goal.invariant-loop-of_rule
invariant-loop-of_rule l = record {
  sends : l.sends ≡ map (λ of_rule. list_any (flag_at l.own) of_rule.source_places) (take l.of_rule-index l.sets);
  takes : l.takes ≡ map (λ of_rule. list_any (flag_at l.served) of_rule.dests) (take l.of_rule-index l.sets);
}
