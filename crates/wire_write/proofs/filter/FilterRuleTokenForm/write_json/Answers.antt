use Rattle.wire_write.proofs.TokenLemmas.{opened, next, last}
use Rattle.wire_write.specs.Filters.{rule_data}
use Rattle.wire_write.proofs.filter.FilterRuleTokenForm.write_json.Goals as goal

pub returns : goal.returns
unfolding rule_data
returns c = record { adds = opened _ c.in_ok-begin_object.ensures.adds (next _ _ c.in_ok-write_member.ensures.adds (next _ _ c.in_ok-write_member-2.ensures.adds (next _ _ c.in_ok-write_member-3.ensures.adds (last c.in_ok-end_object.ensures.adds)))) }
