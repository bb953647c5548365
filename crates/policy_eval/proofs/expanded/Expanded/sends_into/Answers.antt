use Rattle.std.specs.Option.{option_copied}
use Rattle.std.specs.Prelude.{slice_index_or}
use Rattle.policy_sites.specs.ByRule.{sends_into, target_of}
use Rattle.policy_eval.proofs.MatchLemmas.{any_end, any_more}
use Rattle.policy_eval.proofs.expanded.Expanded.sends_into.Goals as goal

pub loop-at-preserved : goal.loop-at-preserved
loop-at-preserved c =
    let x = c.args.self.now in
    λ s. any_more (sends_into x.groups (target_of (option_copied c.args.target)) (slice_index_or x.sites c.args.site s)) x.rules c.rules-rule-items.result.now c.loop-at.at c.rule-item.result
    c.rules-rule-items.ensures.value c.loop-at-test.true c.rule-item.is (c.loop-at.invariant s) (c.if-rule_sends_into.ensures.value s)

pub returns : goal.returns
returns c =
    let x = c.args.self.now in
    record {
      value = λ s. any_end (sends_into x.groups (target_of (option_copied c.args.target)) (slice_index_or x.sites c.args.site s)) x.rules c.rules-rule-items.result.now c.loop-at.at
          c.rules-rule-items.ensures.value c.loop-at.auto.at-end c.loop-at-test.false (c.loop-at.invariant s);
    }
