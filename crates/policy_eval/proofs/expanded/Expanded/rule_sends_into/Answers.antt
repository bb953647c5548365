use Rattle.std.proofs.Common.{◌≡◌, ◌&&◌, ◌∙◌, Bool, true, false, ap, sym}
use Rattle.std.specs.Prelude.{slice_index_or}
use Rattle.std.specs.List.{list_any}
use Rattle.std.specs.Option.{option_copied}
use Rattle.policy_rows.specs.declared.dest.Dest.{Dest}
use Rattle.policy_rows.specs.declared.rule.Rule.{Rule}
use Rattle.policy_sites.specs.Beyond.{covers_into}
use Rattle.policy_sites.specs.ByRule.{sends, target_of}
use Rattle.policy_eval.proofs.expanded.Expanded.rule_sends_into.Goals as goal

pub returns-then-sends : goal.returns-then-sends
returns-then-sends c = record {
  value = λ s.
      let x = c.args.self.now in
      let r = c.args.rule.now in
      let site = slice_index_or x.sites c.args.site s in
      let into : Bool = list_any (λ (entry : Dest). covers_into (target_of (option_copied c.args.target)) entry.to) r.dests in
      let flag : true ≡ sends x.groups r site = sym c.if-sends.true ∙ (c.sends.ensures.value r s ∙ ap (λ (z : Rule). sends x.groups z site) (c.requires.rule_is r)) in
      c.dests_into.ensures.value ∙ (λ i. flag i && into);
}

pub returns-else-sends : goal.returns-else-sends
returns-else-sends c = record {
  value = λ s.
      let x = c.args.self.now in
      let r = c.args.rule.now in
      let site = slice_index_or x.sites c.args.site s in
      let into : Bool = list_any (λ (entry : Dest). covers_into (target_of (option_copied c.args.target)) entry.to) r.dests in
      let flag : false ≡ sends x.groups r site = sym c.if-sends.false ∙ (c.sends.ensures.value r s ∙ ap (λ (z : Rule). sends x.groups z site) (c.requires.rule_is r)) in
      c.if-sends.false ∙ (λ i. flag i && into);
}
