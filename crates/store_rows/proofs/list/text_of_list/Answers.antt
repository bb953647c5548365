use Rattle.std.proofs.Common.{rules, arith, ap, ◌++◌, ◌∙◌}
use Rattle.store_rows.specs.Lists.{list_text}
use Rattle.store_rows.proofs.ListLemmas.{all_behind_first, first_and_more}
use Rattle.store_rows.proofs.list.text_of_list.Goals as goal

pub loop-rest-preserved : goal.loop-rest-preserved
loop-rest-preserved g c =
    let rest = c.loop-rest.rest.now in
    let first = c.item-item.result in
    record {
      written = c.in_ok-push_element.ensures.ok ∙ ap (λ l. c.loop-rest.text ++ list_text g.T.Listed.text l) (first_and_more rest first (omega (arith, c.in-len1-up.len_at_least)) (search rules)) ∙ c.loop-rest.invariant.written;
      fit = λ all. c.loop-rest.invariant.fit (all_behind_first g.T.Listed.Fits rest first (omega (arith, c.in-len1-up.len_at_least)) (search rules) c.in_ok-push_element.ensures.fit all);
    }
