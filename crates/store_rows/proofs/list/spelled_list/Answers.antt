use Rattle.std.proofs.Common.{rules, ◌≡◌, ℕ, List, Some, sym, ap, ◌∙◌}
use Rattle.std.specs.List.{position, slice_split}
use Rattle.std.proofs.lemmas.Result.{IfOk-weaker}
use Rattle.store_rows.specs.Lists.{elements_from, is_separator}
use Rattle.store_rows.proofs.ListLemmas.{leads_end, leads_on, leads_out}
use Rattle.store_rows.proofs.list.spelled_list.Goals as goal

pub returns-in_default-2-clause-value : goal.returns-in_default-2-clause-value
returns-in_default-2-clause-value g c =
    let rest : List ℕ = c.loop-at.rest.now in
    let place : position is_separator rest ≡ Some c.in-Some.at = sym c.place_of_comma.ensures.value ∙ c.in-Some.is in
    leads_out g.T.Listed.of_text c.loop-at.items rest c.args.text.now c.in-Some.at place (sym c.in_ok-more.ensures.value ∙ c.in_default-2.is) c.loop-at.invariant.leads

pub loop-at-preserved : goal.loop-at-preserved
loop-at-preserved g c =
    let rest : List ℕ = c.loop-at.rest.now in
    let place : position is_separator rest ≡ Some c.in-Some.at = sym c.place_of_comma.ensures.value ∙ c.in-Some.is in
    let next = leads_on g.T.Listed.of_text c.loop-at.items c.in-Some-2.more rest c.args.text.now c.in-Some.at place (sym c.in_ok-more.ensures.value ∙ c.in-Some-2.is) c.loop-at.invariant.leads in
    record {
      leads = ap (λ (bs : List ℕ). elements_from g.T.Listed.of_text c.in-Some-2.more (slice_split is_separator bs)) c.behind-rest.ensures.value ∙ next;
      fit = search rules;
    }

pub returns-clause-value : goal.returns-clause-value
returns-clause-value g c =
    let rest : List ℕ = c.loop-at.rest.now in
    let last = leads_end g.T.Listed.of_text c.loop-at.items rest c.args.text.now (sym c.place_of_comma.ensures.value ∙ c.in_default.is) c.loop-at.invariant.leads in
    IfOk-weaker c.with_piece-2.result _ _ (λ found is. is ∙ last) c.with_piece-2.ensures.value
