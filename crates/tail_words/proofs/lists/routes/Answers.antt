use Rattle.std.proofs.Common.{◌∙◌, Some, ap, sym}
use Rattle.tail_words.proofs.RouteLemmas.{read_routes_rise}
use Rattle.tail_words.proofs.lists.routes.Goals as goal

pub returns-in-Some-3-clause-suffixes : goal.returns-in-Some-3-clause-suffixes
returns-in-Some-3-clause-suffixes c =
    read_routes_rise c.in-Some.table.now.entries c.as_slice.result.now c.in-Some-3.made c.in_ok-texts.ensures.ordered
    (sym c.in_ok-texts.ensures.value ∙ c.in-Some-2.is ∙ ap (λ texts. Some texts) (sym c.as_slice.ensures.value))
    (sym c.in_ok-made.ensures.value ∙ c.in-Some-3.is)
