use Rattle.std.proofs.Common.{ap, sym, ◌∙◌, Some, None, [], ◌∷◌}
use Rattle.std.proofs.lemmas.Bool.Decides.{Decides-eqb}
use Rattle.std.proofs.lemmas.Slice.Eq.{strip_suffix_is}
use Rattle.tail_base.specs.Labels.{trimmed_end}
use Rattle.tail_base.proofs.TrimLemmas.{end_of_hyphen, end_of_other}
use Rattle.tail_base.proofs.naming.trimmed_end.Goals as goal

pub loop-rest-preserved : goal.loop-rest-preserved
loop-rest-preserved c =
    let is = strip_suffix_is Decides-eqb c.loop-rest.kept.now (45 ∷ []) (Some c.in-Some.rest) c.in-Some.ensures.cases in
    sym (ap trimmed_end is ∙ end_of_hyphen c.in-Some.rest.now) ∙ c.loop-rest.invariant

pub returns : goal.returns
returns c =
    let other = strip_suffix_is Decides-eqb c.loop-rest.kept.now (45 ∷ []) None c.in_default.ensures.cases in
    record { value = sym (end_of_other c.loop-rest.kept.now other) ∙ c.loop-rest.invariant }
