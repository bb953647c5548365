use Rattle.std.proofs.Common.{Some, None, ◌∙◌}
use Rattle.std.proofs.lemmas.Slice.Eq.{strip_prefix_is}
use Rattle.std.proofs.lemmas.Bool.Decides.{Decides-eqb}
use Rattle.net_rows.proofs.NamedLemmas.{named_end, named_digits_none, named_head_none}
use Rattle.net_rows.proofs.named.names_id.Goals as goal

pub returns-in_default : goal.returns-in_default
returns-in_default c = record {
  value = named_head_none c.args.head.now c.args.text.now c.args.id
      (strip_prefix_is Decides-eqb c.args.text.now c.args.head.now None c.in_default.ensures.cases);
}

pub returns-in-Some-after_number : goal.returns-in-Some-after_number
returns-in-Some-after_number c =
    let is = strip_prefix_is Decides-eqb c.args.text.now c.args.head.now (Some c.in-Some.rest) c.in-Some.ensures.cases in
    record {
      value = c.starts_with.ensures.value ∙ named_end c.args.head.now c.args.text.now c.in-Some.rest.now c.in-Some-after_number.end.now c.args.id is c.in-Some-after_number.ensures.found;
    }

pub returns-in-None : goal.returns-in-None
returns-in-None c =
    let is = strip_prefix_is Decides-eqb c.args.text.now c.args.head.now (Some c.in-Some.rest) c.in-Some.ensures.cases in
    record { value = named_digits_none c.args.head.now c.args.text.now c.in-Some.rest.now c.args.id is c.in-None.ensures.none }
