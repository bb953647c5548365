use Rattle.std.proofs.Common.{◌∙◌, sym}
use Rattle.wire_write.proofs.TokenLemmas.{some_listed, then}
use Rattle.wire_write.proofs.token_form.write_list.Goals as goal

pub returns : goal.returns
returns g c = record { adds = some_listed c.args.name.now g.T.TokenForm.json c.args.items.now (sym c.is_empty.ensures ∙ c.if-is_empty.false) (then c.in_ok-write_name.ensures.adds c.in_ok-write_array.ensures.adds) }
