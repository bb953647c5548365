use Rattle.wire_write.proofs.TokenLemmas.{listed}
use Rattle.wire_write.proofs.token_form.write_array.Goals as goal

pub returns : goal.returns
returns g c = record { adds = listed g.T.TokenForm.json c.args.items.now c.in_ok-begin_array.ensures.adds c.in_ok-write_each.ensures.adds c.in_ok-end_array.ensures.adds }
