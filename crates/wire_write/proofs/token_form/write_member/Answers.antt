use Rattle.wire_write.proofs.TokenLemmas.{then}
use Rattle.wire_write.proofs.token_form.write_member.Goals as goal

pub returns : goal.returns
returns g c = record { adds = then c.in_ok-write_name.ensures.adds c.in_ok-write_json.ensures.adds }
