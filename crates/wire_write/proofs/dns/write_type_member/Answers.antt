use Rattle.std.proofs.Common.{◌∷◌, subst}
use Rattle.std.specs.Prelude.{codes}
use Rattle.json.specs.Token.{key}
use Rattle.serde_json.specs.Data.{string}
use Rattle.wire_write.specs.Tokens.{Adds, data_tokens}
use Rattle.wire_write.proofs.TokenLemmas.{then}
use Rattle.wire_write.proofs.dns.write_type_member.Goals as goal

pub returns : goal.returns
returns c = record { adds = subst (λ t. Adds (key (codes "Type") ∷ data_tokens (string t)) c.args.out.now c.write_text.new.out) c.record_type.ensures.value (then c.in_ok-write_name.ensures.adds c.in_ok-write_text.ensures.adds) }
