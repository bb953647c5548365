use Rattle.std.proofs.Common.{not, refl}
use Rattle.std.proofs.lemmas.Bool.{agree_below_at}
use Rattle.percent_encoding.specs.AsciiSet.{should_percent_encode}
use Rattle.http_client.specs.Asks.{is_token_byte}
use Rattle.http_client.specs.declared.asking.TheConstants.{TOKEN_ESCAPED}
use Rattle.http_client.proofs.law.tokens_are_escaped.Goals as goal

pub returns : goal.returns
unfolding should_percent_encode
returns c = record { escaped = λ b small. agree_below_at (should_percent_encode TOKEN_ESCAPED) (λ x. not (is_token_byte x)) 256 b refl small }
