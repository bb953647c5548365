use Rattle.std.proofs.Common.{not, refl}
use Rattle.std.proofs.lemmas.Bool.{agree_below_at}
use Rattle.percent_encoding.specs.AsciiSet.{should_percent_encode}
use Rattle.operator_requests.specs.declared.paths.TheConstants.{LOGIN_ESCAPED}
use Rattle.operator_requests.specs.Requests.{is_login_byte}
use Rattle.operator_requests.proofs.law.logins_are_escaped.Goals as goal

pub returns : goal.returns
unfolding should_percent_encode
returns c = record { escaped = λ b small. agree_below_at (should_percent_encode LOGIN_ESCAPED) (λ x. not (is_login_byte x)) 256 b refl small }
