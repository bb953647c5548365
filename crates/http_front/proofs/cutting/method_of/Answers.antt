use Rattle.std.proofs.Common.{refl}
use Rattle.http_front.proofs.MethodLemmas.{method_token}
use Rattle.http_front.proofs.cutting.method_of.Goals as goal

pub unreachable-requires : goal.unreachable-requires
unreachable-requires c =
    let not_token = rw c.in-Err-Invalid.field-0-is at c.in-Err-Invalid.ensures.invalid.0 in
    not_token refl (method_token c.args.token.now c.requires.token)
