use Rattle.std.proofs.Common.{◌∙◌, ◌∷◌, [], ◌++◌}
use Rattle.json.specs.Print.{escape}
use Rattle.policy_rows.proofs.escaping.between_quotes.Goals as goal

pub unreachable-requires-in_default-strip_prefix : goal.unreachable-requires-in_default-strip_prefix
unfolding lib.Utf8.encode
unreachable-requires-in_default-strip_prefix c =
    c.in_default-strip_prefix.ensures.cases (escape (c.requires.quoted.0) ++ 34 ∷ []) (c.in-Ok.ensures.cases.0 ∙ c.requires.quoted.1)
