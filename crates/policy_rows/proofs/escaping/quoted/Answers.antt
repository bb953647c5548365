use Rattle.std.proofs.Common.{◌∙◌, ◌∷◌, [], ◌++◌, List, ap}
use Rattle.json.specs.Token.{Token, string}
use Rattle.policy_rows.proofs.EscapeLemmas.{one_string}
use Rattle.policy_rows.proofs.escaping.quoted.Goals as goal

pub returns-clause-value : goal.returns-clause-value
returns-clause-value c =
    one_string c.into_inner.result.items _ c.args.text.now _ c.into_inner.ensures.items
    (c.in_ok-string.ensures.room.0 ∙ (c.new-out.ensures.before ∙ c.new.ensures.items))
    (c.in_ok-string.ensures.ok ∙ ap (λ (ts : List Token). ts ++ string c.args.text.now ∷ []) c.new-out.ensures.tokens)
