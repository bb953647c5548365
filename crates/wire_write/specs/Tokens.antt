-- JSON as the tokens that are written of it.
use Rattle.std.specs.Prelude.{◌≡◌, ℕ, List, [], ◌∷◌, ◌++◌, flat_map, Option, Some, None}
use Rattle.json.specs.Token.{Token, key}
use Rattle.json.specs.Tree.{json_tokens, members_tokens}
use Rattle.json.specs.Written.{Written}
use Rattle.serde_json.specs.Data.{Data, Members}
use Rattle.serde_json.specs.Written.{outline, members_outline}

-- the tokens of a value
unfoldable pub data_tokens : Data → List Token
data_tokens d = json_tokens (outline d)

-- the tokens of members, with the closing brace
unfoldable pub closing_tokens : Members → List Token
closing_tokens ms = members_tokens (members_outline ms)

-- the tokens of each value in turn
abbrev pub each_tokens : {X : Type 0} → (X → Data) → List X → List Token
each_tokens f = flat_map (λ x. data_tokens (f x))

-- these tokens were added, and what stood before the first stays
pub record Adds (ts : List Token) (old new : Written) : Type 0 where
  pub before : new.before ≡ old.before
  pub tokens : new.tokens ≡ old.tokens ++ ts

-- the tokens of a member, where there is one
abbrev pub option_tokens : List ℕ → Option Data → List Token
option_tokens k None = []
option_tokens k (Some d) = key k ∷ data_tokens d
