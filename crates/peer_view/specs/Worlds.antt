-- Which expansions fit.
use Rattle.std.specs.Prelude.{◌≡◌, ℕ, List, Option, None}
use Rattle.policy_rows.specs.declared.policy.Policy.{Policy}
use Rattle.net_rows.specs.Damage.{damage}
use Rattle.net_rows.specs.declared.rows.Rows.{Rows}
use Rattle.policy_eval.specs.Expansion.{Expansion, expansion_of}

-- What was expanded is this policy over these live machines, in tables that keep their rules.
pub record IsWorld (made : Expansion) (policy : Option Policy) (rows : Rows) (live : List ℕ) : Type 0 where
  pub fits : made ≡ expansion_of policy rows live
  pub sound : damage rows ≡ None
