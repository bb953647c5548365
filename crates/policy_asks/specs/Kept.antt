-- The policy that tables keep.
use Rattle.std.specs.Prelude.{ℕ, ◌&&◌, Bool, List, Option, is_none, is_some, option_and_then}
use Rattle.std.specs.Result.{result_ok}
use Rattle.net_rows.specs.declared.rows.Rows.{Rows}
use Rattle.policy_rows.specs.declared.policy.Policy.{Policy}
use Rattle.policy_doc.specs.Document.{policy_of_text}

-- the policy of the text that is kept, if one is
abbrev pub policy_of_kept : Option (List ℕ) → Option Policy
policy_of_kept kept = option_and_then (λ text. result_ok (policy_of_text text)) kept

-- a text is kept, and it states no policy
abbrev pub is_unread : Option (List ℕ) → Bool
is_unread kept = is_some kept && is_none (policy_of_kept kept)

-- the policy of tables: that of the text that they keep
abbrev pub policy_in : Rows → Option Policy
policy_in rows = policy_of_kept rows.policy
