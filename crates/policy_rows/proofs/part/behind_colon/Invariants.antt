use Rattle.std.proofs.Common.{◌≡◌, ◌-◌, ◌≤◌, length, take}
use Rattle.std.specs.Prelude.{not}
use Rattle.std.specs.List.{suffix_len}
use Rattle.policy_rows.specs.Selectors.{is_colon}
use Rattle.policy_rows.proofs.part.behind_colon.Given as goal

-- no colon stands in what lies behind
abbrev pub invariant-loop-at : goal.invariant-loop-at
invariant-loop-at l = record {
  within : l.at ≤ length l.text;
  rest : length l.text - suffix_len (λ b. not (is_colon b)) l.text ≡ l.at - suffix_len (λ b. not (is_colon b)) (take l.at l.text);
}

abbrev pub decreases-loop-at : goal.decreases-loop-at
decreases-loop-at l = l.at
