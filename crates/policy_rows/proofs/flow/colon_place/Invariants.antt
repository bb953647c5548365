use Rattle.std.proofs.Common.{◌≡◌, ◌+◌, drop}
use Rattle.std.specs.List.{position_or_len}
use Rattle.policy_rows.specs.Selectors.{is_colon}
use Rattle.policy_rows.proofs.flow.colon_place.Given as goal

abbrev pub invariant-loop-at : goal.invariant-loop-at
invariant-loop-at l = position_or_len is_colon l.text ≡ l.at + position_or_len is_colon (drop l.at l.text)
