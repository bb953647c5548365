use Rattle.std.proofs.Common.{◌≡◌, ◌+◌, ◌==◌, drop}
use Rattle.std.specs.List.{position_or_len}
use Rattle.port_sets.proofs.splitting.place_of.Given as goal

abbrev pub invariant-loop-at : goal.invariant-loop-at
invariant-loop-at l = position_or_len (λ b. b == l.byte) l.text ≡ l.at + position_or_len (λ b. b == l.byte) (drop l.at l.text)
