use Rattle.std.proofs.Common.{◌≡◌, ◌+◌, drop}
use Rattle.std.specs.Option.{option_map}
use Rattle.net_addr.specs.GroupReads.{gap}
use Rattle.net_addr.proofs.group_reader.gap.Given as goal

abbrev pub invariant-loop-i : goal.invariant-loop-i
invariant-loop-i l = option_map (λ k. k + l.i) (gap (drop l.i l.text)) ≡ gap l.text
