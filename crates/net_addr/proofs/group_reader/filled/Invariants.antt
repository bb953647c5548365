use Rattle.std.proofs.Common.{◌≡◌, ◌≤◌, ◌+◌, ◌-◌, ◌++◌, length, take, replicate}
use Rattle.net_addr.proofs.group_reader.filled.Given as goal

abbrev pub invariant-zeros : goal.invariant-zeros
invariant-zeros l = record {
  added : l.groups ≡ l.fn.before ++ replicate (length l.groups - length l.fn.before) 0;
  more : length l.fn.before ≤ length l.groups;
  room : length l.groups + length l.after ≤ 8;
}

abbrev pub decreases-zeros : goal.decreases-zeros
decreases-zeros l = 8 - length l.groups

abbrev pub invariant-loop-group : goal.invariant-loop-group
invariant-loop-group l = l.groups ≡ l.fn.before ++ replicate (8 - (length l.fn.before + length l.after)) 0 ++ take l.group-index l.after
