use Rattle.std.proofs.Common.{◌≡◌, length}
use Rattle.policy_rows.specs.Names.{group_named}
use Rattle.policy_sites.proofs.listing.groups_from.Given as goal

abbrev pub invariant-loop-head : goal.invariant-loop-head
invariant-loop-head l = group_named l.rest l.name ≡ group_named l.groups l.name

abbrev pub decreases-loop-head : goal.decreases-loop-head
decreases-loop-head l = length l.rest
