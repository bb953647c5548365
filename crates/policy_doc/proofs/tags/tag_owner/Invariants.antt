use Rattle.std.proofs.Common.{◌≡◌}
use Rattle.std.specs.List.{filter_map}
use Rattle.policy_doc.specs.Entries.{owner_group, owner_user}
use Rattle.policy_doc.proofs.tags.tag_owner.Given as goal

-- the users and the groups of the owners so far
abbrev pub invariant-loop-owner : goal.invariant-loop-owner
invariant-loop-owner l = record {
  users : l.users ≡ filter_map owner_user l.yielded;
  groups : l.groups ≡ filter_map owner_group l.yielded;
}
