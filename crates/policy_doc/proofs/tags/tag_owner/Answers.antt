use Rattle.policy_doc.proofs.OwnerLemmas.{users_more, users_same, groups_more, groups_same}
use Rattle.policy_doc.proofs.tags.tag_owner.Goals as goal

pub loop-owner-preserved-in-Continue-1 : goal.loop-owner-preserved-in-Continue-1
loop-owner-preserved-in-Continue-1 c = record {
  users = users_more c.loop-owner.yielded c.in-Some.owner c.in-User.login c.loop-owner.users _ c.in-User.is c.loop-owner.invariant.users c.in_ok-push-in-User.ensures.ok;
  groups = groups_same c.loop-owner.yielded c.in-Some.owner c.in-User.login _ c.in-User.is c.loop-owner.invariant.groups;
}

pub loop-owner-preserved : goal.loop-owner-preserved
loop-owner-preserved c = record {
  users = users_same c.loop-owner.yielded c.in-Some.owner c.in-Group.name _ c.in-Group.is c.loop-owner.invariant.users;
  groups = groups_more c.loop-owner.yielded c.in-Some.owner c.in-Group.name c.loop-owner.groups _ c.in-Group.is c.loop-owner.invariant.groups c.in_ok-push-in-Group.ensures.ok;
}
