use Rattle.policy_sites.specs.Sites.{is_listed}
use Rattle.fresh_maps.specs.Profiles.{user_profile}
use Rattle.fresh_maps.proofs.ShownLemmas.{gathered_all}
use Rattle.fresh_maps.proofs.profile.users_shown.Goals as goal

pub loop-user-init : goal.loop-user-init
loop-user-init c = rw c.new-shown.ensures.value (gathered_all (λ u. is_listed c.args.owners.now u.id) user_profile c.args.users.now)
