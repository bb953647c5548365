use Rattle.std.proofs.Common.{◌≡◌, drop}
use Rattle.std.specs.Prelude.{map, filter}
use Rattle.policy_sites.specs.Sites.{is_listed}
use Rattle.fresh_maps.specs.Profiles.{user_profile}
use Rattle.fresh_maps.proofs.ShownLemmas.{gathered}
use Rattle.fresh_maps.proofs.profile.users_shown.Given as goal

-- what is gathered from here on makes the whole list
abbrev pub invariant-loop-user : goal.invariant-loop-user
invariant-loop-user l = gathered (λ u. is_listed l.owners u.id) user_profile l.shown (drop l.user-index l.users) ≡ map user_profile (filter (λ u. is_listed l.owners u.id) l.users)
