use Rattle.std.proofs.Common.{◌≡◌, ◌++◌, drop}
use Rattle.map_delta.specs.Delta.{new_profiles}
use Rattle.map_delta.proofs.change.new_profiles.Given as goal

abbrev pub invariant-loop-profile : goal.invariant-loop-profile
invariant-loop-profile l = l.profiles ++ new_profiles l.old (drop l.profile-index l.new) ≡ new_profiles l.old l.new
