use Rattle.std.proofs.Common.{◌≡◌, take}
use Rattle.std.specs.Prelude.{map}
use Rattle.policy_eval.specs.Covering.{has_site}
use Rattle.policy_eval.proofs.cover.site_flags.Given as goal

abbrev pub invariant-loop-site : goal.invariant-loop-site
invariant-loop-site l = l.flags ≡ map (has_site l.set) (take l.site-index l.sites)
