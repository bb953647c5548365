use Rattle.std.proofs.Common.{◌≡◌, length}
use Rattle.http_front.specs.declared.target.Place.TheVariants.{LineStart}
use Rattle.http_front.specs.Target.{ends_in_target}
use Rattle.http_front.proofs.target.scan.Given as goal

abbrev pub invariant-loop-rest : goal.invariant-loop-rest
invariant-loop-rest l = ends_in_target l.place l.rest ≡ ends_in_target LineStart l.bytes

abbrev pub decreases-loop-rest : goal.decreases-loop-rest
decreases-loop-rest l = length l.rest
