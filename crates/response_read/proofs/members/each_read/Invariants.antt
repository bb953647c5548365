use Rattle.std.proofs.Common.{◌≡◌, ◌++◌, drop, Ok}
use Rattle.serde_json.specs.View.{items_view}
use Rattle.tail_base.specs.Steps.{◌>>=◌}
use Rattle.response_read.specs.Members.{each_read}
use Rattle.response_read.proofs.members.each_read.Given as goal

-- what is made comes before what is left
abbrev pub invariant-loop-value : goal.invariant-loop-value
invariant-loop-value g l =
    each_read g.R.ReadJson.reads (items_view (drop l.value-index l.values)) >>= (λ more. Ok (l.made ++ more)) ≡ each_read g.R.ReadJson.reads (items_view l.values)
