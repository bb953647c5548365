use Rattle.std.proofs.Common.{◌≡◌, ◌++◌, drop, length, Ok}
use Rattle.serde_json.specs.View.{items_view}
use Rattle.tail_base.specs.Steps.{◌>>=◌}
use Rattle.wire_admin.specs.ExtraForms.{each_extra}
use Rattle.wire_admin.proofs.extra_forms.each_extra.Given as goal

-- what is made comes before what is left, and has a record for each element so far
abbrev pub invariant-loop-element : goal.invariant-loop-element
invariant-loop-element l =
    (each_extra (items_view (drop l.element-index l.elements)) >>= (λ more. Ok (l.made ++ more)) ≡ each_extra (items_view l.elements))
    × (length l.made ≡ l.element-index)
