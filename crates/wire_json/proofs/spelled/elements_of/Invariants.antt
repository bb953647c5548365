use Rattle.std.proofs.Common.{◌≡◌, ◌++◌, drop, length}
use Rattle.std.specs.Prelude.{option_map}
use Rattle.serde_json.specs.View.{items_view}
use Rattle.wire_json.specs.Readers.{all_spelled}
use Rattle.wire_json.proofs.spelled.elements_of.Given as goal

-- what is made comes before what is left, and has an element for each value so far
abbrev pub invariant-loop-value : goal.invariant-loop-value
invariant-loop-value g l =
    (option_map (λ more. l.made ++ more) (all_spelled g.T.Spelled.spelled (items_view (drop l.value-index l.values)))
    ≡ all_spelled g.T.Spelled.spelled (items_view l.values))
    × (length l.made ≡ l.value-index)
