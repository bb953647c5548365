-- Where an element goes among elements that rise.
use Rattle.std.specs.Prelude.{◌≡◌, ◌≤◌, List, length, insert}
use Rattle.std.specs.declared.cmp.Ordering.{Ordering}
use Rattle.tail_base.specs.Sorted.{with_element}
use Rattle.tail_base.specs.declared.sorted.Place.{Place}
use Rattle.tail_base.specs.declared.sorted.Place.TheVariants.{There, Before}

-- the element is there, or it goes before this one
abbrev pub IsPlace : {T : Type 0} → (T → T → Ordering) → List T → T → Place → Type 0
IsPlace cmp held x There = with_element cmp held x ≡ held
IsPlace cmp held x (Before i) = (i ≤ length held) × (with_element cmp held x ≡ insert held i x)
