use Rattle.std.proofs.Common.{◌≡◌, ◌≤◌, [], drop}
use Rattle.std.specs.List.{between}
use Rattle.settings.specs.Settings.{are_labels}
use Rattle.settings.proofs.domain.are_labels.Given as goal

-- what is left decides, after the label that has begun
abbrev pub invariant-loop-i : goal.invariant-loop-i
invariant-loop-i l = (l.start ≤ l.i) × (are_labels [] l.text ≡ are_labels (between l.start l.i l.text) (drop l.i l.text))
