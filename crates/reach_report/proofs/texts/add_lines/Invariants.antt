use Rattle.std.proofs.Common.{ℕ, List, ◌++◌, Some, take}
use Rattle.std.specs.Prelude.{flat_map}
use Rattle.reach_report.specs.Records.{HasTaken}
use Rattle.reach_report.specs.ReportTexts.{reach_line}
use Rattle.reach_report.proofs.texts.add_lines.Given as goal

-- the lines so far are written
abbrev pub invariant-loop-reach : goal.invariant-loop-reach
invariant-loop-reach l =
    (bytes : List ℕ) → HasTaken (λ v. Some v.items) l.fn.writer bytes → HasTaken (λ v. Some v.items) l.writer (bytes ++ flat_map reach_line (take l.reach-index l.reaches))
