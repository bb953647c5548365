-- The six lines of a load.
use Rattle.std.specs.Prelude.{ℕ, List, ◌++◌, codes, decimal}
use Rattle.load_run.specs.Tasks.{request_count}
use Rattle.load_run.specs.declared.counts.Counts.{Counts}
use Rattle.load_run.specs.declared.task.LoadPlan.{LoadPlan}

-- a name and a number
abbrev pub line : List ℕ → ℕ → List ℕ
line name number = name ++ codes " " ++ decimal number ++ codes "\n"

unfoldable pub report : LoadPlan → Counts → ℕ → List ℕ
report plan counts frames =
    line (codes "machines") plan.machines ++ line (codes "events") plan.events ++ line (codes "requests") (request_count plan)
    ++ line (codes "ok") counts.ok ++ line (codes "refused") counts.refused ++ line (codes "frames") frames
