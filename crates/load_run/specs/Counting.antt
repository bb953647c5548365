-- How answers are counted.
use Rattle.std.specs.Prelude.{ℕ, ◌+◌, List, Bool, codes, nat_eq, if◌then◌else◌}
use Rattle.std.specs.List.{starts_with}
use Rattle.load_run.specs.declared.counts.Counts.{Counts}

-- whether the status of an answer is 2xx
abbrev pub is_good : List ℕ → Bool
is_good answer = starts_with nat_eq answer (codes "HTTP/1.1 2")

-- whether it is 503, the answer of lack of memory
abbrev pub is_busy_answer : List ℕ → Bool
is_busy_answer answer = starts_with nat_eq answer (codes "HTTP/1.1 503")

-- an answer more
abbrev pub counted : Counts → List ℕ → Counts
counted counts answer = if is_good answer then record counts { ok = counts.ok + 1 } else record counts { refused = counts.refused + 1 }
