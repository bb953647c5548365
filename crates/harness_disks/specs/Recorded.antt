-- What a recorded file shows, and its steps as those that a crash may take.
use Rattle.std.specs.Prelude.{ℕ, Bool, List, length, map, reverse}
use Rattle.sqlite_disk.specs.History.{Step, wrote, resized}
use Rattle.harness_disks.specs.declared.recorded.Recorded.{Recorded}
use Rattle.harness_disks.specs.declared.recorded.Step.{Step as Noted}
use Rattle.harness_disks.specs.declared.recorded.Step.TheVariants.{Wrote, Resized}

abbrev pub recorded_bytes : Recorded → List ℕ
recorded_bytes m = m.bytes.items

abbrev pub recorded_synced : Recorded → List ℕ
recorded_synced m = m.synced.items

abbrev pub recorded_is_usable : Recorded → Bool
recorded_is_usable m = m.usable

abbrev pub step_of : Noted → Step
step_of (Wrote at bytes) = wrote at (length bytes.items) bytes.items
step_of (Resized n) = resized n

-- the steps that it keeps, the oldest first
abbrev pub steps_of : List Noted → List Step
steps_of kept = reverse (map step_of kept)
