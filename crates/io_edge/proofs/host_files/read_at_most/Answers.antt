use Rattle.std.proofs.Common.{◌≡◌, ◌≤◌, ◌<◌, ℕ, ◌^◌, Option, Some, None, List, length, take, IfSome, ap, ◌∙◌, arith}
use Rattle.std.specs.Option.{option_map}
use Rattle.std.proofs.lemmas.List.{length-take, take_all}
use Rattle.io_edge.proofs.host_files.read_at_most.Goals as goal

-- what was read within a limit that it didn't reach is all
all_read : (told : Option (List ℕ)) (limit : ℕ) (read : List ℕ) → IfSome (option_map (take limit) told) (λ bytes. read ≡ bytes) → length read < limit → IfSome told (λ bytes. read ≡ bytes)
all_read None limit read is short = is
all_read (Some bytes) limit read is short = is ∙ take_all limit bytes (omega (arith, length-take limit bytes, ap length is))

pub returns-in-Ok-clause-value : goal.returns-in-Ok-clause-value
returns-in-Ok-clause-value g c =
    let read = c.read_to_end.new.buf in
    let small : read.cap < 2 ^ 63 = read.small in
    let filled : read.len ≡ length read.items × read.len ≤ read.cap = read.ok in
    let is = rw (c.take.ensures.inner, c.new-read.ensures.items) at c.in-Ok.ensures.bytes in
    all_read _ c.take.result.limit read.items is (omega (arith, filled.0, filled.1, c.take.ensures.limit, c.saturating_add-limit.ensures))
