-- What memory doors tell of connections that were given back, and of what they were asked for.
use Rattle.std.specs.Prelude.{ℕ, Option, List, map}
use Rattle.io_edge.specs.Door.{Finished, Opening}
use Rattle.memory_edge.specs.declared.doors.AskedOpening.{AskedOpening}

-- each by what its source and its sink tell
abbrev pub all_finished : {I O : Type 0} → (I → Option (List ℕ)) → (I → ℕ) → (O → Option (List ℕ)) → (O → ℕ) → List (I × O) → List Finished
all_finished left read_faults holds write_faults connections =
    map (λ c. record { left = left c.0; holds = holds c.1; read_faults = read_faults c.0; write_faults = write_faults c.1 }) connections

abbrev pub as_opening : AskedOpening → Opening
as_opening asked = record { address = asked.address; count = asked.count }
