-- The file that a command sends.
use Rattle.std.specs.Prelude.{◌≡◌, ◌<◌, ◌≤◌, ℕ, Option, Some, None, List, [], length, Result, Ok, Err, IfSome, IsSomeAnd}
use Rattle.io_edge.specs.Edge.{IsWhereTold, Rose}
use Rattle.operator_commands.specs.declared.filing.TheConstants.{SENT_LIMIT}
use Rattle.operator_commands.specs.declared.unanswered.Unanswered.{Unanswered}
use Rattle.operator_commands.specs.declared.unanswered.Unanswered.TheVariants as fault

-- a named file was read, or none is named; or why it wasn't read
abbrev pub IsFileRead : Option (List ℕ) → (List ℕ → Option (Option (List ℕ))) → ℕ → ℕ → Result (List ℕ) Unanswered → Type 0
IsFileRead None holds faults faults_after (Ok bytes) = (bytes ≡ []) × (faults_after ≡ faults)
IsFileRead None holds faults faults_after (Err why) = ⊥
IsFileRead (Some name) holds faults faults_after (Ok bytes) = IsWhereTold (Some bytes) (holds name) × (length bytes ≤ SENT_LIMIT)
IsFileRead (Some name) holds faults faults_after (Err fault.FileFault) = Rose faults faults_after
IsFileRead (Some name) holds faults faults_after (Err fault.TooLarge) = IfSome (holds name) (λ file. IsSomeAnd file (λ bytes. SENT_LIMIT < length bytes))
IsFileRead (Some name) holds faults faults_after (Err fault.NoMemory) = Unit {0}
IsFileRead (Some name) holds faults faults_after (Err fault.ReadFault) = ⊥
IsFileRead (Some name) holds faults faults_after (Err fault.WriteFault) = ⊥
