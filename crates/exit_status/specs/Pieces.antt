-- What writes leave.
use Rattle.std.specs.Prelude.{◌≡◌, ◌≤◌, ℕ, Bool, false, Option, List, ◌++◌, Result, Ok, Err}
use Rattle.io_edge.specs.Edge.{Counted, Rose, and_held}
use Rattle.exit_status.specs.declared.closed.Closed.{Closed}
use Rattle.exit_status.specs.declared.closed.Closed.TheVariants.{End, Early, ReadFault, WriteFault, NoMemory}

abbrev pub IsPrefix : List ℕ → List ℕ → Type 0
IsPrefix front whole = (rest : List ℕ) × (whole ≡ front ++ rest)

-- bytes went onto a sink, all of them or, where a write failed, a front
pub record Wrote (old new : Option (List ℕ)) (before now : ℕ) (bytes : List ℕ) (failed : Bool) : Type 0 where
  pub written : List ℕ
  pub front : IsPrefix written bytes
  pub to_sink : new ≡ and_held old written
  pub whole : failed ≡ false → written ≡ bytes
  pub counted : Counted before now failed

-- all was written; or a write failed; or memory ran out
abbrev pub IsSent : {T : Type 0} → Result T Closed → List ℕ → List ℕ → ℕ → ℕ → Type 0
IsSent (Ok done) written bytes before now = written ≡ bytes
IsSent (Err WriteFault) written bytes before now = Rose before now
IsSent (Err NoMemory) written bytes before now = Unit {0}
IsSent (Err End) written bytes before now = ⊥
IsSent (Err Early) written bytes before now = ⊥
IsSent (Err ReadFault) written bytes before now = ⊥

pub record Sent {T : Type 0} (outcome : Result T Closed) (old new : Option (List ℕ)) (before now : ℕ) (bytes : List ℕ) : Type 0 where
  pub written : List ℕ
  pub front : IsPrefix written bytes
  pub to_sink : new ≡ and_held old written
  pub later : before ≤ now
  pub is : IsSent outcome written bytes before now
