-- What an object was asked for, in order, where it is told.
use Rattle.std.specs.Prelude.{◌≡◌, Option, List, [], ◌∷◌, ◌++◌, Result, Ok, Err}
use Rattle.std.specs.Option.{option_map}
use Rattle.io_edge.specs.declared.faults.EdgeFault.{EdgeFault}
use Rattle.io_edge.specs.declared.faults.EdgeFault.TheVariants.{Failed, NoMemory}

-- what it was asked for before, and then this
abbrev pub and_asked : {A : Type 0} → Option (List A) → A → Option (List A)
and_asked asked more = option_map (λ before. before ++ more ∷ []) asked

-- a call that asked for this joins the list, but for one that found no memory
abbrev pub IsAsked : {A T : Type 0} → Result T EdgeFault → A → Option (List A) → Option (List A) → Type 0
IsAsked (Err NoMemory) more before now = now ≡ before
IsAsked (Err Failed) more before now = now ≡ and_asked before more
IsAsked (Ok _) more before now = now ≡ and_asked before more
