-- Connections that come at a door, and those that were given back to it.
use Rattle.std.specs.Prelude.{◌≡◌, ◌+◌, ◌<◌, ℕ, Option, Some, None, List, [], ◌∷◌, ◌++◌, length, map, IfSome, slice_get}
use Rattle.std.specs.Option.{option_map, unwrap_or}

-- a connection that was given back: the bytes left unread and those written, where they are told, and both counts of faults
pub record Finished : Type 0 where
  pub left : Option (List ℕ)
  pub holds : Option (List ℕ)
  pub read_faults : ℕ
  pub write_faults : ℕ

-- what the doors were asked for: an address, and how many doors
pub record Opening : Type 0 where
  pub address : List ℕ
  pub count : ℕ

-- the connections that were given back, and then this one, where they are told
abbrev pub and_finished : Option (List Finished) → Finished → Option (List Finished)
and_finished finished connection = option_map (λ before. before ++ connection ∷ []) finished

-- this connection is the next, with its bytes left and nothing written; the others come after it, where they are told
abbrev pub IsNext : Option (List ℕ) → Option (List ℕ) → Option (List (List ℕ)) → Option (List (List ℕ)) → Type 0
IsNext left holds None now = now ≡ None
IsNext left holds (Some []) now = ⊥
IsNext left holds (Some (bytes ∷ rest)) now = (left ≡ Some bytes) × (holds ≡ Some []) × (now ≡ Some rest)

-- fewer connections come and were given back than the door was opened with, where all of it is told
abbrev pub HasRoom : Option (List (List ℕ)) → Option (List Finished) → Option ℕ → Type 0
HasRoom coming finished number = IfSome coming (λ some. IfSome finished (λ done. IfSome number (λ all. length some + length done < all)))

-- the connections told for the door at this place; none past the end of the list
abbrev pub for_place : List (List (List ℕ)) → ℕ → List (List ℕ)
for_place told i = unwrap_or (slice_get told i) []

-- a door that was just opened with these connections
pub record IsOpenedWith (connections : List (List ℕ)) (coming : Option (List (List ℕ))) (finished : Option (List Finished)) (number : Option ℕ) : Type 0 where
  pub come : coming ≡ Some connections
  pub none : finished ≡ Some []
  pub all : number ≡ Some (length connections)

-- where it is told, this is what each of these tells, in order
abbrev pub IsToldOfEach : {A : Type 0} → List (Option A) → Option (List A) → Type 0
IsToldOfEach each told = IfSome told (λ all. each ≡ map Some all)
