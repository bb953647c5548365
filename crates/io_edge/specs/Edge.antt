-- What the calls of the outside do to what an object tells, and to its count of faults.
use Rattle.std.specs.Prelude.{◌≡◌, ◌≤◌, ◌+◌, ◌^◌, ◌-◌, ℕ, Bool, IsTrue, min, Option, Some, None, List, ◌++◌, IfSome}
use Rattle.std.specs.Option.{option_map}

-- a count has risen, or stands at its end
abbrev pub Rose : ℕ → ℕ → Type 0
Rose before now = min (before + 1) (2 ^ 64 - 1) ≤ now

-- a count has risen by so much, or stands at its end
abbrev pub RoseBy : ℕ → ℕ → ℕ → Type 0
RoseBy n before now = min (before + n) (2 ^ 64 - 1) ≤ now

-- a count never falls, and has risen where the call failed
pub record Counted (before now : ℕ) (failed : Bool) : Type 0 where
  pub later : before ≤ now
  pub rose : IsTrue failed → Rose before now

-- what is left before these bytes are taken and this is left: the bytes and then what is left, where it is told
abbrev pub and_then_left : List ℕ → Option (List ℕ) → Option (List ℕ)
and_then_left bytes left = option_map (λ rest. bytes ++ rest) left

-- what is held after these bytes went onto it, where it is told
abbrev pub and_held : Option (List ℕ) → List ℕ → Option (List ℕ)
and_held held bytes = option_map (λ before. before ++ bytes) held

-- where it is told, it is this
abbrev pub IsWhereTold : {A : Type 0} → A → Option A → Type 0
IsWhereTold x told = IfSome told (λ y. x ≡ y)

-- what an object tells besides what is read from it, or besides what is written to it: bytes, addresses that it was asked for, and a count of faults
pub record Besides : Type 0 where
  pub bytes : Option (List ℕ)
  pub asked : Option (List (List ℕ))
  pub faults : ℕ

-- an object that is read alone, or written alone, tells nothing besides
abbrev pub nothing_besides : Besides
nothing_besides = record { bytes = None; asked = None; faults = 0 }

-- where it is still told, it was told before, and is this; an object may stop telling
abbrev pub StillTells : {A : Type 0} → Option A → Option A → Type 0
StillTells expected told = IfSome told (λ x. expected ≡ Some x)
