-- JSON that is told by its text.
use Rattle.std.specs.Prelude.{ℕ, zero, suc, ⊤}
use Rattle.serde_json.specs.Data.{Num, unsigned, negative, float, Data, null, boolean, number, string, array, object, Items, no_items, item, Members, no_members, member}
use Rattle.response_values.specs.Values.{FitsWord}

-- a number of 64 bits, neither below zero nor a float
abbrev pub IsCount : Num → Type 0
IsCount (unsigned n) = FitsWord n
IsCount (negative z) = ⊥
IsCount (float x) = ⊥

-- Arrays and objects nest no deeper than the number, and each number is a count.
abbrev mutual
  pub IsTree : ℕ → Data → Type 0
  IsTree n null = ⊤
  IsTree n (boolean b) = ⊤
  IsTree n (number x) = IsCount x
  IsTree n (string s) = ⊤
  IsTree zero (array ds) = ⊥
  IsTree (suc n) (array ds) = AreTrees n ds
  IsTree zero (object ms) = ⊥
  IsTree (suc n) (object ms) = HaveTrees n ms

  pub AreTrees : ℕ → Items → Type 0
  AreTrees n no_items = ⊤
  AreTrees n (item d ds) = IsTree n d × AreTrees n ds

  pub HaveTrees : ℕ → Members → Type 0
  HaveTrees n no_members = ⊤
  HaveTrees n (member k d ms) = IsTree n d × HaveTrees n ms
