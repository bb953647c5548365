-- Which numbers a response has that is read back: one of its session from 1, and protocols that rise.
use Rattle.std.specs.Prelude.{◌<◌, ◌≤◌, ℕ, List, [], ◌∷◌, IfSome, ⊤}
use Rattle.std.specs.List.{AllByRecursion}
use Rattle.tailcfg.specs.declared.filter.FilterRule.{FilterRule}
use Rattle.tailcfg.specs.declared.response.Response.{Response}

-- a number of 8 bits above that, and each above the one before
abbrev pub Rise : ℕ → List ℕ → Type 0
Rise low [] = ⊤
Rise low (n ∷ ns) = (low < n) × (n ≤ 255) × Rise n ns

-- the protocols are from 1 to 255, each above the one before
abbrev pub DoProtosRise : FilterRule → Type 0
DoProtosRise r = Rise 0 r.protos

-- The number of a response in its session is at least 1, if it has one, and the protocols of each rule rise.
pub record IsNumbered (r : Response) : Type 0 where
  pub seq : IfSome r.seq (λ n. 0 < n)
  pub filter : IfSome r.filter (AllByRecursion DoProtosRise)
