-- The seed of a desk.
use Rattle.std.proofs.Common.{◌≡◌, ℕ, ℤ, Option, None, Some, List, [], ◌∷◌, refl, ap, sym, add-zero}
use Rattle.tailnet_desk.specs.Seated.{Point}
use Rattle.tailnet_commands.specs.Seeding.{IsSeeded, IsSeedTurn}

-- no seed is given
pub unseeded : (answers : ℕ → Option ℤ) (p : Point) → IsSeeded None answers answers p p
unseeded answers p = record { seeding = []; seeding_is = refl; moments = tt; rest = λ k. ap answers (sym (add-zero k)); chain = refl }

-- a seed is one turn
pub seeded_once : (text : List ℕ) (answers after : ℕ → Option ℤ) (p q : Point) → IsSeedTurn text answers after p q → IsSeeded (Some text) answers after p q
seeded_once text answers after p q seed = record {
  seeding = seed.turned ∷ [];
  seeding_is = (seed.turned, refl, seed.asks);
  moments = (seed.moment, tt);
  rest = seed.rest;
  chain = (q, seed.leads, refl);
}
