-- The seed of a desk.
use Rattle.std.specs.Prelude.{◌≡◌, ◌+◌, ℕ, ℤ, Option, None, Some, List, [], ◌∷◌, length}
use Rattle.std.specs.Option.{option_map}
use Rattle.net_addr.specs.Moments.{clamped}
use Rattle.io_edge.specs.Edge.{IsWhereTold}
use Rattle.tailnet_desk.specs.Chains.{Turned, Chain}
use Rattle.tailnet_desk.specs.Seated.{Point}
use Rattle.tailnet_desk.specs.Step.{moment_of}
use Rattle.tailnet_desk.specs.Turns.{IsTurn}
use Rattle.tailnet_desk.specs.declared.ask.Ask.TheVariants as ask
use Rattle.connections.specs.Tellings.{IsTurnOf, MomentsTold, from_number}
use Rattle.connections.specs.Connection.{Told}

-- the clock after so many answers
abbrev pub after_answers : ℕ → Told → Told
after_answers n t = record {
  left = t.left;
  read_faults = t.read_faults;
  giving = record {
    held = t.giving.held;
    write_faults = t.giving.write_faults;
    answers = from_number n t.giving.answers;
    words = t.giving.words;
    word_faults = t.giving.word_faults;
  };
}

-- the seed, if one is given, is one turn
abbrev pub IsSeeding : Option (List ℕ) → List Turned → Type 0
IsSeeding None turns = turns ≡ []
IsSeeding (Some text) turns = (t : Turned) × (turns ≡ t ∷ []) × IsTurnOf (ask.Seed text) t

-- the seed's turn, at the clock's next answer
pub record IsSeedTurn (text : List ℕ) (answers after : ℕ → Option ℤ) (p q : Point) : Type 0 where
  pub turned : Turned
  pub asks : IsTurnOf (ask.Seed text) turned
  pub leads : IsTurn p turned.event turned.reply q
  pub moment : IsWhereTold (moment_of turned.event) (option_map clamped (answers 0))
  pub rest : (k : ℕ) → after k ≡ answers (k + 1)

-- The seed, if one is given, was handed in, at the clock's next answer.
pub record IsSeeded (seed : Option (List ℕ)) (answers after : ℕ → Option ℤ) (p q : Point) : Type 0 where
  pub seeding : List Turned
  pub seeding_is : IsSeeding seed seeding
  pub moments : MomentsTold answers seeding
  pub rest : (k : ℕ) → after k ≡ from_number (length seeding) answers k
  pub chain : Chain IsTurn p seeding q
