-- Answers that name a fault.
use Rattle.std.specs.Prelude.{◌≡◌, ◌⊎◌, true, None, List, [], ◌∷◌}
use Rattle.io_edge.specs.Edge.{Rose}
use Rattle.connections.specs.Tellings.{Giving, TurnsTook}
use Rattle.tailnet_desk.specs.Asks.{draws, event_words}
use Rattle.tailnet_desk.specs.Chains.{Chain, Turned}
use Rattle.tailnet_desk.specs.Seated.{Point}
use Rattle.tailnet_desk.specs.Turns.{IsTurn}
use Rattle.tailnet_desk.specs.declared.reply.Loss.TheVariants.{KeeperFault}
use Rattle.tailnet_desk.specs.declared.reply.Reply.TheVariants.{Lost}

-- an event was replied that the keeper failed to keep its change
abbrev pub HasLostChange : List Turned → Type 0
HasLostChange [] = ⊥
HasLostChange (t ∷ ts) = (t.reply ≡ Lost KeeperFault) ⊎ HasLostChange ts

-- random words were due for an event, and none came
abbrev pub HasLackedWords : List Turned → Type 0
HasLackedWords [] = ⊥
HasLackedWords (t ∷ ts) = ((draws t.event ≡ true) × (event_words t.event ≡ None)) ⊎ HasLackedWords ts

-- A connection's answer names a fault of the keeper only where its count rose between the first turn and the last.
abbrev pub AreLossesCounted : Type 0
AreLossesCounted = (p : Point) (turns : List Turned) (q : Point) → Chain IsTurn p turns q → HasLostChange turns → Rose p.keeping.faults q.keeping.faults

-- Words lack only where the count of the random source rose.
abbrev pub AreLacksCounted : Type 0
AreLacksCounted = (old new : Giving) (turns : List Turned) → TurnsTook old new turns → HasLackedWords turns → Rose old.word_faults new.word_faults
