-- What the outside tells at a moment, and what a list of turns took of it.
use Rattle.std.specs.Prelude.{◌≡◌, ◌≤◌, ◌+◌, ℕ, ℤ, Bool, true, false, Option, None, Some, List, [], ◌∷◌, length, if◌then◌else◌}
use Rattle.std.specs.Option.{option_map}
use Rattle.net_addr.specs.Moments.{clamped}
use Rattle.io_edge.specs.Edge.{IsWhereTold, Rose, RoseBy}
use Rattle.io_edge.specs.Stream as stream
use Rattle.tailnet_desk.specs.Asks.{ask_draws, draws, event_words}
use Rattle.tailnet_desk.specs.Chains.{Turned}
use Rattle.tailnet_desk.specs.Step.{moment_of}
use Rattle.tailnet_desk.specs.declared.ask.Ask.{Ask}
use Rattle.tailnet_desk.specs.declared.entry.Event.{Event}
use Rattle.tailnet_desk.specs.declared.entry.Event.TheVariants as event

-- The turn asks this. Words came with it only if they are drawn for it.
pub record IsTurnOf (ask : Ask) (t : Turned) : Type 0 where
  pub moment : ℤ
  pub words : Option (List ℕ)
  pub event_is : t.event ≡ event.Ask ask moment words
  pub undrawn : ask_draws ask ≡ false → words ≡ None

-- what the sink, the clock and the entropy tell, and their counts of faults
pub record Giving : Type 0 where
  pub held : Option (List ℕ)
  pub write_faults : ℕ
  pub answers : ℕ → Option ℤ
  pub words : ℕ → Option (List ℕ)
  pub word_faults : ℕ

abbrev pub giving : {O C N : Type 0} → (O → Option (List ℕ)) → (O → ℕ) → (C → ℕ → Option ℤ) → (N → ℕ → Option (List ℕ)) → (N → ℕ) → O → C → N → Giving
giving holds write_faults answer word word_faults o c n = record {
  held = holds o;
  write_faults = write_faults o;
  answers = answer c;
  words = word n;
  word_faults = word_faults n;
}

-- the same from what each tells
abbrev pub taking : Option (List ℕ) → ℕ → (ℕ → Option ℤ) → (ℕ → Option (List ℕ)) → ℕ → Giving
taking held write_faults answers words word_faults = record {
  held = held;
  write_faults = write_faults;
  answers = answers;
  words = words;
  word_faults = word_faults;
}

-- the same with other answers of the clock
abbrev pub telling : Giving → (ℕ → Option ℤ) → Giving
telling rest answers = record rest { answers = answers }

-- the same around what any entropy tells
abbrev pub writing : {O C : Type 0} → (O → Option (List ℕ)) → (O → ℕ) → (C → ℕ → Option ℤ) → (ℕ → Option (List ℕ)) → ℕ → O → C → Giving
writing holds write_faults answer words word_faults o c = record {
  held = holds o;
  write_faults = write_faults o;
  answers = answer c;
  words = words;
  word_faults = word_faults;
}

-- the answers from number n on
abbrev pub from_number : {A : Type 0} → ℕ → (ℕ → A) → ℕ → A
from_number n told k = told (k + n)

-- the moments are the clock's next answers, each brought to the nearest moment, where they are told
abbrev pub MomentsTold : (ℕ → Option ℤ) → List Turned → Type 0
MomentsTold told [] = Unit {0}
MomentsTold told (t ∷ ts) = IsWhereTold (moment_of t.event) (option_map clamped (told 0)) × MomentsTold (from_number 1 told) ts

abbrev pub count_drawn : Option (List ℕ) → ℕ
count_drawn None = 0
count_drawn (Some words) = 1

-- how often words were drawn for an event, and for those of turns
abbrev pub drawn_for : Event → ℕ
drawn_for e = count_drawn (event_words e)

abbrev pub drawn : List Turned → ℕ
drawn [] = 0
drawn (t ∷ ts) = drawn_for t.event + drawn ts

-- the words, if there are any, are the entropy's next, where they are told
abbrev pub AreNext : (ℕ → Option (List ℕ)) → Option (List ℕ) → Type 0
AreNext told None = Unit {0}
AreNext told (Some words) = IsWhereTold words (told 0)

-- so are those of an event; then those of turns
abbrev pub AreNextWords : (ℕ → Option (List ℕ)) → Event → Type 0
AreNextWords told e = AreNext told (event_words e)

abbrev pub WordsTold : (ℕ → Option (List ℕ)) → List Turned → Type 0
WordsTold told [] = Unit {0}
WordsTold told (t ∷ ts) = AreNextWords told t.event × WordsTold (from_number (drawn_for t.event) told) ts

abbrev pub count_failed : Bool → Option (List ℕ) → ℕ
count_failed due None = if due then 1 else 0
count_failed due (Some words) = 0

-- how often a draw that was due failed for an event, and for those of turns
abbrev pub failed_for : Event → ℕ
failed_for e = count_failed (draws e) (event_words e)

abbrev pub failed_draws : List Turned → ℕ
failed_draws [] = 0
failed_draws (t ∷ ts) = failed_for t.event + failed_draws ts

-- what a draw did: whether it was due, what came, and the words and the count before and after
abbrev pub Drew : Bool → Option (List ℕ) → (ℕ → Option (List ℕ)) → (ℕ → Option (List ℕ)) → ℕ → ℕ → Type 0
Drew false None old new before now = ((k : ℕ) → new k ≡ old k) × (before ≤ now)
Drew false (Some words) old new before now = ⊥
Drew true None old new before now = ((k : ℕ) → new k ≡ old k) × (before ≤ now) × Rose before now
Drew true (Some words) old new before now = stream.Took old new words × (before ≤ now)

-- what turns took of the clock and the entropy
pub record TurnsTook (old new : Giving) (ts : List Turned) : Type 0 where
  pub moments : MomentsTold old.answers ts
  pub clock : (k : ℕ) → new.answers k ≡ from_number (length ts) old.answers k
  pub words : WordsTold old.words ts
  pub entropy : (k : ℕ) → new.words k ≡ from_number (drawn ts) old.words k
  pub word_faults : RoseBy (failed_draws ts) old.word_faults new.word_faults
