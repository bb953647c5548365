-- What one call takes out of a source and a buffer.
use Rattle.std.specs.Prelude.{◌≡◌, ℕ, ◌<◌, ◌≤◌, List, [], ◌∷◌, ◌++◌, length, Option}
use Rattle.io_edge.specs.Edge.{and_then_left, IsWhereTold}
use Rattle.http_front.specs.Requests.{IsWhole, IsUnfinished, IsBad, at_end, cut, bad, IsTail}
use Rattle.http_front.specs.Looks.{most}
use Rattle.http_front.specs.declared.buffer.TheConstants.{PIECE}
use Rattle.http_front.specs.declared.request.Taken.{Taken}
use Rattle.http_front.specs.declared.request.Taken.TheVariants as taken
use Rattle.http_front.specs.declared.buffer.Step.{Step}
use Rattle.http_front.specs.declared.buffer.Step.TheVariants as step
use Rattle.http_front.specs.declared.buffer.Refill.{Refill}
use Rattle.http_front.specs.declared.buffer.Refill.TheVariants as refill

-- what the answer says of the bytes held and read, of those that are held after it, and of what the source has left
abbrev pub Answers : List ℕ → List ℕ → Option (List ℕ) → Taken → Type 0
Answers bytes held left (taken.Request request) = IsWhole bytes request held
Answers bytes held left taken.End = IsTail bytes at_end × (held ≡ bytes) × IsWhereTold [] left
Answers bytes held left taken.Cut = IsTail bytes cut × (held ≡ bytes) × IsWhereTold [] left
Answers bytes held left (taken.Bad fault) = IsTail bytes (bad fault) × (held ≡ bytes)
Answers bytes held left taken.ReadFault = (0 < length bytes → IsUnfinished bytes) × (held ≡ bytes)
Answers bytes held left taken.NoMemory = held ≡ bytes

-- the most bytes that one read takes: 4 KiB
abbrev pub piece_limit : ℕ
piece_limit = PIECE

-- the bytes are neither a whole request nor refused
abbrev pub WantsMore : List ℕ → Type 0
WantsMore held = (0 < length held → IsUnfinished held) × (length held < most)

-- nothing was asked of the source
abbrev pub IsIdle : Option (List ℕ) → Option (List ℕ) → ℕ → ℕ → Type 0
IsIdle left left_after faults faults_after = (left_after ≡ left) × (faults_after ≡ faults)

-- Nothing was read, or at last a piece of at most 4 KiB behind bytes that wanted more: so at most one piece is read ahead.
abbrev pub IsNeeded : List ℕ → List ℕ → Type 0
IsNeeded held [] = Unit {0}
IsNeeded held (byte ∷ more) =
    (front piece : List ℕ) × ((byte ∷ more) ≡ front ++ piece) × (length piece ≤ piece_limit) × WantsMore (held ++ front)

-- these bytes were read behind those held, and the answer is about both
pub record Takes (left left_after : Option (List ℕ)) (held held_after : List ℕ) (answer : Taken) : Type 0 where
  pub read : List ℕ
  pub moved : left ≡ and_then_left read left_after
  pub needed : IsNeeded held read
  pub answers : Answers (held ++ read) held_after left_after answer

-- what one look at the bytes held does with them
abbrev pub IsStepOf : List ℕ → List ℕ → Step → Type 0
IsStepOf held after (step.Request request) = IsWhole held request after
IsStepOf held after step.More = (after ≡ held) × WantsMore held
IsStepOf held after (step.Bad fault) = (after ≡ held) × IsBad held fault
IsStepOf held after step.NoMemory = after ≡ held

-- what one read adds to them
abbrev pub Refills : Option (List ℕ) → Option (List ℕ) → List ℕ → List ℕ → Refill → Type 0
Refills left left_after held after refill.Some = (read : List ℕ) × (0 < length read) × (length read ≤ piece_limit) × (left ≡ and_then_left read left_after) × (after ≡ held ++ read)
Refills left left_after held after refill.End = (left ≡ left_after) × (after ≡ held) × IsWhereTold [] left_after
Refills left left_after held after refill.Failed = (left ≡ left_after) × (after ≡ held)
Refills left left_after held after refill.NoMemory = (left ≡ left_after) × (after ≡ held)
