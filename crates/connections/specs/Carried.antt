-- The responses that the answer to a poll carries, and that their frames were made.
use Rattle.std.specs.Prelude.{◌≡◌, ◌<◌, ◌^◌, ◌⊎◌, ℕ, Bool, true, List, [], ◌∷◌, ◌++◌, length, if◌then◌else◌}
use Rattle.std.specs.List.{AllByRecursion}
use Rattle.tailcfg.specs.declared.response.Response.{Response}
use Rattle.fresh_maps.specs.Frames.{frame_of}
use Rattle.map_delta.specs.Delta.{greeting}
use Rattle.tailnet_desk.specs.Chains.{Turned}
use Rattle.tailnet_desk.specs.declared.reply.Reply.{Reply}
use Rattle.tailnet_desk.specs.declared.reply.Reply.TheVariants.{Attached, Detached, Done, Ended, Frames, Lost, Refused}
use Rattle.tailnet_laws.specs.Followed.{frames_in}

-- the greeting of a client whose session goes on
abbrev pub greetings : List ℕ → Bool → List Response
greetings handle resumed = if resumed then greeting handle ∷ [] else []

-- with which responses a stream begins, by what the first drain was replied; where memory ran out none begins
abbrev pub first_responses : List ℕ → Bool → Reply → List Response
first_responses handle resumed (Done answer) = []
first_responses handle resumed (Attached other seq again may_wait) = []
first_responses handle resumed (Frames responses) = greetings handle resumed ++ responses
first_responses handle resumed Ended = greetings handle resumed
first_responses handle resumed Detached = []
first_responses handle resumed (Refused refusal) = []
first_responses handle resumed (Lost loss) = []

-- and those of further drains
abbrev pub further_responses : List Turned → List Response
further_responses [] = []
further_responses (t ∷ ts) = frames_in t.reply ++ further_responses ts

-- the length of its frame is a number of the machine
abbrev pub IsSized : Response → Type 0
IsSized r = length (frame_of r) < 2 ^ 64

abbrev pub AreSized : List Response → Type 0
AreSized rs = AllByRecursion IsSized rs

-- the frames for a drain were made; or the writing broke off, and no drain followed
abbrev pub AreMade : Bool → List Response → List Turned → Type 0
AreMade broken rs ts = ((broken ≡ true) × (ts ≡ [])) ⊎ AreSized rs

-- so it is for each further drain
abbrev pub AreFurtherMade : Bool → List Turned → Type 0
AreFurtherMade broken [] = Unit {0}
AreFurtherMade broken (t ∷ ts) = AreMade broken (frames_in t.reply) ts × AreFurtherMade broken ts

-- for the first and for further ones
abbrev pub AreAllMade : Bool → List ℕ → Bool → Reply → List Turned → Type 0
AreAllMade broken handle resumed first further =
    AreMade broken (first_responses handle resumed first) further × AreFurtherMade broken further
