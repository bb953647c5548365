-- Served requests: their turns at the desk, and the bytes of their answers.
use Rattle.std.specs.Prelude.{◌≡◌, ◌≢◌, ◌<◌, ◌≤◌, ◌⊎◌, ◌-◌, ◌||◌, ◌==◌, ℕ, Bool, true, false, Option, None, Some, List, [], ◌∷◌, Result, Ok, Err, map, codes, if◌then◌else◌}
use Rattle.std.specs.List.{flat_map}
use Rattle.std.specs.Option.{option_or}
use Rattle.io_edge.specs.Edge.{Rose, and_held}
use Rattle.http_front.specs.AnswerBytes.{answer}
use Rattle.http_front.specs.declared.request.Request.{Request}
use Rattle.tailnet_desk.specs.Chains.{Turned, Chain}
use Rattle.tailnet_desk.specs.declared.entry.Event.{Event}
use Rattle.tailnet_desk.specs.declared.reply.Reply.{Reply}
use Rattle.desk_front.specs.Replies.{reply_bytes}
use Rattle.desk_front.specs.Wanted.{wanted_of}
use Rattle.desk_front.specs.declared.want.Wanted.{Wanted}
use Rattle.desk_front.specs.declared.want.Wanted.TheVariants as wants
use Rattle.desk_front.specs.declared.front_settings.FrontSettings.{FrontSettings}
use Rattle.connections.specs.Polls.{IsPoll, heard_of}
use Rattle.connections.specs.Tellings.{Giving, IsTurnOf, TurnsTook}
use Rattle.exit_status.specs.Pieces.{IsPrefix}
use Rattle.exit_status.specs.declared.closed.Closed.{Closed}
use Rattle.exit_status.specs.declared.closed.Closed.TheVariants.{End, Early, ReadFault, WriteFault, NoMemory}

-- a served request, its turns, the bytes of its answer, how it ended the connection, if it did, and whether its writing broke off
pub record Exchange : Type 0 where
  pub request : Request
  pub turns : List Turned
  pub bytes : List ℕ
  pub ended : Option Closed
  pub broken : Bool

abbrev pub ended_by : Bool → Option Closed
ended_by close = if close then Some End else None

-- memory was refused before any event
abbrev pub IsUnanswered : Bool → List Turned → List ℕ → Option Closed → Type 0
IsUnanswered close turns bytes ended =
    (turns ≡ []) × (bytes ≡ answer 503 (codes "{\"error\":\"NoMemory\"}") close) × (ended ≡ ended_by close)

-- A fault and a fixed answer have no turn; a fault ends the connection. What is asked is one turn, and its reply is
-- answered. A poll has so many further drains at most.
abbrev pub IsAnswered : FrontSettings → ℕ → Bool → Wanted → List Turned → List ℕ → Option Closed → Bool → Type 0
IsAnswered given more close (wants.Fault body) turns bytes ended broken = (turns ≡ []) × (bytes ≡ answer 400 body true) × (ended ≡ Some Early)
IsAnswered given more close (wants.Answer status body) turns bytes ended broken =
    (turns ≡ []) × (bytes ≡ answer status body close) × (ended ≡ ended_by close)
IsAnswered given more close (wants.Ask ask) turns bytes ended broken =
    (t : Turned) × (turns ≡ t ∷ []) × IsTurnOf ask t × (bytes ≡ reply_bytes given ask t.reply close) × (ended ≡ ended_by close)
IsAnswered given more close (wants.Poll p) turns bytes ended broken = IsPoll given more close p turns bytes broken × (ended ≡ ended_by close)

-- The turns and the bytes are those of the request, which is the last that is served or not.
abbrev pub IsExchange : FrontSettings → ℕ → Bool → Exchange → Type 0
IsExchange given more last x =
    IsUnanswered (x.request.close || last) x.turns x.bytes x.ended
    ⊎ IsAnswered given more (x.request.close || last) (wanted_of given x.request) x.turns x.bytes x.ended x.broken

-- So many requests are served at most; only the last of them may have ended the connection, or have broken off.
abbrev pub AreExchanges : FrontSettings → ℕ → ℕ → List Exchange → Type 0
AreExchanges given more limit [] = Unit {0}
AreExchanges given more limit (x ∷ xs) =
    (0 < limit) × IsExchange given more (limit == 1) x × (xs ≢ [] → (x.ended ≡ None) × (x.broken ≡ false)) × AreExchanges given more (limit - 1) xs

abbrev pub requests_of : List Exchange → List Request
requests_of xs = map (λ x. x.request) xs

abbrev pub turns_of : List Exchange → List Turned
turns_of xs = flat_map (λ x. x.turns) xs

abbrev pub answers_of : List Exchange → List ℕ
answers_of xs = flat_map (λ x. x.bytes) xs

-- how the exchanges ended the connection, if one did
abbrev pub end_of : List Exchange → Option Closed
end_of [] = None
end_of (x ∷ xs) = option_or x.ended (end_of xs)

-- an answer was written, whole or, where a write failed or memory ran out, a front of it
abbrev pub IsOutcome : {T : Type 0} → Result T Closed → Option Closed → List ℕ → List ℕ → ℕ → ℕ → Type 0
IsOutcome (Ok done) ended written bytes before now = (written ≡ bytes) × (ended ≡ None)
IsOutcome (Err End) ended written bytes before now = (written ≡ bytes) × (ended ≡ Some End)
IsOutcome (Err Early) ended written bytes before now = (written ≡ bytes) × (ended ≡ Some Early)
IsOutcome (Err ReadFault) ended written bytes before now = ⊥
IsOutcome (Err WriteFault) ended written bytes before now = Rose before now
IsOutcome (Err NoMemory) ended written bytes before now = Unit {0}

-- the writing of an answer broke off: a write failed, or memory ran out
abbrev pub breaks : {T : Type 0} → Result T Closed → Bool
breaks (Ok done) = false
breaks (Err End) = false
breaks (Err Early) = false
breaks (Err ReadFault) = false
breaks (Err WriteFault) = true
breaks (Err NoMemory) = true

-- no writing broke off
abbrev pub AreUnbroken : List Exchange → Type 0
AreUnbroken [] = Unit {0}
AreUnbroken (x ∷ xs) = (x.broken ≡ false) × AreUnbroken xs

-- One request was served.
pub record Answered {T S : Type 0} (turn : S → Event → Reply → S → Type 0) (given : FrontSettings) (more : ℕ) (outcome : Result T Closed) (request : Request) (last : Bool) (old new : Giving) (s t : S) : Type 0 where
  pub exchange : Exchange
  pub request_is : exchange.request ≡ request
  pub is : IsExchange given more last exchange
  pub broken_is : exchange.broken ≡ breaks outcome
  pub chain : Chain turn s exchange.turns t
  pub took : TurnsTook old new exchange.turns
  pub written : List ℕ
  pub front : IsPrefix written exchange.bytes
  pub heard : IsPrefix (heard_of exchange.turns) written
  pub to_sink : new.held ≡ and_held old.held written
  pub later : old.write_faults ≤ new.write_faults
  pub outcome_is : IsOutcome outcome exchange.ended written exchange.bytes old.write_faults new.write_faults
