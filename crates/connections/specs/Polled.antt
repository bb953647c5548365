-- What was done for a poll, turn by turn and byte by byte.
use Rattle.std.specs.Prelude.{◌≡◌, ℕ, Bool, true, false, Option, List, [], ◌∷◌, Result, Ok, Err, OnOk}
use Rattle.tail_base.specs.declared.key.MachineKey.{MachineKey}
use Rattle.tailnet_desk.specs.Chains.{Chain, Turned}
use Rattle.tailnet_desk.specs.declared.entry.Event.{Event}
use Rattle.tailnet_desk.specs.declared.reply.Reply.{Reply}
use Rattle.tailnet_desk.specs.declared.reply.Reply.TheVariants.{Attached, Detached, Done, Ended, Frames, Lost, Refused}
use Rattle.desk_front.specs.declared.front_settings.FrontSettings.{FrontSettings}
use Rattle.desk_front.specs.declared.poll.Poll.{Poll}
use Rattle.connections.specs.Carried.{AreAllMade, AreFurtherMade, AreSized}
use Rattle.connections.specs.Exchanges.{breaks}
use Rattle.connections.specs.Polls.{AreBehind, AreFurther, IsDrainOf, IsPoll, IsPollOf, IsStream, before_last, drained_bytes, further_bytes, heard_behind, heard_drains, heard_of, stream_front, without_last}
use Rattle.connections.specs.Tellings.{Giving, TurnsTook}
use Rattle.exit_status.specs.Pieces.{IsPrefix, Sent}
use Rattle.exit_status.specs.declared.closed.Closed.{Closed}
use Rattle.tailnet_laws.specs.Followed.{frames_in}

-- one turn, of which the test holds, was replied so
pub record TurnedOnce {S : Type 0} (turn : S → Event → Reply → S → Type 0) (is : Turned → Type 0) (reply : Reply) (old new : Giving) (s t : S) : Type 0 where
  pub turned : Turned
  pub fits : is turned
  pub reply_is : turned.reply ≡ reply
  pub leads : turn s turned.event turned.reply t
  pub took : TurnsTook old new (turned ∷ [])

-- whether another drain may follow
abbrev pub GoesOn : Result Bool Closed → Reply → Type 0
GoesOn (Ok on) (Done answer) = ⊥
GoesOn (Ok on) (Attached handle seq resumed may_wait) = ⊥
GoesOn (Ok on) (Frames responses) = on ≡ true
GoesOn (Ok on) Ended = on ≡ false
GoesOn (Ok on) Detached = ⊥
GoesOn (Ok on) (Refused refusal) = ⊥
GoesOn (Ok on) (Lost loss) = ⊥
GoesOn (Err e) (Done answer) = ⊥
GoesOn (Err e) (Attached handle seq resumed may_wait) = ⊥
GoesOn (Err e) (Frames responses) = Unit {0}
GoesOn (Err e) Ended = ⊥
GoesOn (Err e) Detached = ⊥
GoesOn (Err e) (Refused refusal) = ⊥
GoesOn (Err e) (Lost loss) = Unit {0}

-- one further drain, and its chunks
pub record NextSent {S : Type 0} (turn : S → Event → Reply → S → Type 0) (outcome : Result Bool Closed) (machine : MachineKey) (handle : List ℕ) (old new : Giving) (s t : S) : Type 0 where
  pub drain : Turned
  pub drain_is : IsDrainOf machine handle drain
  pub goes_on : GoesOn outcome drain.reply
  pub leads : turn s drain.event drain.reply t
  pub took : TurnsTook old new (drain ∷ [])
  pub sent : Sent outcome old.held new.held old.write_faults new.write_faults (drained_bytes drain.reply)
  pub made : OnOk outcome (AreSized (frames_in drain.reply))

-- further drains, and their chunks
pub record FurtherSent {T S : Type 0} (turn : S → Event → Reply → S → Type 0) (outcome : Result T Closed) (machine : MachineKey) (handle : List ℕ) (more : ℕ) (old new : Giving) (s t : S) : Type 0 where
  pub further : List Turned
  pub are : AreFurther machine handle more (breaks outcome) further
  pub chain : Chain turn s further t
  pub took : TurnsTook old new further
  pub sent : Sent outcome old.held new.held old.write_faults new.write_faults (further_bytes further)
  pub heard : IsPrefix (further_bytes (without_last further)) sent.written
  pub made : AreFurtherMade (breaks outcome) further

-- what follows a drain that was replied so, but for what ends the answer
pub record DrainedSent {T S : Type 0} (turn : S → Event → Reply → S → Type 0) (given : FrontSettings) (more : ℕ) (outcome : Result T Closed) (close : Bool) (p : Poll) (handle : List ℕ) (resumed : Bool) (reply : Reply) (old new : Giving) (s t : S) : Type 0 where
  pub further : List Turned
  pub are : AreBehind p.machine handle more (breaks outcome) reply further
  pub chain : Chain turn s further t
  pub took : TurnsTook old new further
  pub sent : Sent outcome old.held new.held old.write_faults new.write_faults (stream_front given close p handle resumed reply further)
  pub heard : IsPrefix (before_last handle resumed reply further) sent.written
  pub made : AreAllMade (breaks outcome) handle resumed reply further

-- what was sent is ended so; if its writing broke off, nothing more is written
abbrev pub Completed : {T : Type 0} → Result T Closed → Result T Closed → Option (List ℕ) → Option (List ℕ) → ℕ → ℕ → List ℕ → Type 0
Completed (Ok done) outcome old new before now ending = Sent outcome old new before now ending
Completed (Err e) outcome old new before now ending = (outcome ≡ Err e) × (new ≡ old) × (now ≡ before)

-- what follows an attach
pub record Followed {T S : Type 0} (turn : S → Event → Reply → S → Type 0) (given : FrontSettings) (more : ℕ) (outcome : Result T Closed) (close : Bool) (p : Poll) (handle : List ℕ) (resumed : Bool) (old new : Giving) (s t : S) : Type 0 where
  pub later : List Turned
  pub bytes : List ℕ
  pub stream : IsStream given more close p handle resumed later bytes (breaks outcome)
  pub chain : Chain turn s later t
  pub took : TurnsTook old new later
  pub sent : Sent outcome old.held new.held old.write_faults new.write_faults bytes
  pub heard : IsPrefix (heard_drains handle resumed later) sent.written

-- an attach that was replied so was answered
pub record AttachAnswered {T S : Type 0} (turn : S → Event → Reply → S → Type 0) (given : FrontSettings) (more : ℕ) (outcome : Result T Closed) (close : Bool) (p : Poll) (reply : Reply) (old new : Giving) (s t : S) : Type 0 where
  pub later : List Turned
  pub bytes : List ℕ
  pub follows : IsPollOf given more close p reply later bytes (breaks outcome)
  pub chain : Chain turn s later t
  pub took : TurnsTook old new later
  pub sent : Sent outcome old.held new.held old.write_faults new.write_faults bytes
  pub heard : IsPrefix (heard_behind reply later) sent.written

-- a poll was answered
pub record IsPollAnswered {T S : Type 0} (turn : S → Event → Reply → S → Type 0) (given : FrontSettings) (more : ℕ) (outcome : Result T Closed) (p : Poll) (close : Bool) (old new : Giving) (s t : S) : Type 0 where
  pub turns : List Turned
  pub bytes : List ℕ
  pub poll : IsPoll given more close p turns bytes (breaks outcome)
  pub chain : Chain turn s turns t
  pub took : TurnsTook old new turns
  pub sent : Sent outcome old.held new.held old.write_faults new.write_faults bytes
  pub heard : IsPrefix (heard_of turns) sent.written
