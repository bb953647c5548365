-- One event, and the answer to its reply.
use Rattle.std.specs.Prelude.{◌≡◌, ◌≤◌, ℕ, Bool, true, false, Option, List, ◌∷◌, [], Result, Ok, Err}
use Rattle.io_edge.specs.Edge.{Rose, and_held}
use Rattle.tailnet_desk.specs.Chains.{Turned}
use Rattle.tailnet_desk.specs.declared.ask.Ask.{Ask}
use Rattle.tailnet_desk.specs.declared.entry.Event.{Event}
use Rattle.tailnet_desk.specs.declared.reply.Reply.{Reply}
use Rattle.desk_front.specs.Replies.{reply_bytes}
use Rattle.desk_front.specs.declared.front_settings.FrontSettings.{FrontSettings}
use Rattle.connections.specs.Exchanges.{IsOutcome, breaks}
use Rattle.connections.specs.Tellings.{Giving, IsTurnOf, TurnsTook}
use Rattle.exit_status.specs.Pieces.{IsPrefix, Sent, IsSent}
use Rattle.exit_status.specs.declared.closed.Closed.{Closed}
use Rattle.exit_status.specs.declared.closed.Closed.TheVariants.{End, Early, ReadFault, WriteFault, NoMemory}

-- the ask was one turn, and the answer to its reply was written
pub record IsAskAnswered {T S : Type 0} (turn : S → Event → Reply → S → Type 0) (given : FrontSettings) (outcome : Result T Closed) (ask : Ask) (close : Bool) (old new : Giving) (s t : S) : Type 0 where
  pub turned : Turned
  pub asks : IsTurnOf ask turned
  pub leads : turn s turned.event turned.reply t
  pub took : TurnsTook old new (turned ∷ [])
  pub sent : Sent outcome old.held new.held old.write_faults new.write_faults (reply_bytes given ask turned.reply close)

-- What follows an answer that was written or not: how the connection goes on, and how it was ended, if it was.
pub record Follows {T : Type 0} (sent outcome : Result T Closed) (ended : Option Closed) : Type 0 where
  pub is : (written bytes : List ℕ) (before now : ℕ) → IsSent sent written bytes before now → IsOutcome outcome ended written bytes before now
  pub breaks_so : breaks outcome ≡ breaks sent

-- how a connection ends after a refused head: its answer was written, or a write failed, or memory ran out
abbrev pub IsRefusedBy : List ℕ → List ℕ → ℕ → ℕ → Closed → Type 0
IsRefusedBy written bytes before now Early = written ≡ bytes
IsRefusedBy written bytes before now WriteFault = Rose before now
IsRefusedBy written bytes before now NoMemory = Unit {0}
IsRefusedBy written bytes before now End = ⊥
IsRefusedBy written bytes before now ReadFault = ⊥

pub record IsRefusalSent (old new : Option (List ℕ)) (before now : ℕ) (bytes : List ℕ) (closed : Closed) : Type 0 where
  pub written : List ℕ
  pub front : IsPrefix written bytes
  pub to_sink : new ≡ and_held old written
  pub later : before ≤ now
  pub is : IsRefusedBy written bytes before now closed
