-- A connection: which requests its bytes are, which turns they were, and which bytes answered them.
use Rattle.std.specs.Prelude.{◌≡◌, ◌≤◌, ◌<◌, ◌⊎◌, ℕ, ℤ, Bool, true, false, Option, None, Some, List, [], ◌∷◌, ◌++◌, length}
use Rattle.io_edge.specs.Edge.{Rose, and_then_left, and_held, IsWhereTold}
use Rattle.http_front.specs.HeadFaults.{head_fault_answer}
use Rattle.http_front.specs.declared.head_fault.HeadFault.{HeadFault}
use Rattle.http_front.specs.Requests.{IsWhole, Leads, IsTail, IsUnfinished, cut, bad}
use Rattle.tailnet_desk.specs.Chains.{Chain}
use Rattle.tailnet_desk.specs.declared.entry.Event.{Event}
use Rattle.tailnet_desk.specs.declared.reply.Reply.{Reply}
use Rattle.desk_front.specs.declared.front_settings.FrontSettings.{FrontSettings}
use Rattle.connections.specs.Tellings.{Giving, TurnsTook, giving}
use Rattle.connections.specs.Polls.{heard_of}
use Rattle.exit_status.specs.Pieces.{IsPrefix}
use Rattle.connections.specs.Exchanges.{Exchange, IsExchange, AreExchanges, AreUnbroken, requests_of, turns_of, answers_of, end_of}
use Rattle.exit_status.specs.declared.closed.Closed.{Closed}
use Rattle.exit_status.specs.declared.closed.Closed.TheVariants.{End, Early, ReadFault, WriteFault, NoMemory}

-- what the source tells, and the rest
pub record Told : Type 0 where
  pub left : Option (List ℕ)
  pub read_faults : ℕ
  pub giving : Giving

abbrev pub told : {I O C N : Type 0} → (I → Option (List ℕ)) → (I → ℕ) → (O → Option (List ℕ)) → (O → ℕ) → (C → ℕ → Option ℤ) → (N → ℕ → Option (List ℕ)) → (N → ℕ) → I → O → C → N → Told
told left read_faults holds write_faults answer word word_faults i o c n = record {
  left = left i;
  read_faults = read_faults i;
  giving = giving holds write_faults answer word word_faults o c n;
}

-- bytes that are refused are answered
abbrev pub IsRefusal : List ℕ → List ℕ → Type 0
IsRefusal rest extra = (fault : HeadFault) × IsTail rest (bad fault) × (extra ≡ head_fault_answer fault)

-- what the bytes behind the served requests are answered: nothing, unless they are refused and no request ended the connection
abbrev pub IsExtra : Option Closed → List ℕ → List ℕ → Type 0
IsExtra ended rest extra = (extra ≡ []) ⊎ ((ended ≡ None) × IsRefusal rest extra)

-- of the last answer, whose writing broke off, there is a front, and all that comes before its last drain: where a write
-- failed a poll isn't drained again; or none broke off, and of the refusal behind them there is one
abbrev pub IsBrokenOff : List Exchange → List ℕ → List ℕ → Type 0
IsBrokenOff [] extra written = IsPrefix written extra
IsBrokenOff (x ∷ xs) extra written =
    ((x.broken ≡ true) × (xs ≡ []) × (extra ≡ []) × IsPrefix written x.bytes × IsPrefix (heard_of x.turns) written)
    ⊎ ((tail : List ℕ) × (x.broken ≡ false) × (written ≡ x.bytes ++ tail) × IsBrokenOff xs extra tail)

-- the input ended inside a request, or what is left of it is refused
abbrev pub IsEarly : List ℕ → List ℕ → Option (List ℕ) → Type 0
IsEarly rest extra left = (IsTail rest cut × IsWhereTold [] left × (extra ≡ [])) ⊎ IsRefusal rest extra

-- why a connection ended
abbrev pub Ends : Closed → List Exchange → List ℕ → List ℕ → List ℕ → Told → Told → Type 0
Ends End xs rest extra written old new =
    (written ≡ answers_of xs) × ((end_of xs ≡ Some End) ⊎ ((end_of xs ≡ None) × (rest ≡ []) × IsWhereTold [] new.left)) × AreUnbroken xs
Ends Early xs rest extra written old new =
    (written ≡ answers_of xs ++ extra) × ((end_of xs ≡ Some Early) ⊎ ((end_of xs ≡ None) × IsEarly rest extra new.left)) × AreUnbroken xs
Ends ReadFault xs rest extra written old new =
    (written ≡ answers_of xs) × (end_of xs ≡ None) × (0 < length rest → IsUnfinished rest) × Rose old.read_faults new.read_faults × AreUnbroken xs
Ends WriteFault xs rest extra written old new = IsBrokenOff xs extra written × Rose old.giving.write_faults new.giving.write_faults
Ends NoMemory xs rest extra written old new = IsBrokenOff xs extra written

-- A connection over turns, whose polls have so many further drains at most, with what was held back of the bytes before it.
pub record IsConnection {S : Type 0} (turn : S → Event → Reply → S → Type 0) (given : FrontSettings) (more : ℕ) (closed : Closed) (limit : ℕ) (held : List ℕ) (old new : Told) (s t : S) : Type 0 where
  pub exchanges : List Exchange
  pub read : List ℕ
  pub rest : List ℕ
  pub extra : List ℕ
  pub written : List ℕ
  pub from_source : old.left ≡ and_then_left read new.left
  pub bytes_read : Leads (held ++ read) (requests_of exchanges) rest
  pub each : AreExchanges given more limit exchanges
  pub chain : Chain turn s (turns_of exchanges) t
  pub took : TurnsTook old.giving new.giving (turns_of exchanges)
  pub extra_is : IsExtra (end_of exchanges) rest extra
  pub front : IsPrefix written (answers_of exchanges ++ extra)
  pub to_sink : new.giving.held ≡ and_held old.giving.held written
  pub reads_later : old.read_faults ≤ new.read_faults
  pub writes_later : old.giving.write_faults ≤ new.giving.write_faults
  pub ending : Ends closed exchanges rest extra written old new

-- One whole exchange, after which the connection goes on; it wasn't the last that may be served.
pub record Goes {S : Type 0} (turn : S → Event → Reply → S → Type 0) (given : FrontSettings) (more : ℕ) (last : Bool) (held new_held : List ℕ) (old new : Told) (s t : S) : Type 0 where
  pub unfinished : last ≡ false
  pub exchange : Exchange
  pub read : List ℕ
  pub from_source : old.left ≡ and_then_left read new.left
  pub bytes_read : IsWhole (held ++ read) exchange.request new_held
  pub is : IsExchange given more last exchange
  pub open_still : exchange.ended ≡ None
  pub unbroken : exchange.broken ≡ false
  pub chain : Chain turn s exchange.turns t
  pub took : TurnsTook old.giving new.giving exchange.turns
  pub to_sink : new.giving.held ≡ and_held old.giving.held exchange.bytes
  pub reads_later : old.read_faults ≤ new.read_faults
  pub writes_later : old.giving.write_faults ≤ new.giving.write_faults
