-- One request as a connection of its own.
use Rattle.std.specs.Prelude.{◌≡◌, ℕ, ℤ, true, false, Option, Some, List}
use Rattle.desk_front.specs.declared.front_settings.FrontSettings.{FrontSettings}
use Rattle.tailnet_desk.specs.Chains.{Chain}
use Rattle.tailnet_desk.specs.declared.entry.Event.{Event}
use Rattle.tailnet_desk.specs.declared.reply.Reply.{Reply}
use Rattle.connections.specs.Exchanges.{Exchange, IsExchange}
use Rattle.connections.specs.Tellings.{MomentsTold, WordsTold, drawn, failed_draws, from_number}
use Rattle.load_run.specs.Outside as outside
use Rattle.load_run.specs.Steps.{Begins}

-- The request that a message begins with was served, at that moment and with the random words that were next, and this is
-- its answer, whole.
pub record IsServed {S : Type 0} (turn : S → Event → Reply → S → Type 0) (given : FrontSettings) (message : List ℕ) (moment : ℤ) (before now : ℕ) (answer : Option (List ℕ)) (p q : S) : Type 0 where
  pub exchange : Exchange
  pub request : Begins message exchange.request
  pub is : IsExchange given 0 true exchange
  pub unbroken : exchange.broken ≡ false
  pub answer_is : answer ≡ Some exchange.bytes
  pub moments : MomentsTold (outside.still moment) exchange.turns
  pub words : WordsTold (outside.counted before) exchange.turns
  pub all_drawn : failed_draws exchange.turns ≡ 0
  pub words_on : (k : ℕ) → outside.counted now k ≡ from_number (drawn exchange.turns) (outside.counted before) k
  pub chain : Chain turn p exchange.turns q
