-- What may be asked, and what is drawn for it.
use Rattle.std.specs.Prelude.{ℕ, Bool, true, false, List, Option, None}
use Rattle.admin_asks.specs.Draws as operator
use Rattle.admin_asks.specs.Short.{IsShortOperatorAsk}
use Rattle.machine_asks.specs.Decision as machine
use Rattle.machine_asks.specs.Short.{IsShortMachineAsk}
use Rattle.tailnet_desk.specs.declared.ask.Ask.{Ask}
use Rattle.tailnet_desk.specs.declared.ask.Ask.TheVariants as ask
use Rattle.tailnet_desk.specs.declared.entry.Event.{Event}
use Rattle.tailnet_desk.specs.declared.entry.Event.TheVariants as event

-- its lists and texts are within the limits of rows; the text of a policy may be of any length
abbrev pub IsShort : Ask → Type 0
IsShort (ask.Seed text) = Unit {0}
IsShort (ask.Machine x) = IsShortMachineAsk x
IsShort (ask.Operator x) = IsShortOperatorAsk x
IsShort (ask.Policy x) = Unit {0}

-- fresh random words are drawn for an ask
abbrev pub ask_draws : Ask → Bool
ask_draws (ask.Seed text) = false
ask_draws (ask.Machine x) = machine.draws x
ask_draws (ask.Operator x) = operator.draws x
ask_draws (ask.Policy x) = false

-- fresh random words are drawn for an event: for each attach, also where the session goes on
abbrev pub draws : Event → Bool
draws (event.Ask x moment words) = ask_draws x
draws (event.Attach mk node handle seq moment words) = true
draws (event.Drain mk handle moment) = false
draws (event.Detach mk handle moment) = false

-- the words of an event
abbrev pub event_words : Event → Option (List ℕ)
event_words (event.Ask x moment words) = words
event_words (event.Attach mk node handle seq moment words) = words
event_words (event.Drain mk handle moment) = None
event_words (event.Detach mk handle moment) = None

-- the event may happen: what it asks is short
abbrev pub IsShortEvent : Event → Type 0
IsShortEvent (event.Ask x moment words) = IsShort x
IsShortEvent (event.Attach mk node handle seq moment words) = Unit {0}
IsShortEvent (event.Drain mk handle moment) = Unit {0}
IsShortEvent (event.Detach mk handle moment) = Unit {0}

-- the event is one of a poll
abbrev pub IsPollEvent : Event → Type 0
IsPollEvent (event.Ask x moment words) = ⊥
IsPollEvent (event.Attach mk node handle seq moment words) = Unit {0}
IsPollEvent (event.Drain mk handle moment) = Unit {0}
IsPollEvent (event.Detach mk handle moment) = Unit {0}
