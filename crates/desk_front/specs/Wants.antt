-- What is owed of what a request wants, beside which it is.
use Rattle.tailnet_desk.specs.Asks.{IsShort}
use Rattle.desk_front.specs.declared.want.Wanted.{Wanted}
use Rattle.desk_front.specs.declared.want.Wanted.TheVariants as wants

-- an ask is within the limits of rows, of which a poll has nothing
abbrev pub IsSound : Wanted → Type 0
IsSound (wants.Ask ask) = IsShort ask
IsSound (wants.Poll poll) = Unit {0}
IsSound (wants.Fault body) = Unit {0}
IsSound (wants.Answer status body) = Unit {0}
