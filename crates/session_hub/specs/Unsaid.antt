-- A line that no seat makes.
use Rattle.std.specs.Prelude.{None, [], pos}
use Rattle.tailnet_desk.specs.declared.ask.Ask.TheVariants as ask
use Rattle.tailnet_desk.specs.declared.entry.Event.TheVariants as event
use Rattle.tailnet_desk.specs.declared.reply.Loss.TheVariants.{NoMemory}
use Rattle.tailnet_desk.specs.declared.reply.Reply.TheVariants.{Lost}
use Rattle.session_hub.specs.declared.known.Line.{Line}

abbrev pub unsaid : Line
unsaid = record { by = 0; entry = record { event = event.Ask (ask.Seed []) (pos 0) None; reply = Lost NoMemory; before = 0; after = 0 } }
