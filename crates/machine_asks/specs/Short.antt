-- How long what a machine hands in may be.
use Rattle.std.specs.Prelude.{IfSome}
use Rattle.tailcfg.specs.Short.{IsShortForm, IsShortUpdate}
use Rattle.machine_asks.specs.declared.ask.MachineAsk.{MachineAsk}
use Rattle.machine_asks.specs.declared.ask.MachineAsk.TheVariants as ask

-- The lists and texts of the ask are within the limits of rows.
abbrev pub IsShortMachineAsk : MachineAsk → Type 0
IsShortMachineAsk (ask.Register machine form) = IsShortForm form
IsShortMachineAsk (ask.Update machine node update) = IsShortUpdate update
IsShortMachineAsk (ask.OneMap machine node update) = IfSome update IsShortUpdate
