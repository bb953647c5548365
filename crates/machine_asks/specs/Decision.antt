-- The outcome of a machine's ask.
use Rattle.std.specs.Prelude.{ℕ, Bool, false, List, Option, Result, length, ◌==◌}
use Rattle.desk_state.specs.State.{State}
use Rattle.desk_state.specs.declared.decision.Decision.{Decision}
use Rattle.desk_state.specs.declared.refusal.Refusal.{Refusal}
use Rattle.machine_asks.specs.OneMap.{one_map}
use Rattle.machine_asks.specs.Register.{register}
use Rattle.machine_asks.specs.Update.{update}
use Rattle.machine_asks.specs.declared.answer.MachineAnswer.{MachineAnswer}
use Rattle.machine_asks.specs.declared.ask.MachineAsk.{MachineAsk}
use Rattle.machine_asks.specs.declared.ask.MachineAsk.TheVariants as ask

-- Fresh random words are drawn for a registration without a key, whose pending entry has a text of its own.
abbrev pub draws : MachineAsk → Bool
draws (ask.Register machine form) = length form.auth == 0
draws (ask.Update machine node told) = false
draws (ask.OneMap machine node told) = false

-- the outcome of the ask, in a state that is at its moment, with the random words that were drawn
abbrev pub decision : State → MachineAsk → Option (List ℕ) → Result (Decision MachineAnswer) Refusal
decision s (ask.Register machine form) words = register s machine form words
decision s (ask.Update machine node told) words = update s machine node told
decision s (ask.OneMap machine node told) words = one_map s machine node told
