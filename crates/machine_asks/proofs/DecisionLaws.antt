-- What is decided of machines' asks, and of a seed, is sound.
use Rattle.std.proofs.Common.{◌≡◌, ℕ, List, Option, None}
use Rattle.settings.specs.Settings.{AreSettings}
use Rattle.net_rows.specs.Damage.{damage}
use Rattle.net_rows.proofs.Sounds.{sound_of}
use Rattle.desk_state.specs.Decisions.{IsPlain}
use Rattle.desk_state.specs.State.{State}
use Rattle.machine_asks.specs.Decision.{decision}
use Rattle.machine_asks.specs.Seed.{seed}
use Rattle.machine_asks.specs.Short.{IsShortMachineAsk}
use Rattle.machine_asks.specs.declared.ask.MachineAsk.{MachineAsk}
use Rattle.machine_asks.specs.declared.ask.MachineAsk.TheVariants as ask
use Rattle.machine_asks.proofs.Registrations.{register_proper}
use Rattle.machine_asks.proofs.Seeds.{seed_proper}
use Rattle.machine_asks.proofs.Updates.{one_map_proper, update_proper}

pub machine_decision_sound : (s : State) (x : MachineAsk) (words : Option (List ℕ)) → AreSettings s.settings → damage s.rows ≡ None → IsShortMachineAsk x → IsPlain s.rows (decision s x words)
machine_decision_sound s (ask.Register mk form) words hold fit short = register_proper s mk form words hold (sound_of s.rows fit) short
machine_decision_sound s (ask.Update mk node told) words hold fit short = update_proper s mk node told (sound_of s.rows fit) short
machine_decision_sound s (ask.OneMap mk node told) words hold fit short = one_map_proper s mk node told (sound_of s.rows fit) short

pub seed_sound : (s : State) (text : List ℕ) → damage s.rows ≡ None → IsPlain s.rows (seed s text)
seed_sound s text fit = seed_proper s text (sound_of s.rows fit)
