-- What each machine of a load knows.
use Rattle.std.specs.Prelude.{ℕ, ◌-◌, List, [], None, slice_index_or, slice_set}
use Rattle.load_run.specs.declared.known.MachineMemory.{MachineMemory}

-- a machine that never polled and told of no route
abbrev pub nothing : MachineMemory
nothing = record { handle = []; seq = 0; route = None }

-- what this machine knows
abbrev pub known_of : List MachineMemory → ℕ → MachineMemory
known_of roll machine = slice_index_or roll (machine - 1) nothing

-- this machine knows that, and the others what they knew
abbrev pub with_known : List MachineMemory → ℕ → MachineMemory → List MachineMemory
with_known roll machine known = slice_set roll (machine - 1) known
