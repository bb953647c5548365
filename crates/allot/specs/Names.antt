-- Which name a new machine gets.
use Rattle.std.specs.Prelude.{◌+◌, ℕ, Bool, List, length, if◌then◌else◌, not, unwrap_or}
use Rattle.std.specs.List.{list_any}
use Rattle.std.specs.Str.{bytes_eq}
use Rattle.tail_base.specs.Labels.{label_of_host, numbered_label}
use Rattle.net_rows.specs.declared.machine.Machine.{Machine}
use Rattle.allot.specs.Addresses.{least_from}

-- the machine has the name
abbrev pub holds_name : List ℕ → Machine → Bool
holds_name name m = bytes_eq m.name name

-- a machine has the name
abbrev pub has_name : List Machine → List ℕ → Bool
has_name machines name = list_any (holds_name name) machines

-- The least number from 1 on with which no machine has the label. It is one of the first, of which there is
-- one more than machines, since labels of different numbers differ.
abbrev pub free_number : List Machine → List ℕ → ℕ
free_number machines base = unwrap_or (least_from (λ n. not (has_name machines (numbered_label base n))) (length machines + 1) 1) 0

-- the label, or where a machine has it, the label with its least free number
abbrev pub free_label : List Machine → List ℕ → List ℕ
free_label machines base = if has_name machines base then numbered_label base (free_number machines base) else base

-- the name for a machine of this host name
abbrev pub free_name : List Machine → List ℕ → List ℕ
free_name machines host = free_label machines (label_of_host host)
