-- The row of a machine, made, renewed or changed.
use Rattle.std.specs.Prelude.{◌+◌, ℕ, ℤ, Bool, true, List, [], ◌∷◌, Option, Some, None, Result, Ok, length, replicate, nat_lt, ◌==◌, not, ◌&&◌, ◌||◌, if◌then◌else◌}
use Rattle.std.specs.List.{list_any}
use Rattle.std.specs.Str.{bytes_eq}
use Rattle.tail_base.specs.declared.key.MachineKey.{MachineKey}
use Rattle.tail_base.specs.declared.key.NodeKey.{NodeKey}
use Rattle.net_rows.specs.Room.{has_room}
use Rattle.net_rows.specs.declared.rows.Rows.{Rows}
use Rattle.net_rows.specs.declared.change.Change.{Change}
use Rattle.net_rows.specs.declared.change.Kind.TheVariants as kind
use Rattle.net_rows.specs.declared.change.Row.{Row}
use Rattle.net_rows.specs.declared.change.Row.TheVariants as row
use Rattle.net_rows.specs.declared.change.RowKey.{RowKey}
use Rattle.net_rows.specs.declared.change.RowKey.TheVariants as gone
use Rattle.net_rows.specs.declared.key.AuthKey.{AuthKey}
use Rattle.net_rows.specs.declared.machine.Machine.{Machine}
use Rattle.net_rows.specs.declared.pending.Pending.{Pending}
use Rattle.allot.specs.Addresses.{free_address}
use Rattle.allot.specs.Names.{free_name}
use Rattle.desk_state.specs.State.{State, later_by}
use Rattle.tail_base.specs.Steps.{◌>>=◌, or_fault, refuse_if}
use Rattle.desk_state.specs.declared.refusal.Refusal.{Refusal}
use Rattle.desk_state.specs.declared.refusal.Refusal.TheVariants.{Full, AddressesSpent}
use Rattle.desk_state.specs.declared.refusal.Scarce.TheVariants as scarce
use Rattle.desk_state.specs.declared.entrant.Entrant.{Entrant}
use Rattle.desk_state.specs.declared.place.Place.{Place}

-- another machine's row has this node key
abbrev pub is_taken : List Machine → MachineKey → NodeKey → Bool
is_taken machines mk node = list_any (λ m. bytes_eq m.node.0 node.0 && not (bytes_eq m.machine.0 mk.0)) machines

-- the expiry that was asked for; else none where the machine has tags or keys last for ever
abbrev pub expiry_of : State → Option ℤ → List (List ℕ) → Option ℤ
expiry_of s (Some end) tags = Some end
expiry_of s None tags = if nat_lt 0 (length tags) || s.settings.key_seconds == 0 then None else Some (later_by s.settings.key_seconds s.now)

-- what a machine with a row keeps
abbrev pub kept_place : State → Machine → Place
kept_place s m = record {
  id = m.id;
  name = m.name;
  v4 = m.v4;
  v6 = m.v6;
  approved = m.approved;
  created = m.created;
  next = s.rows.next.machine;
}

-- a machine without a row gets the next id, the least free addresses and the first free name for its host name
abbrev pub new_place : State → List ℕ → Result Place Refusal
new_place s host = do
  room ← refuse_if (not (has_room s.rows kind.Machine)) (Full scarce.Machine)
  v4 ← or_fault (AddressesSpent 4) (free_address s.settings.prefix_v4 s.rows.machines)
  v6 ← or_fault (AddressesSpent 6) (free_address s.settings.prefix_v6 s.rows.machines)
  Ok (record {
    id = s.rows.next.machine;
    name = free_name s.rows.machines host;
    v4 = v4;
    v6 = v6;
    approved = [];
    created = s.now;
    next = s.rows.next.machine + 1;
  })

abbrev pub place_for : State → List ℕ → Option Machine → Result Place Refusal
place_for s host None = new_place s host
place_for s host (Some m) = Ok (kept_place s m)

-- the machine's row, made or renewed
abbrev pub machine_row : MachineKey → Entrant → Place → Machine
machine_row mk e place = record {
  id = place.id;
  user = e.user;
  machine = mk;
  node = e.node;
  disco = record { 0 = replicate 32 0 };
  host = e.host;
  name = place.name;
  v4 = place.v4;
  v6 = place.v6;
  endpoints = [];
  derp = 0;
  routes = e.routes;
  approved = place.approved;
  tags = e.tags;
  ephemeral = e.ephemeral;
  expiry = e.expiry;
  created = place.created;
}

-- the machine's row, and the key that was used
abbrev pub puts_of : Machine → Option AuthKey → List Row
puts_of m None = row.Machine m ∷ []
puts_of m (Some key) = row.Machine m ∷ row.Key (record key { used = true }) ∷ []

-- the pending entry goes
abbrev pub pending_gone : Option Pending → List RowKey
pending_gone None = []
pending_gone (Some p) = gone.Pending p.id ∷ []

-- a machine's row is put, with the key that was used and without the pending entry, and this is the next id
abbrev pub row_change : Rows → Machine → ℕ → Option AuthKey → Option Pending → Change
row_change t m next key pending = record {
  puts = puts_of m key;
  gone = pending_gone pending;
  next = record t.next { machine = next };
}

-- a row that is there already is replaced
abbrev pub row_replaced : Rows → Machine → Change
row_replaced t m = row_change t m t.next.machine None None
