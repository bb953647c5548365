-- The rules of the tables, one by one: what holds wherever there is no damage.
use Rattle.std.specs.Prelude.{◌≡◌, ◌≤◌, ℕ, true, List, length, codes, Contains, IfSome}
use Rattle.tailcfg.specs.declared.limits.TheConstants.{ENDPOINT_LIMIT, ROUTE_LIMIT, ASKED_TAG_LIMIT, HOST_LIMIT}
use Rattle.net_rows.specs.declared.limits.TheConstants.{COUNTER_LIMIT, USER_LIMIT, KEY_LIMIT, PENDING_LIMIT, MACHINE_LIMIT, EXTRA_LIMIT, TAG_LIMIT}
use Rattle.tail_base.specs.declared.limits.TheConstants.{POLICY_LIMIT}
use Rattle.net_addr.specs.Tailnet.{tailnet_v4, tailnet_v6}
use Rattle.net_addr.specs.Blocks.{holds}
use Rattle.net_rows.specs.Shelf.{IsAscending, AreBelow, Tells, HasRow}
use Rattle.net_rows.specs.Damage.{names_id, names_key}
use Rattle.net_rows.specs.Rows.{Rows}
use Rattle.net_rows.specs.declared.user.User.{User}
use Rattle.net_rows.specs.declared.key.AuthKey.{AuthKey}
use Rattle.net_rows.specs.declared.pending.Pending.{Pending}
use Rattle.net_rows.specs.declared.machine.Machine.{Machine}
use Rattle.net_rows.specs.declared.change.Counters.{Counters}

-- A counter is from 1 to its limit.
abbrev pub IsCounter : ℕ → Type 0
IsCounter n = (1 ≤ n) × (n ≤ COUNTER_LIMIT)

pub record AreCounters (next : Counters) : Type 0 where
  pub user : IsCounter next.user
  pub key : IsCounter next.key
  pub pending : IsCounter next.pending
  pub machine : IsCounter next.machine

-- What a key's row keeps, whatever other keys there are.
pub record KeyKeeps (users : List User) (k : AuthKey) : Type 0 where
  pub user : HasRow (λ r. r.id) users k.user
  pub text : names_key k.id k.text ≡ true
  pub tags : length k.tags ≤ ASKED_TAG_LIMIT

-- What a pending entry keeps, whatever other entries there are.
pub record PendingKeeps (p : Pending) : Type 0 where
  pub text : names_id (codes "reg-") p.id p.text ≡ true
  pub host : length p.host ≤ HOST_LIMIT
  pub routes : length p.routes ≤ ROUTE_LIMIT
  pub tags : length p.tags ≤ ASKED_TAG_LIMIT

-- What a machine's row keeps, whatever other machines there are.
pub record MachineKeeps (users : List User) (m : Machine) : Type 0 where
  pub user : HasRow (λ r. r.id) users m.user
  pub v4 : holds tailnet_v4 m.v4 ≡ true
  pub v6 : holds tailnet_v6 m.v6 ≡ true
  pub host : length m.host ≤ HOST_LIMIT
  pub endpoints : length m.endpoints ≤ ENDPOINT_LIMIT
  pub routes : length m.routes ≤ ROUTE_LIMIT
  pub approved : length m.approved ≤ ROUTE_LIMIT
  pub tags : length m.tags ≤ TAG_LIMIT

-- Users stand by id below the next one, are within the limit, and have logins of their own.
pub record AreUsers (users : List User) (next : ℕ) : Type 0 where
  pub ascend : IsAscending (λ r. r.id) users
  pub ids : AreBelow (λ r. r.id) next users
  pub count : length users ≤ USER_LIMIT
  pub logins : Tells (λ r. r.id) (λ r. r.login) users

-- The same of keys and their texts, which belong to these users.
pub record AreKeys (users : List User) (keys : List AuthKey) (next : ℕ) : Type 0 where
  pub ascend : IsAscending (λ r. r.id) keys
  pub ids : AreBelow (λ r. r.id) next keys
  pub count : length keys ≤ KEY_LIMIT
  pub texts : Tells (λ r. r.id) (λ r. r.text) keys
  pub keeps : (k : AuthKey) → Contains keys k → KeyKeeps users k

-- The same of pending entries, their texts and machine keys.
pub record ArePending (pending : List Pending) (next : ℕ) : Type 0 where
  pub ascend : IsAscending (λ r. r.id) pending
  pub ids : AreBelow (λ r. r.id) next pending
  pub count : length pending ≤ PENDING_LIMIT
  pub texts : Tells (λ r. r.id) (λ r. r.text) pending
  pub machine_keys : Tells (λ r. r.id) (λ r. r.machine.0) pending
  pub keeps : (p : Pending) → Contains pending p → PendingKeeps p

-- The same of machines, their keys, names and addresses.
pub record AreMachines (users : List User) (machines : List Machine) (next : ℕ) : Type 0 where
  pub ascend : IsAscending (λ r. r.id) machines
  pub ids : AreBelow (λ r. r.id) next machines
  pub count : length machines ≤ MACHINE_LIMIT
  pub machine_keys : Tells (λ r. r.id) (λ r. r.machine.0) machines
  pub node_keys : Tells (λ r. r.id) (λ r. r.node.0) machines
  pub names : Tells (λ r. r.id) (λ r. r.name) machines
  pub v4 : Tells (λ r. r.id) (λ r. r.v4) machines
  pub v6 : Tells (λ r. r.id) (λ r. r.v6) machines
  pub keeps : (m : Machine) → Contains machines m → MachineKeeps users m

-- All rules of the tables.
pub record AreSound (t : Rows) : Type 0 where
  pub counters : AreCounters t.next
  pub users : AreUsers t.users t.next.user
  pub keys : AreKeys t.users t.keys t.next.key
  pub pending : ArePending t.pending t.next.pending
  pub machines : AreMachines t.users t.machines t.next.machine
  pub extras : length t.extras ≤ EXTRA_LIMIT
  pub policy : IfSome t.policy (λ text. length text ≤ POLICY_LIMIT)
