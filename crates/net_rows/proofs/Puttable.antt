-- What it takes to put a row.
use Rattle.std.specs.Prelude.{◌≡◌, ◌≤◌, ◌<◌, ◌⊎◌, ℕ, List, length, Contains}
use Rattle.net_rows.specs.declared.limits.TheConstants.{USER_LIMIT, KEY_LIMIT, PENDING_LIMIT, MACHINE_LIMIT}
use Rattle.net_rows.specs.Rows.{Rows}
use Rattle.net_rows.specs.Shelf.{HasRow}
use Rattle.net_rows.specs.Sound.{KeyKeeps, MachineKeeps, PendingKeeps}
use Rattle.net_rows.specs.declared.user.User.{User}
use Rattle.net_rows.specs.declared.key.AuthKey.{AuthKey}
use Rattle.net_rows.specs.declared.pending.Pending.{Pending}
use Rattle.net_rows.specs.declared.machine.Machine.{Machine}

-- No row of another id has it.
abbrev pub IsOwn : {T K : Type 0} → (T → ℕ) → (T → K) → List T → T → Type 0
IsOwn {T} id f xs x = (a : T) → Contains xs a → f a ≡ f x → id a ≡ id x

-- The row may be put: it breaks no rule beside the rows of other ids, and either there is room or it
-- replaces the row of its id.
pub record FitsUser (t : Rows) (u : User) : Type 0 where
  pub id : 1 ≤ u.id
  pub room : (length t.users < USER_LIMIT) ⊎ HasRow (λ r. r.id) t.users u.id
  pub login : IsOwn (λ r. r.id) (λ r. r.login) t.users u

pub record FitsKey (t : Rows) (k : AuthKey) : Type 0 where
  pub id : 1 ≤ k.id
  pub room : (length t.keys < KEY_LIMIT) ⊎ HasRow (λ r. r.id) t.keys k.id
  pub text : IsOwn (λ r. r.id) (λ r. r.text) t.keys k
  pub keeps : KeyKeeps t.users k

pub record FitsPending (t : Rows) (p : Pending) : Type 0 where
  pub id : 1 ≤ p.id
  pub room : (length t.pending < PENDING_LIMIT) ⊎ HasRow (λ r. r.id) t.pending p.id
  pub text : IsOwn (λ r. r.id) (λ r. r.text) t.pending p
  pub machine_key : IsOwn (λ r. r.id) (λ r. r.machine.0) t.pending p
  pub keeps : PendingKeeps p

pub record FitsMachine (t : Rows) (m : Machine) : Type 0 where
  pub id : 1 ≤ m.id
  pub room : (length t.machines < MACHINE_LIMIT) ⊎ HasRow (λ r. r.id) t.machines m.id
  pub machine_key : IsOwn (λ r. r.id) (λ r. r.machine.0) t.machines m
  pub node_key : IsOwn (λ r. r.id) (λ r. r.node.0) t.machines m
  pub name : IsOwn (λ r. r.id) (λ r. r.name) t.machines m
  pub v4 : IsOwn (λ r. r.id) (λ r. r.v4) t.machines m
  pub v6 : IsOwn (λ r. r.id) (λ r. r.v6) t.machines m
  pub keeps : MachineKeeps t.users m
