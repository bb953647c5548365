-- Sound tables stay sound when a row goes that no other row names.
use Rattle.std.proofs.Common.{◌≢◌, ℕ, List}
use Rattle.std.specs.Prelude.{Contains}
use Rattle.net_rows.specs.declared.limits.TheConstants.{USER_LIMIT, KEY_LIMIT, PENDING_LIMIT, MACHINE_LIMIT}
use Rattle.net_rows.specs.Shelf.{without}
use Rattle.net_rows.specs.Rows.{Rows}
use Rattle.net_rows.specs.Sound.{AreSound, KeyKeeps, MachineKeeps, PendingKeeps}
use Rattle.net_rows.specs.declared.user.User.{User}
use Rattle.net_rows.specs.declared.key.AuthKey.{AuthKey}
use Rattle.net_rows.specs.declared.pending.Pending.{Pending}
use Rattle.net_rows.specs.declared.machine.Machine.{Machine}
use Rattle.net_rows.proofs.RemoveLemmas.{Tells-without, AreBelow-without, keeps-without, IsAscending-without, count-without, HasRow-without}

key_keeps : (users : List User) (id : ℕ) (k : AuthKey) → k.user ≢ id → KeyKeeps users k → KeyKeeps (without (λ r. r.id) users id) k
key_keeps users id k other h = record {
  user = HasRow-without (λ (r : User). r.id) users id k.user h.user other;
  text = h.text;
  tags = h.tags;
}

machine_keeps : (users : List User) (id : ℕ) (m : Machine) → m.user ≢ id → MachineKeeps users m → MachineKeeps (without (λ r. r.id) users id) m
machine_keeps users id m other h = record {
  user = HasRow-without (λ (r : User). r.id) users id m.user h.user other;
  v4 = h.v4;
  v6 = h.v6;
  host = h.host;
  endpoints = h.endpoints;
  routes = h.routes;
  approved = h.approved;
  tags = h.tags;
}

-- a user goes whom no key and no machine names
pub sound_without_user : (t : Rows) (id : ℕ) → AreSound t → ((k : AuthKey) → Contains t.keys k → k.user ≢ id)
    → ((m : Machine) → Contains t.machines m → m.user ≢ id) → AreSound (record t { users = without (λ r. r.id) t.users id })
sound_without_user t id s keys machines = record {
  counters = s.counters;
  users = record {
    ascend = IsAscending-without (λ (r : User). r.id) t.users id s.users.ascend;
    ids = AreBelow-without (λ (r : User). r.id) t.next.user t.users id s.users.ids;
    count = count-without (λ (r : User). r.id) USER_LIMIT t.users id s.users.count;
    logins = Tells-without (λ (r : User). r.id) (λ (r : User). r.login) t.users id s.users.logins;
  };
  keys = record {
    ascend = s.keys.ascend;
    ids = s.keys.ids;
    count = s.keys.count;
    texts = s.keys.texts;
    keeps = λ k m. key_keeps t.users id k (keys k m) (s.keys.keeps k m);
  };
  pending = s.pending;
  machines = record {
    ascend = s.machines.ascend;
    ids = s.machines.ids;
    count = s.machines.count;
    machine_keys = s.machines.machine_keys;
    node_keys = s.machines.node_keys;
    names = s.machines.names;
    v4 = s.machines.v4;
    v6 = s.machines.v6;
    keeps = λ r m. machine_keeps t.users id r (machines r m) (s.machines.keeps r m);
  };
  extras = s.extras;
  policy = s.policy;
}

pub sound_without_key : (t : Rows) (id : ℕ) → AreSound t → AreSound (record t { keys = without (λ r. r.id) t.keys id })
sound_without_key t id s = record {
  counters = s.counters;
  users = s.users;
  keys = record {
    ascend = IsAscending-without (λ (r : AuthKey). r.id) t.keys id s.keys.ascend;
    ids = AreBelow-without (λ (r : AuthKey). r.id) t.next.key t.keys id s.keys.ids;
    count = count-without (λ (r : AuthKey). r.id) KEY_LIMIT t.keys id s.keys.count;
    texts = Tells-without (λ (r : AuthKey). r.id) (λ (r : AuthKey). r.text) t.keys id s.keys.texts;
    keeps = keeps-without (λ (r : AuthKey). r.id) (λ (r : AuthKey). KeyKeeps t.users r) t.keys id s.keys.keeps;
  };
  pending = s.pending;
  machines = s.machines;
  extras = s.extras;
  policy = s.policy;
}

pub sound_without_pending : (t : Rows) (id : ℕ) → AreSound t → AreSound (record t { pending = without (λ r. r.id) t.pending id })
sound_without_pending t id s = record {
  counters = s.counters;
  users = s.users;
  keys = s.keys;
  pending = record {
    ascend = IsAscending-without (λ (r : Pending). r.id) t.pending id s.pending.ascend;
    ids = AreBelow-without (λ (r : Pending). r.id) t.next.pending t.pending id s.pending.ids;
    count = count-without (λ (r : Pending). r.id) PENDING_LIMIT t.pending id s.pending.count;
    texts = Tells-without (λ (r : Pending). r.id) (λ (r : Pending). r.text) t.pending id s.pending.texts;
    machine_keys = Tells-without (λ (r : Pending). r.id) (λ (r : Pending). r.machine.0) t.pending id s.pending.machine_keys;
    keeps = keeps-without (λ (r : Pending). r.id) PendingKeeps t.pending id s.pending.keeps;
  };
  machines = s.machines;
  extras = s.extras;
  policy = s.policy;
}

pub sound_without_machine : (t : Rows) (id : ℕ) → AreSound t → AreSound (record t { machines = without (λ r. r.id) t.machines id })
sound_without_machine t id s = record {
  counters = s.counters;
  users = s.users;
  keys = s.keys;
  pending = s.pending;
  machines = record {
    ascend = IsAscending-without (λ (r : Machine). r.id) t.machines id s.machines.ascend;
    ids = AreBelow-without (λ (r : Machine). r.id) t.next.machine t.machines id s.machines.ids;
    count = count-without (λ (r : Machine). r.id) MACHINE_LIMIT t.machines id s.machines.count;
    machine_keys = Tells-without (λ (r : Machine). r.id) (λ (r : Machine). r.machine.0) t.machines id s.machines.machine_keys;
    node_keys = Tells-without (λ (r : Machine). r.id) (λ (r : Machine). r.node.0) t.machines id s.machines.node_keys;
    names = Tells-without (λ (r : Machine). r.id) (λ (r : Machine). r.name) t.machines id s.machines.names;
    v4 = Tells-without (λ (r : Machine). r.id) (λ (r : Machine). r.v4) t.machines id s.machines.v4;
    v6 = Tells-without (λ (r : Machine). r.id) (λ (r : Machine). r.v6) t.machines id s.machines.v6;
    keeps = keeps-without (λ (r : Machine). r.id) (λ (r : Machine). MachineKeeps t.users r) t.machines id s.machines.keeps;
  };
  extras = s.extras;
  policy = s.policy;
}
