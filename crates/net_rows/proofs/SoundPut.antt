-- Sound tables stay sound when a row that fits is put, and its counter raised.
use Rattle.std.proofs.Common.{◌<◌, ◌≤◌, ℕ, arith, List}
use Rattle.std.specs.Prelude.{Some, length}
use Rattle.net_rows.specs.declared.limits.TheConstants.{COUNTER_LIMIT, USER_LIMIT, KEY_LIMIT, PENDING_LIMIT, MACHINE_LIMIT, EXTRA_LIMIT}
use Rattle.tail_base.specs.declared.limits.TheConstants.{POLICY_LIMIT}
use Rattle.net_rows.specs.Shelf.{put_row}
use Rattle.net_rows.specs.Rows.{Rows}
use Rattle.net_rows.specs.Sound.{AreSound, KeyKeeps, MachineKeeps, PendingKeeps}
use Rattle.net_rows.specs.declared.user.User.{User}
use Rattle.net_rows.specs.declared.key.AuthKey.{AuthKey}
use Rattle.net_rows.specs.declared.pending.Pending.{Pending}
use Rattle.net_rows.specs.declared.machine.Machine.{Machine}
use Rattle.tailcfg.specs.declared.dns.DnsExtra.{DnsExtra}
use Rattle.net_rows.proofs.PutLemmas.{Tells-put, IsAscending-put, AreBelow-put, HasRow-put, count-put, keeps-put}
use Rattle.net_rows.proofs.Puttable.{FitsUser, FitsKey, FitsPending, FitsMachine}

-- a key that keeps its rules keeps them where a user is put
key_keeps : (users : List User) (u : User) (k : AuthKey) → KeyKeeps users k → KeyKeeps (put_row (λ r. r.id) users u) k
key_keeps users u k h = record {
  user = HasRow-put (λ (r : User). r.id) users u k.user h.user;
  text = h.text;
  tags = h.tags;
}

machine_keeps : (users : List User) (u : User) (m : Machine) → MachineKeeps users m → MachineKeeps (put_row (λ r. r.id) users u) m
machine_keeps users u m h = record {
  user = HasRow-put (λ (r : User). r.id) users u m.user h.user;
  v4 = h.v4;
  v6 = h.v6;
  host = h.host;
  endpoints = h.endpoints;
  routes = h.routes;
  approved = h.approved;
  tags = h.tags;
}

-- the user is put, and the next id is above it
pub sound_user : (t : Rows) (u : User) (next : ℕ) → AreSound t → FitsUser t u → u.id < next → t.next.user ≤ next → next ≤ COUNTER_LIMIT
    → AreSound (record t { users = put_row (λ r. r.id) t.users u; next = record t.next { user = next } })
sound_user t u next s f below up top = record {
  counters = record { user = (omega (arith, f.id), top); key = s.counters.key; pending = s.counters.pending; machine = s.counters.machine };
  users = record {
    ascend = IsAscending-put (λ (r : User). r.id) t.users u s.users.ascend;
    ids = AreBelow-put (λ (r : User). r.id) t.next.user next t.users u s.users.ids f.id below up;
    count = count-put (λ (r : User). r.id) USER_LIMIT t.users u s.users.ascend s.users.count f.room;
    logins = Tells-put (λ (r : User). r.id) (λ (r : User). r.login) t.users u s.users.logins f.login;
  };
  keys = record {
    ascend = s.keys.ascend;
    ids = s.keys.ids;
    count = s.keys.count;
    texts = s.keys.texts;
    keeps = λ k m. key_keeps t.users u k (s.keys.keeps k m);
  };
  pending = s.pending;
  machines = record {
    ascend = s.machines.ascend;
    ids = s.machines.ids;
    count = s.machines.count;
    machine_keys = s.machines.machine_keys;
    node_keys = s.machines.node_keys;
    names = s.machines.names;
    v4 = s.machines.v4;
    v6 = s.machines.v6;
    keeps = λ r m. machine_keeps t.users u r (s.machines.keeps r m);
  };
  extras = s.extras;
  policy = s.policy;
}

-- the key is put, and the next id is above it
pub sound_key : (t : Rows) (k : AuthKey) (next : ℕ) → AreSound t → FitsKey t k → k.id < next → t.next.key ≤ next → next ≤ COUNTER_LIMIT
    → AreSound (record t { keys = put_row (λ r. r.id) t.keys k; next = record t.next { key = next } })
sound_key t k next s f below up top = record {
  counters = record { user = s.counters.user; key = (omega (arith, f.id), top); pending = s.counters.pending; machine = s.counters.machine };
  users = s.users;
  keys = record {
    ascend = IsAscending-put (λ (r : AuthKey). r.id) t.keys k s.keys.ascend;
    ids = AreBelow-put (λ (r : AuthKey). r.id) t.next.key next t.keys k s.keys.ids f.id below up;
    count = count-put (λ (r : AuthKey). r.id) KEY_LIMIT t.keys k s.keys.ascend s.keys.count f.room;
    texts = Tells-put (λ (r : AuthKey). r.id) (λ (r : AuthKey). r.text) t.keys k s.keys.texts f.text;
    keeps = keeps-put (λ (r : AuthKey). r.id) (λ (r : AuthKey). KeyKeeps t.users r) t.keys k s.keys.keeps f.keeps;
  };
  pending = s.pending;
  machines = s.machines;
  extras = s.extras;
  policy = s.policy;
}

-- the pending entry is put, and the next id is above it
pub sound_pending : (t : Rows) (p : Pending) (next : ℕ) → AreSound t → FitsPending t p → p.id < next → t.next.pending ≤ next → next ≤ COUNTER_LIMIT
    → AreSound (record t { pending = put_row (λ r. r.id) t.pending p; next = record t.next { pending = next } })
sound_pending t p next s f below up top = record {
  counters = record { user = s.counters.user; key = s.counters.key; pending = (omega (arith, f.id), top); machine = s.counters.machine };
  users = s.users;
  keys = s.keys;
  pending = record {
    ascend = IsAscending-put (λ (r : Pending). r.id) t.pending p s.pending.ascend;
    ids = AreBelow-put (λ (r : Pending). r.id) t.next.pending next t.pending p s.pending.ids f.id below up;
    count = count-put (λ (r : Pending). r.id) PENDING_LIMIT t.pending p s.pending.ascend s.pending.count f.room;
    texts = Tells-put (λ (r : Pending). r.id) (λ (r : Pending). r.text) t.pending p s.pending.texts f.text;
    machine_keys = Tells-put (λ (r : Pending). r.id) (λ (r : Pending). r.machine.0) t.pending p s.pending.machine_keys f.machine_key;
    keeps = keeps-put (λ (r : Pending). r.id) PendingKeeps t.pending p s.pending.keeps f.keeps;
  };
  machines = s.machines;
  extras = s.extras;
  policy = s.policy;
}

-- the machine is put, and the next id is above it
pub sound_machine : (t : Rows) (m : Machine) (next : ℕ) → AreSound t → FitsMachine t m → m.id < next → t.next.machine ≤ next → next ≤ COUNTER_LIMIT
    → AreSound (record t { machines = put_row (λ r. r.id) t.machines m; next = record t.next { machine = next } })
sound_machine t m next s f below up top = record {
  counters = record { user = s.counters.user; key = s.counters.key; pending = s.counters.pending; machine = (omega (arith, f.id), top) };
  users = s.users;
  keys = s.keys;
  pending = s.pending;
  machines = record {
    ascend = IsAscending-put (λ (r : Machine). r.id) t.machines m s.machines.ascend;
    ids = AreBelow-put (λ (r : Machine). r.id) t.next.machine next t.machines m s.machines.ids f.id below up;
    count = count-put (λ (r : Machine). r.id) MACHINE_LIMIT t.machines m s.machines.ascend s.machines.count f.room;
    machine_keys = Tells-put (λ (r : Machine). r.id) (λ (r : Machine). r.machine.0) t.machines m s.machines.machine_keys f.machine_key;
    node_keys = Tells-put (λ (r : Machine). r.id) (λ (r : Machine). r.node.0) t.machines m s.machines.node_keys f.node_key;
    names = Tells-put (λ (r : Machine). r.id) (λ (r : Machine). r.name) t.machines m s.machines.names f.name;
    v4 = Tells-put (λ (r : Machine). r.id) (λ (r : Machine). r.v4) t.machines m s.machines.v4 f.v4;
    v6 = Tells-put (λ (r : Machine). r.id) (λ (r : Machine). r.v6) t.machines m s.machines.v6 f.v6;
    keeps = keeps-put (λ (r : Machine). r.id) (λ (r : Machine). MachineKeeps t.users r) t.machines m s.machines.keeps f.keeps;
  };
  extras = s.extras;
  policy = s.policy;
}

-- the extra records are replaced
pub sound_extras : (t : Rows) (xs : List DnsExtra) → AreSound t → length xs ≤ EXTRA_LIMIT → AreSound (record t { extras = xs })
sound_extras t xs s h = record {
  counters = s.counters;
  users = s.users;
  keys = s.keys;
  pending = s.pending;
  machines = s.machines;
  extras = h;
  policy = s.policy;
}

-- the policy is replaced
pub sound_policy : (t : Rows) (text : List ℕ) → AreSound t → length text ≤ POLICY_LIMIT → AreSound (record t { policy = Some text })
sound_policy t text s h = record {
  counters = s.counters;
  users = s.users;
  keys = s.keys;
  pending = s.pending;
  machines = s.machines;
  extras = s.extras;
  policy = h;
}
