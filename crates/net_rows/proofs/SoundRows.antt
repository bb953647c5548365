-- Rows of one kind: where each fits beside those before it, all rules of the kind are kept, and back.
use Rattle.std.proofs.Common.{◌≡◌, ℕ, true, List, [], ◌∷◌, ◌++◌, length, arith, nat_le, codes}
use Rattle.tailcfg.specs.declared.limits.TheConstants.{ENDPOINT_LIMIT, ROUTE_LIMIT, ASKED_TAG_LIMIT, HOST_LIMIT}
use Rattle.net_rows.specs.declared.limits.TheConstants.{USER_LIMIT, KEY_LIMIT, PENDING_LIMIT, MACHINE_LIMIT, TAG_LIMIT}
use Rattle.net_addr.specs.Tailnet.{tailnet_v4, tailnet_v6}
use Rattle.net_addr.specs.Blocks.{holds}
use Rattle.net_rows.specs.Rows.{Rows}
use Rattle.net_rows.specs.Damage.{stands, is_new, is_new_address, has_user, names_id, names_key, user_fits, key_fits, pending_fits, machine_fits, is_short_pending, is_short_machine, is_new_machine}
use Rattle.net_rows.specs.Sound.{AreUsers, AreKeys, ArePending, AreMachines, KeyKeeps, MachineKeeps, PendingKeeps}
use Rattle.net_rows.specs.declared.user.User.{User}
use Rattle.net_rows.specs.declared.key.AuthKey.{AuthKey}
use Rattle.net_rows.specs.declared.pending.Pending.{Pending}
use Rattle.net_rows.specs.declared.machine.Machine.{Machine}
use Rattle.std.proofs.lemmas.Bool.{and_parts, and_from, leb-true, le-leb}
use Rattle.tail_base.proofs.Bools.{all3, all5, all6, and3, and5, and6}
use Rattle.net_rows.proofs.Members.{no_member}
use Rattle.net_rows.proofs.Stands.{stands_after, IsAscending-last, AreBelow-last, keeps-last, Tells-last, count-last, new_of, new_is, new_address_of, new_address_is, user_of, user_is, there, stands_among, new_among}

pub no_users : (next : ℕ) → AreUsers [] next
no_users next = record {
  ascend = tt;
  ids = λ a m. absurd (no_member a m);
  count = omega arith;
  logins = λ a b ina inb e. absurd (no_member a ina);
}

pub more_users : (t : Rows) (before : List User) (u : User) → AreUsers before t.next.user → user_fits t before u ≡ true → AreUsers (before ++ u ∷ []) t.next.user
more_users t before u s h =
    let all = and_parts (stands (λ (r : User). r.id) t.next.user USER_LIMIT before u) (is_new (λ (r : User). r.login) before u) h in
    let place = stands_after (λ (r : User). r.id) t.next.user USER_LIMIT before u all.0 in
    record {
      ascend = IsAscending-last (λ (r : User). r.id) before u s.ascend place.above;
      ids = AreBelow-last (λ (r : User). r.id) t.next.user before u s.ids place.one place.below;
      count = count-last USER_LIMIT before u place.room;
      logins = Tells-last (λ (r : User). r.id) (λ (r : User). r.login) before u s.logins (new_of (λ (r : User). r.login) before u all.1);
    }

pub user_fits_among : (t : Rows) (before : List User) (u : User) (rest : List User) → AreUsers (before ++ u ∷ rest) t.next.user → user_fits t before u ≡ true
user_fits_among t before u rest s =
    and_from (stands (λ (r : User). r.id) t.next.user USER_LIMIT before u) (is_new (λ (r : User). r.login) before u)
    (stands_among (λ (r : User). r.id) t.next.user USER_LIMIT before u rest s.ascend s.ids s.count)
    (new_is (λ (r : User). r.login) before u (new_among (λ (r : User). r.id) (λ (r : User). r.login) before u rest s.ascend s.logins))

pub no_keys : (users : List User) (next : ℕ) → AreKeys users [] next
no_keys users next = record {
  ascend = tt;
  ids = λ a m. absurd (no_member a m);
  count = omega arith;
  texts = λ a b ina inb e. absurd (no_member a ina);
  keeps = λ a m. absurd (no_member a m);
}

pub more_keys : (t : Rows) (before : List AuthKey) (k : AuthKey) → AreKeys t.users before t.next.key → key_fits t before k ≡ true → AreKeys t.users (before ++ k ∷ []) t.next.key
more_keys t before k s h =
    let all = all5 (stands (λ (r : AuthKey). r.id) t.next.key KEY_LIMIT before k) (is_new (λ (r : AuthKey). r.text) before k)
    (has_user t.users k.user) (names_key k.id k.text) (nat_le (length k.tags) ASKED_TAG_LIMIT) h in
    let place = stands_after (λ (r : AuthKey). r.id) t.next.key KEY_LIMIT before k all.0 in
    record {
      ascend = IsAscending-last (λ (r : AuthKey). r.id) before k s.ascend place.above;
      ids = AreBelow-last (λ (r : AuthKey). r.id) t.next.key before k s.ids place.one place.below;
      count = count-last KEY_LIMIT before k place.room;
      texts = Tells-last (λ (r : AuthKey). r.id) (λ (r : AuthKey). r.text) before k s.texts (new_of (λ (r : AuthKey). r.text) before k all.1);
      keeps = keeps-last (λ (r : AuthKey). KeyKeeps t.users r) before k s.keeps (record {
        user = user_of t.users k.user all.2;
        text = all.3;
        tags = leb-true (length k.tags) ASKED_TAG_LIMIT all.4;
      });
    }

pub key_fits_among : (t : Rows) (before : List AuthKey) (k : AuthKey) (rest : List AuthKey) → AreKeys t.users (before ++ k ∷ rest) t.next.key → key_fits t before k ≡ true
key_fits_among t before k rest s =
    let keeps = s.keeps k (there before k rest) in
    and5 (stands (λ (r : AuthKey). r.id) t.next.key KEY_LIMIT before k) (is_new (λ (r : AuthKey). r.text) before k)
    (has_user t.users k.user) (names_key k.id k.text) (nat_le (length k.tags) ASKED_TAG_LIMIT)
    (stands_among (λ (r : AuthKey). r.id) t.next.key KEY_LIMIT before k rest s.ascend s.ids s.count)
    (new_is (λ (r : AuthKey). r.text) before k (new_among (λ (r : AuthKey). r.id) (λ (r : AuthKey). r.text) before k rest s.ascend s.texts))
    (user_is t.users k.user keeps.user)
    keeps.text
    (le-leb (length k.tags) ASKED_TAG_LIMIT keeps.tags)

pub no_pending : (next : ℕ) → ArePending [] next
no_pending next = record {
  ascend = tt;
  ids = λ a m. absurd (no_member a m);
  count = omega arith;
  texts = λ a b ina inb e. absurd (no_member a ina);
  machine_keys = λ a b ina inb e. absurd (no_member a ina);
  keeps = λ a m. absurd (no_member a m);
}

pending_keeps : (p : Pending) → names_id (codes "reg-") p.id p.text ≡ true → is_short_pending p ≡ true → PendingKeeps p
pending_keeps p named short =
    let all = all3 (nat_le (length p.host) HOST_LIMIT) (nat_le (length p.routes) ROUTE_LIMIT) (nat_le (length p.tags) ASKED_TAG_LIMIT) short in
    record {
      text = named;
      host = leb-true (length p.host) HOST_LIMIT all.0;
      routes = leb-true (length p.routes) ROUTE_LIMIT all.1;
      tags = leb-true (length p.tags) ASKED_TAG_LIMIT all.2;
    }

pending_short : (p : Pending) → PendingKeeps p → is_short_pending p ≡ true
pending_short p keeps =
    and3 (nat_le (length p.host) HOST_LIMIT) (nat_le (length p.routes) ROUTE_LIMIT) (nat_le (length p.tags) ASKED_TAG_LIMIT)
    (le-leb (length p.host) HOST_LIMIT keeps.host) (le-leb (length p.routes) ROUTE_LIMIT keeps.routes)
    (le-leb (length p.tags) ASKED_TAG_LIMIT keeps.tags)

pub more_pending : (t : Rows) (before : List Pending) (p : Pending) → ArePending before t.next.pending → pending_fits t before p ≡ true → ArePending (before ++ p ∷ []) t.next.pending
more_pending t before p s h =
    let all = all5 (stands (λ (r : Pending). r.id) t.next.pending PENDING_LIMIT before p) (is_new (λ (r : Pending). r.text) before p)
    (is_new (λ (r : Pending). r.machine.0) before p) (names_id (codes "reg-") p.id p.text) (is_short_pending p) h in
    let place = stands_after (λ (r : Pending). r.id) t.next.pending PENDING_LIMIT before p all.0 in
    record {
      ascend = IsAscending-last (λ (r : Pending). r.id) before p s.ascend place.above;
      ids = AreBelow-last (λ (r : Pending). r.id) t.next.pending before p s.ids place.one place.below;
      count = count-last PENDING_LIMIT before p place.room;
      texts = Tells-last (λ (r : Pending). r.id) (λ (r : Pending). r.text) before p s.texts (new_of (λ (r : Pending). r.text) before p all.1);
      machine_keys = Tells-last (λ (r : Pending). r.id) (λ (r : Pending). r.machine.0) before p s.machine_keys (new_of (λ (r : Pending). r.machine.0) before p all.2);
      keeps = keeps-last PendingKeeps before p s.keeps (pending_keeps p all.3 all.4);
    }

pub pending_fits_among : (t : Rows) (before : List Pending) (p : Pending) (rest : List Pending) → ArePending (before ++ p ∷ rest) t.next.pending → pending_fits t before p ≡ true
pending_fits_among t before p rest s =
    let keeps = s.keeps p (there before p rest) in
    and5 (stands (λ (r : Pending). r.id) t.next.pending PENDING_LIMIT before p) (is_new (λ (r : Pending). r.text) before p)
    (is_new (λ (r : Pending). r.machine.0) before p) (names_id (codes "reg-") p.id p.text) (is_short_pending p)
    (stands_among (λ (r : Pending). r.id) t.next.pending PENDING_LIMIT before p rest s.ascend s.ids s.count)
    (new_is (λ (r : Pending). r.text) before p (new_among (λ (r : Pending). r.id) (λ (r : Pending). r.text) before p rest s.ascend s.texts))
    (new_is (λ (r : Pending). r.machine.0) before p (new_among (λ (r : Pending). r.id) (λ (r : Pending). r.machine.0) before p rest s.ascend s.machine_keys))
    keeps.text
    (pending_short p keeps)

pub no_machines : (users : List User) (next : ℕ) → AreMachines users [] next
no_machines users next = record {
  ascend = tt;
  ids = λ a m. absurd (no_member a m);
  count = omega arith;
  machine_keys = λ a b ina inb e. absurd (no_member a ina);
  node_keys = λ a b ina inb e. absurd (no_member a ina);
  names = λ a b ina inb e. absurd (no_member a ina);
  v4 = λ a b ina inb e. absurd (no_member a ina);
  v6 = λ a b ina inb e. absurd (no_member a ina);
  keeps = λ a m. absurd (no_member a m);
}

machine_keeps : (users : List User) (m : Machine) → has_user users m.user ≡ true → holds tailnet_v4 m.v4 ≡ true → holds tailnet_v6 m.v6 ≡ true → is_short_machine m ≡ true → MachineKeeps users m
machine_keeps users m user v4 v6 short =
    let all = all5 (nat_le (length m.host) HOST_LIMIT) (nat_le (length m.endpoints) ENDPOINT_LIMIT) (nat_le (length m.routes) ROUTE_LIMIT)
    (nat_le (length m.approved) ROUTE_LIMIT) (nat_le (length m.tags) TAG_LIMIT) short in
    record {
      user = user_of users m.user user;
      v4 = v4;
      v6 = v6;
      host = leb-true (length m.host) HOST_LIMIT all.0;
      endpoints = leb-true (length m.endpoints) ENDPOINT_LIMIT all.1;
      routes = leb-true (length m.routes) ROUTE_LIMIT all.2;
      approved = leb-true (length m.approved) ROUTE_LIMIT all.3;
      tags = leb-true (length m.tags) TAG_LIMIT all.4;
    }

machine_short : (users : List User) (m : Machine) → MachineKeeps users m → is_short_machine m ≡ true
machine_short users m keeps =
    and5 (nat_le (length m.host) HOST_LIMIT) (nat_le (length m.endpoints) ENDPOINT_LIMIT) (nat_le (length m.routes) ROUTE_LIMIT)
    (nat_le (length m.approved) ROUTE_LIMIT) (nat_le (length m.tags) TAG_LIMIT)
    (le-leb (length m.host) HOST_LIMIT keeps.host) (le-leb (length m.endpoints) ENDPOINT_LIMIT keeps.endpoints)
    (le-leb (length m.routes) ROUTE_LIMIT keeps.routes) (le-leb (length m.approved) ROUTE_LIMIT keeps.approved)
    (le-leb (length m.tags) TAG_LIMIT keeps.tags)

pub more_machines : (t : Rows) (before : List Machine) (m : Machine) → AreMachines t.users before t.next.machine → machine_fits t before m ≡ true → AreMachines t.users (before ++ m ∷ []) t.next.machine
more_machines t before m s h =
    let all = all6 (stands (λ (r : Machine). r.id) t.next.machine MACHINE_LIMIT before m) (is_new_machine before m) (has_user t.users m.user)
    (holds tailnet_v4 m.v4) (holds tailnet_v6 m.v6) (is_short_machine m) h in
    let new = all5 (is_new (λ (r : Machine). r.machine.0) before m) (is_new (λ (r : Machine). r.node.0) before m) (is_new (λ (r : Machine). r.name) before m)
    (is_new_address (λ (r : Machine). r.v4) before m) (is_new_address (λ (r : Machine). r.v6) before m) all.1 in
    let place = stands_after (λ (r : Machine). r.id) t.next.machine MACHINE_LIMIT before m all.0 in
    record {
      ascend = IsAscending-last (λ (r : Machine). r.id) before m s.ascend place.above;
      ids = AreBelow-last (λ (r : Machine). r.id) t.next.machine before m s.ids place.one place.below;
      count = count-last MACHINE_LIMIT before m place.room;
      machine_keys = Tells-last (λ (r : Machine). r.id) (λ (r : Machine). r.machine.0) before m s.machine_keys (new_of (λ (r : Machine). r.machine.0) before m new.0);
      node_keys = Tells-last (λ (r : Machine). r.id) (λ (r : Machine). r.node.0) before m s.node_keys (new_of (λ (r : Machine). r.node.0) before m new.1);
      names = Tells-last (λ (r : Machine). r.id) (λ (r : Machine). r.name) before m s.names (new_of (λ (r : Machine). r.name) before m new.2);
      v4 = Tells-last (λ (r : Machine). r.id) (λ (r : Machine). r.v4) before m s.v4 (new_address_of (λ (r : Machine). r.v4) before m new.3);
      v6 = Tells-last (λ (r : Machine). r.id) (λ (r : Machine). r.v6) before m s.v6 (new_address_of (λ (r : Machine). r.v6) before m new.4);
      keeps = keeps-last (λ (r : Machine). MachineKeeps t.users r) before m s.keeps (machine_keeps t.users m all.2 all.3 all.4 all.5);
    }

machine_new_among : (users : List User) (next : ℕ) (before : List Machine) (m : Machine) (rest : List Machine) → AreMachines users (before ++ m ∷ rest) next → is_new_machine before m ≡ true
machine_new_among users next before m rest s =
    and5 (is_new (λ (r : Machine). r.machine.0) before m) (is_new (λ (r : Machine). r.node.0) before m) (is_new (λ (r : Machine). r.name) before m)
    (is_new_address (λ (r : Machine). r.v4) before m) (is_new_address (λ (r : Machine). r.v6) before m)
    (new_is (λ (r : Machine). r.machine.0) before m (new_among (λ (r : Machine). r.id) (λ (r : Machine). r.machine.0) before m rest s.ascend s.machine_keys))
    (new_is (λ (r : Machine). r.node.0) before m (new_among (λ (r : Machine). r.id) (λ (r : Machine). r.node.0) before m rest s.ascend s.node_keys))
    (new_is (λ (r : Machine). r.name) before m (new_among (λ (r : Machine). r.id) (λ (r : Machine). r.name) before m rest s.ascend s.names))
    (new_address_is (λ (r : Machine). r.v4) before m (new_among (λ (r : Machine). r.id) (λ (r : Machine). r.v4) before m rest s.ascend s.v4))
    (new_address_is (λ (r : Machine). r.v6) before m (new_among (λ (r : Machine). r.id) (λ (r : Machine). r.v6) before m rest s.ascend s.v6))

pub machine_fits_among : (t : Rows) (before : List Machine) (m : Machine) (rest : List Machine) → AreMachines t.users (before ++ m ∷ rest) t.next.machine → machine_fits t before m ≡ true
machine_fits_among t before m rest s =
    let keeps = s.keeps m (there before m rest) in
    and6 (stands (λ (r : Machine). r.id) t.next.machine MACHINE_LIMIT before m) (is_new_machine before m) (has_user t.users m.user)
    (holds tailnet_v4 m.v4) (holds tailnet_v6 m.v6) (is_short_machine m)
    (stands_among (λ (r : Machine). r.id) t.next.machine MACHINE_LIMIT before m rest s.ascend s.ids s.count)
    (machine_new_among t.users t.next.machine before m rest s)
    (user_is t.users m.user keeps.user)
    keeps.v4
    keeps.v6
    (machine_short t.users m keeps)
