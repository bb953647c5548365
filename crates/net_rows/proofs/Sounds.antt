-- Tables without damage are those that keep all rules.
use Rattle.std.proofs.Common.{◌≡◌, ◌≤◌, ℕ, Bool, true, false, List, [], length, refl, nat_le}
use Rattle.std.specs.Prelude.{Option, Some, None, IfSome}
use Rattle.net_rows.specs.declared.limits.TheConstants.{COUNTER_LIMIT, EXTRA_LIMIT}
use Rattle.tail_base.specs.declared.limits.TheConstants.{POLICY_LIMIT}
use Rattle.net_rows.specs.Rows.{Rows}
use Rattle.net_rows.specs.Damage.{damage, damage_at, damage_unless, first_misfit, is_counter, are_counters, are_short_extras, is_short_policy, user_fits, key_fits, pending_fits, machine_fits, user_damage, key_damage, pending_damage, machine_damage}
use Rattle.net_rows.specs.Sound.{AreSound, AreCounters, IsCounter, AreUsers, AreKeys, ArePending, AreMachines}
use Rattle.net_rows.specs.declared.user.User.{User}
use Rattle.net_rows.specs.declared.key.AuthKey.{AuthKey}
use Rattle.net_rows.specs.declared.pending.Pending.{Pending}
use Rattle.net_rows.specs.declared.machine.Machine.{Machine}
use Rattle.net_rows.specs.declared.change.Counters.{Counters}
use Rattle.net_rows.specs.declared.change.Kind.{Kind}
use Rattle.net_rows.specs.declared.change.Kind.TheVariants as kind
use Rattle.std.proofs.lemmas.Bool.{and_parts, and_from, leb-true, le-leb}
use Rattle.tail_base.proofs.Bools.{all4, and4, option_or-none, option_or-from}
use Rattle.net_rows.proofs.Scan.{misfit_keeps, no_misfit}
use Rattle.net_rows.proofs.SoundRows.{no_users, more_users, user_fits_among, no_keys, more_keys, key_fits_among, no_pending, more_pending, pending_fits_among, no_machines, more_machines, machine_fits_among}

-- There is no damage of any kind.
record IsWhole (t : Rows) : Type 0 where
  meta : damage_unless kind.Meta (are_counters t.next) ≡ None
  users : user_damage t ≡ None
  keys : key_damage t ≡ None
  pending : pending_damage t ≡ None
  machines : machine_damage t ≡ None
  extras : damage_unless kind.Extras (are_short_extras t) ≡ None
  policy : damage_unless kind.Policy (is_short_policy t) ≡ None

whole_of : (t : Rows) → damage t ≡ None → IsWhole t
unfolding damage
whole_of t h =
    let h1 = option_or-none (damage_unless kind.Meta (are_counters t.next)) _ h in
    let h2 = option_or-none (user_damage t) _ h1.1 in
    let h3 = option_or-none (key_damage t) _ h2.1 in
    let h4 = option_or-none (pending_damage t) _ h3.1 in
    let h5 = option_or-none (machine_damage t) _ h4.1 in
    let h6 = option_or-none (damage_unless kind.Extras (are_short_extras t)) _ h5.1 in
    record { meta = h1.0; users = h2.0; keys = h3.0; pending = h4.0; machines = h5.0; extras = h6.0; policy = h6.1 }

whole_is : (t : Rows) → IsWhole t → damage t ≡ None
unfolding damage
whole_is t w =
    option_or-from (damage_unless kind.Meta (are_counters t.next)) _ w.meta
    (option_or-from (user_damage t) _ w.users
    (option_or-from (key_damage t) _ w.keys
    (option_or-from (pending_damage t) _ w.pending
    (option_or-from (machine_damage t) _ w.machines
    (option_or-from (damage_unless kind.Extras (are_short_extras t)) _ w.extras w.policy)))))

passed : (k : Kind) (b : Bool) → damage_unless k b ≡ None → b ≡ true
passed k true h = refl
passed k false h = absurd (cc)

none_at : (k : Kind) (o : Option ℕ) → damage_at k o ≡ None → o ≡ None
none_at k None h = refl
none_at k (Some n) h = absurd (cc)

counter_of : (n : ℕ) → is_counter n ≡ true → IsCounter n
counter_of n h = let all = and_parts (nat_le 1 n) (nat_le n COUNTER_LIMIT) h in (leb-true 1 n all.0, leb-true n COUNTER_LIMIT all.1)

counter_is : (n : ℕ) → IsCounter n → is_counter n ≡ true
counter_is n h = and_from (nat_le 1 n) (nat_le n COUNTER_LIMIT) (le-leb 1 n h.0) (le-leb n COUNTER_LIMIT h.1)

counters_of : (next : Counters) → are_counters next ≡ true → AreCounters next
counters_of next h =
    let all = all4 (is_counter next.user) (is_counter next.key) (is_counter next.pending) (is_counter next.machine) h in
    record { user = counter_of next.user all.0; key = counter_of next.key all.1; pending = counter_of next.pending all.2; machine = counter_of next.machine all.3 }

counters_is : (next : Counters) → AreCounters next → are_counters next ≡ true
counters_is next c =
    and4 (is_counter next.user) (is_counter next.key) (is_counter next.pending) (is_counter next.machine)
    (counter_is next.user c.user) (counter_is next.key c.key) (counter_is next.pending c.pending) (counter_is next.machine c.machine)

policy_of : (o : Option (List ℕ)) (next : Counters) → is_short_policy (record { users = []; keys = []; pending = []; machines = []; extras = []; policy = o; next = next }) ≡ true → IfSome o (λ text. length text ≤ POLICY_LIMIT)
policy_of None next h = tt
policy_of (Some text) next h = leb-true (length text) POLICY_LIMIT h

policy_is : (o : Option (List ℕ)) (next : Counters) → IfSome o (λ text. length text ≤ POLICY_LIMIT) → is_short_policy (record { users = []; keys = []; pending = []; machines = []; extras = []; policy = o; next = next }) ≡ true
policy_is None next h = refl
policy_is (Some text) next h = le-leb (length text) POLICY_LIMIT h

-- Where there is no damage, all rules are kept.
pub sound_of : (t : Rows) → damage t ≡ None → AreSound t
sound_of t h =
    let w = whole_of t h in
    record {
      counters = counters_of t.next (passed kind.Meta (are_counters t.next) w.meta);
      users = misfit_keeps (λ (r : User). r.id) (user_fits t) (λ xs. AreUsers xs t.next.user) (more_users t) [] t.users (no_users t.next.user)
          (none_at kind.User (first_misfit (λ (r : User). r.id) (user_fits t) [] t.users) w.users);
      keys = misfit_keeps (λ (r : AuthKey). r.id) (key_fits t) (λ xs. AreKeys t.users xs t.next.key) (more_keys t) [] t.keys (no_keys t.users t.next.key)
          (none_at kind.Key (first_misfit (λ (r : AuthKey). r.id) (key_fits t) [] t.keys) w.keys);
      pending = misfit_keeps (λ (r : Pending). r.id) (pending_fits t) (λ xs. ArePending xs t.next.pending) (more_pending t) [] t.pending (no_pending t.next.pending)
          (none_at kind.Pending (first_misfit (λ (r : Pending). r.id) (pending_fits t) [] t.pending) w.pending);
      machines = misfit_keeps (λ (r : Machine). r.id) (machine_fits t) (λ xs. AreMachines t.users xs t.next.machine) (more_machines t) [] t.machines (no_machines t.users t.next.machine)
          (none_at kind.Machine (first_misfit (λ (r : Machine). r.id) (machine_fits t) [] t.machines) w.machines);
      extras = leb-true (length t.extras) EXTRA_LIMIT (passed kind.Extras (are_short_extras t) w.extras);
      policy = policy_of t.policy t.next (passed kind.Policy (is_short_policy t) w.policy);
    }

-- Where all rules are kept, there is no damage.
pub no_damage : (t : Rows) → AreSound t → damage t ≡ None
no_damage t s = whole_is t (record {
  meta = rw (counters_is t.next s.counters) refl;
  users = rw (no_misfit (λ (r : User). r.id) (user_fits t) t.users
      (λ before x rest e. user_fits_among t before x rest (rw e s.users)) [] t.users refl) refl;
  keys = rw (no_misfit (λ (r : AuthKey). r.id) (key_fits t) t.keys
      (λ before x rest e. key_fits_among t before x rest (rw e s.keys)) [] t.keys refl) refl;
  pending = rw (no_misfit (λ (r : Pending). r.id) (pending_fits t) t.pending
      (λ before x rest e. pending_fits_among t before x rest (rw e s.pending)) [] t.pending refl) refl;
  machines = rw (no_misfit (λ (r : Machine). r.id) (machine_fits t) t.machines
      (λ before x rest e. machine_fits_among t before x rest (rw e s.machines)) [] t.machines refl) refl;
  extras = rw (le-leb (length t.extras) EXTRA_LIMIT s.extras) refl;
  policy = rw (policy_is t.policy t.next s.policy) refl;
})
