-- Changes of a machine's row leave no tables as they were: one fact for each part of such a change that is new.
use Rattle.std.proofs.Common.{◌≡◌, ◌≢◌, ◌+◌, ℕ, true, false, List, arith, sym, ◌∙◌, ap, refl, subst, ◌==◌}
use Rattle.std.specs.Prelude.{Contains, Option, Some, None, IfSome}
use Rattle.std.proofs.lemmas.Bool.Decides.{nat_tests}
use Rattle.net_rows.specs.Rows.{after}
use Rattle.net_rows.specs.declared.rows.Rows.{Rows}
use Rattle.net_rows.specs.Shelf.{put_row, without, row_at, IsAscending}
use Rattle.net_rows.specs.Sound.{AreSound}
use Rattle.net_rows.specs.declared.key.AuthKey.{AuthKey}
use Rattle.net_rows.specs.declared.machine.Machine.{Machine}
use Rattle.net_rows.specs.declared.pending.Pending.{Pending}
use Rattle.net_rows.proofs.Members.{find_nothing}
use Rattle.net_rows.proofs.RowAt.{row_at_is}
use Rattle.net_rows.proofs.PutLemmas.{put_there}
use Rattle.net_rows.proofs.RemoveLemmas.{without_member}
use Rattle.desk_state.specs.Changes.{machine_gone}
use Rattle.desk_state.specs.Rows.{row_change, row_replaced}

-- where a put leaves the rows as they were, the row is there
pub put_rests_is : {T : Type 0} (id : T → ℕ) (xs : List T) (x : T) → IsAscending id xs → put_row id xs x ≡ xs → row_at id xs (id x) ≡ Some x
put_rests_is {T} id xs x up e = row_at_is id xs x up (subst (λ (ys : List T). Contains ys x) e (put_there id xs x))

-- where a removal leaves them, there is no row of the id
pub without_rests_is : {T : Type 0} (id : T → ℕ) (xs : List T) (k : ℕ) → without id xs k ≡ xs → row_at id xs k ≡ None
without_rests_is {T} id xs k e =
    find_nothing (λ x. id x == k) xs (λ a m.
    let apart : id a ≢ k = (without_member id xs k a (subst (λ (ys : List T). Contains ys a) (sym e) m)).1 in
    grind (arith, nat_tests, apart))

-- the row, the used key and the counter are there already, and the pending entry isn't
pub record Stands (t : Rows) (m : Machine) (n : ℕ) (k : Option AuthKey) (p : Option Pending) : Type 0 where
  pub machine : row_at (λ r. r.id) t.machines m.id ≡ Some m
  pub key : IfSome k (λ (x : AuthKey). row_at (λ r. r.id) t.keys x.id ≡ Some (record x { used = true }))
  pub pending : IfSome p (λ (x : Pending). row_at (λ r. r.id) t.pending x.id ≡ None)
  pub next : n ≡ t.next.machine

-- where such a change leaves the tables as they were, all of it stands
pub rests_stands : (t : Rows) (m : Machine) (next : ℕ) (key : Option AuthKey) (pending : Option Pending) → AreSound t
    → after t (row_change t m next key pending) ≡ t → Stands t m next key pending
rests_stands t m next None None sound e = record {
  machine = put_rests_is (λ r. r.id) t.machines m sound.machines.ascend (ap (λ (u : Rows). u.machines) e);
  key = tt;
  pending = tt;
  next = ap (λ (u : Rows). u.next.machine) e;
}
rests_stands t m next None (Some p) sound e = record {
  machine = put_rests_is (λ r. r.id) t.machines m sound.machines.ascend (ap (λ (u : Rows). u.machines) e);
  key = tt;
  pending = without_rests_is (λ r. r.id) t.pending p.id (ap (λ (u : Rows). u.pending) e);
  next = ap (λ (u : Rows). u.next.machine) e;
}
rests_stands t m next (Some k) None sound e = record {
  machine = put_rests_is (λ r. r.id) t.machines m sound.machines.ascend (ap (λ (u : Rows). u.machines) e);
  key = put_rests_is (λ r. r.id) t.keys (record k { used = true }) sound.keys.ascend (ap (λ (u : Rows). u.keys) e);
  pending = tt;
  next = ap (λ (u : Rows). u.next.machine) e;
}
rests_stands t m next (Some k) (Some p) sound e = record {
  machine = put_rests_is (λ r. r.id) t.machines m sound.machines.ascend (ap (λ (u : Rows). u.machines) e);
  key = put_rests_is (λ r. r.id) t.keys (record k { used = true }) sound.keys.ascend (ap (λ (u : Rows). u.keys) e);
  pending = without_rests_is (λ r. r.id) t.pending p.id (ap (λ (u : Rows). u.pending) e);
  next = ap (λ (u : Rows). u.next.machine) e;
}

-- another row takes the place of a machine's row
pub renewed_differs : (t : Rows) (m r : Machine) (next : ℕ) (key : Option AuthKey) (pending : Option Pending) → AreSound t → Contains t.machines m → r.id ≡ m.id → r ≢ m
    → after t (row_change t r next key pending) ≢ t
renewed_differs t m r next key pending sound inside id apart e =
    let there = row_at_is (λ (x : Machine). x.id) t.machines m sound.machines.ascend inside in
    let stands = rests_stands t r next key pending sound e in
    let here : row_at (λ (x : Machine). x.id) t.machines m.id ≡ Some r = subst (λ (n : ℕ). row_at (λ (x : Machine). x.id) t.machines n ≡ Some r) id stands.machine in
    let same : Some r ≡ Some m = sym here ∙ there in
    apart (cc)

pub replaced_differs : (t : Rows) (m r : Machine) → AreSound t → Contains t.machines m → r.id ≡ m.id → r ≢ m → after t (row_replaced t r) ≢ t
replaced_differs t m r sound inside id apart = renewed_differs t m r t.next.machine None None sound inside id apart

-- a machine that had no row takes the next id
pub entered_differs : (t : Rows) (m : Machine) (next : ℕ) (key : Option AuthKey) (pending : Option Pending) → AreSound t → next ≡ t.next.machine + 1 → after t (row_change t m next key pending) ≢ t
entered_differs t m next key pending sound is e =
    let stands = rests_stands t m next key pending sound e in
    absurd (omega (arith, is, stands.next))

-- a pending entry goes
pub admitted_differs : (t : Rows) (m : Machine) (next : ℕ) (key : Option AuthKey) (p : Pending) → AreSound t → Contains t.pending p → after t (row_change t m next key (Some p)) ≢ t
admitted_differs t m next key p sound inside e =
    let stands = rests_stands t m next key (Some p) sound e in
    let there = row_at_is (λ (x : Pending). x.id) t.pending p sound.pending.ascend inside in
    let clash : None ≡ Some p = sym stands.pending ∙ there in
    absurd (cc)

-- a key counts as used for the first time
pub first_use_differs : (t : Rows) (m : Machine) (next : ℕ) (k : AuthKey) (pending : Option Pending) → AreSound t → Contains t.keys k → k.used ≡ false
    → after t (row_change t m next (Some k) pending) ≢ t
first_use_differs t m next k pending sound inside unused e =
    let stands = rests_stands t m next (Some k) pending sound e in
    let there = row_at_is (λ (x : AuthKey). x.id) t.keys k sound.keys.ascend inside in
    let both : Some (record k { used = true }) ≡ Some k = sym stands.key ∙ there in
    let same : record k { used = true } ≡ k = cc in
    let used : true ≡ k.used = ap (λ (x : AuthKey). x.used) same in
    let clash : true ≡ false = used ∙ unused in
    absurd (cc)

-- a machine's row goes
pub gone_differs : (t : Rows) (m : Machine) → Contains t.machines m → after t (machine_gone t m.id) ≢ t
gone_differs t m inside e =
    let left : without (λ (x : Machine). x.id) t.machines m.id ≡ t.machines = ap (λ (u : Rows). u.machines) e in
    (without_member (λ (x : Machine). x.id) t.machines m.id m (subst (λ (xs : List Machine). Contains xs m) (sym left) inside)).1 refl
