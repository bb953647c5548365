-- What tables have after a change: what they had, and what it puts.
use Rattle.std.proofs.Common.{◌≡◌, ◌⊎◌, inl, inr, List, [], ◌∷◌, Option, Some, None, refl, sym, ap, subst}
use Rattle.std.specs.Prelude.{Contains}
use Rattle.tail_base.specs.declared.key.MachineKey.{MachineKey}
use Rattle.net_rows.specs.Rows.{after, put, put_all, take_all_out, take_out}
use Rattle.net_rows.specs.declared.change.Change.{Change}
use Rattle.net_rows.specs.declared.change.Row.{Row}
use Rattle.net_rows.specs.declared.change.Row.TheVariants as row
use Rattle.net_rows.specs.declared.change.RowKey.{RowKey}
use Rattle.net_rows.specs.declared.change.RowKey.TheVariants as gone
use Rattle.net_rows.specs.declared.key.AuthKey.{AuthKey}
use Rattle.net_rows.specs.declared.machine.Machine.{Machine}
use Rattle.net_rows.specs.declared.pending.Pending.{Pending}
use Rattle.net_rows.specs.declared.rows.Rows.{Rows}
use Rattle.net_rows.specs.declared.user.User.{User}
use Rattle.net_rows.proofs.PutLemmas.{put_member}
use Rattle.net_rows.proofs.RemoveLemmas.{without_member}
use Rattle.net_rows.proofs.SoundGone.{key_left, machine_left}
use Rattle.desk_state.specs.Decisions.{rows_after}
use Rattle.tailnet_laws.proofs.Puts.{ArePut, IsMachinePut, IsPut}

-- a user's row after one put
users_put : (t : Rows) (x : Row) (a : User) → Contains (put t x).users a → (x ≡ row.User a) ⊎ Contains t.users a
users_put t (row.User r) a h = elim (put_member (λ (y : User). y.id) t.users r a h) [ inl e ↦ inl (ap row.User (sym e)) | inr was ↦ inr was ]
users_put t (row.Key r) a h = inr h
users_put t (row.Pending r) a h = inr h
users_put t (row.Machine r) a h = inr h
users_put t (row.Extras xs) a h = inr h
users_put t (row.Policy text) a h = inr h

-- a key's row after one put
keys_put : (t : Rows) (x : Row) (a : AuthKey) → Contains (put t x).keys a → (x ≡ row.Key a) ⊎ Contains t.keys a
keys_put t (row.User r) a h = inr h
keys_put t (row.Key r) a h = elim (put_member (λ (y : AuthKey). y.id) t.keys r a h) [ inl e ↦ inl (ap row.Key (sym e)) | inr was ↦ inr was ]
keys_put t (row.Pending r) a h = inr h
keys_put t (row.Machine r) a h = inr h
keys_put t (row.Extras xs) a h = inr h
keys_put t (row.Policy text) a h = inr h

-- a pending entry's row after one put
pending_put : (t : Rows) (x : Row) (a : Pending) → Contains (put t x).pending a → (x ≡ row.Pending a) ⊎ Contains t.pending a
pending_put t (row.User r) a h = inr h
pending_put t (row.Key r) a h = inr h
pending_put t (row.Pending r) a h = elim (put_member (λ (y : Pending). y.id) t.pending r a h) [ inl e ↦ inl (ap row.Pending (sym e)) | inr was ↦ inr was ]
pending_put t (row.Machine r) a h = inr h
pending_put t (row.Extras xs) a h = inr h
pending_put t (row.Policy text) a h = inr h

-- a machine's row after one put
pub machines_put : (t : Rows) (x : Row) (a : Machine) → Contains (put t x).machines a → (x ≡ row.Machine a) ⊎ Contains t.machines a
machines_put t (row.User r) a h = inr h
machines_put t (row.Key r) a h = inr h
machines_put t (row.Pending r) a h = inr h
machines_put t (row.Machine r) a h = elim (put_member (λ (y : Machine). y.id) t.machines r a h) [ inl e ↦ inl (ap row.Machine (sym e)) | inr was ↦ inr was ]
machines_put t (row.Extras xs) a h = inr h
machines_put t (row.Policy text) a h = inr h

users_left : (t : Rows) (ks : List RowKey) (a : User) → Contains (take_all_out t ks).users a → Contains t.users a
users_left t [] a h = h
users_left t (gone.User id ∷ ks) a h = (without_member (λ (y : User). y.id) t.users id a (users_left (take_out t (gone.User id)) ks a h)).0
users_left t (gone.Key id ∷ ks) a h = users_left (take_out t (gone.Key id)) ks a h
users_left t (gone.Pending id ∷ ks) a h = users_left (take_out t (gone.Pending id)) ks a h
users_left t (gone.Machine id ∷ ks) a h = users_left (take_out t (gone.Machine id)) ks a h

pending_left : (t : Rows) (ks : List RowKey) (a : Pending) → Contains (take_all_out t ks).pending a → Contains t.pending a
pending_left t [] a h = h
pending_left t (gone.User id ∷ ks) a h = pending_left (take_out t (gone.User id)) ks a h
pending_left t (gone.Key id ∷ ks) a h = pending_left (take_out t (gone.Key id)) ks a h
pending_left t (gone.Pending id ∷ ks) a h = (without_member (λ (y : Pending). y.id) t.pending id a (pending_left (take_out t (gone.Pending id)) ks a h)).0
pending_left t (gone.Machine id ∷ ks) a h = pending_left (take_out t (gone.Machine id)) ks a h

-- from rows that were there, and rows that are put
module _ (t : Rows) (keys : AuthKey → Type 0) (enters : MachineKey → Type 0) where
  users_came : (u : Rows) (xs : List Row) → ArePut t keys enters xs → (a : User) → Contains (put_all u xs).users a → IsPut t keys enters (row.User a) ⊎ Contains u.users a
  users_came u [] puts a h = inr h
  users_came u (x ∷ xs) puts a h =
      elim (users_came (put u x) xs puts.1 a h) [
        | inl new ↦ inl new
        | inr rest ↦ elim (users_put u x a rest) [ inl e ↦ inl (subst (IsPut t keys enters) e puts.0) | inr was ↦ inr was ]
      ]

  keys_came : (u : Rows) (xs : List Row) → ArePut t keys enters xs → (a : AuthKey) → Contains (put_all u xs).keys a → IsPut t keys enters (row.Key a) ⊎ Contains u.keys a
  keys_came u [] puts a h = inr h
  keys_came u (x ∷ xs) puts a h =
      elim (keys_came (put u x) xs puts.1 a h) [
        | inl new ↦ inl new
        | inr rest ↦ elim (keys_put u x a rest) [ inl e ↦ inl (subst (IsPut t keys enters) e puts.0) | inr was ↦ inr was ]
      ]

  pending_came : (u : Rows) (xs : List Row) → ArePut t keys enters xs → (a : Pending) → Contains (put_all u xs).pending a → IsPut t keys enters (row.Pending a) ⊎ Contains u.pending a
  pending_came u [] puts a h = inr h
  pending_came u (x ∷ xs) puts a h =
      elim (pending_came (put u x) xs puts.1 a h) [
        | inl new ↦ inl new
        | inr rest ↦ elim (pending_put u x a rest) [ inl e ↦ inl (subst (IsPut t keys enters) e puts.0) | inr was ↦ inr was ]
      ]

  machines_came : (u : Rows) (xs : List Row) → ArePut t keys enters xs → (a : Machine) → Contains (put_all u xs).machines a → IsPut t keys enters (row.Machine a) ⊎ Contains u.machines a
  machines_came u [] puts a h = inr h
  machines_came u (x ∷ xs) puts a h =
      elim (machines_came (put u x) xs puts.1 a h) [
        | inl new ↦ inl new
        | inr rest ↦ elim (machines_put u x a rest) [ inl e ↦ inl (subst (IsPut t keys enters) e puts.0) | inr was ↦ inr was ]
      ]

-- Each row was there, or is one that may be put.
pub record Grown (t : Rows) (made : AuthKey → Type 0) (enters : MachineKey → Type 0) (u : Rows) : Type 0 where
  pub users : (a : User) → Contains u.users a → (a.id ≡ t.next.user) ⊎ Contains t.users a
  pub keys : (a : AuthKey) → Contains u.keys a → made a ⊎ Contains t.keys a
  pub pending : (a : Pending) → Contains u.pending a → (a.id ≡ t.next.pending) ⊎ Contains t.pending a
  pub machines : (a : Machine) → Contains u.machines a → IsMachinePut t enters a ⊎ Contains t.machines a

-- a row that is put, or one that was left
left_or : {A : Type 0} (P Q R : A → Type 0) (a : A) → ((x : A) → Q x → R x) → P a ⊎ Q a → P a ⊎ R a
left_or P Q R a f (inl p) = inl p
left_or P Q R a f (inr q) = inr (f a q)

pub after_grown : (t : Rows) (keys : AuthKey → Type 0) (enters : MachineKey → Type 0) (c : Change) → ArePut t keys enters c.puts → Grown t keys enters (after t c)
after_grown t keys enters c puts =
    let u = take_all_out t c.gone in
    record {
      users = λ a h. left_or (λ (x : User). x.id ≡ t.next.user) (Contains u.users) (Contains t.users) a (λ x. users_left t c.gone x) (users_came t keys enters u c.puts puts a h);
      keys = λ a h. left_or keys (Contains u.keys) (Contains t.keys) a (λ x in'. (key_left t c.gone x in').0) (keys_came t keys enters u c.puts puts a h);
      pending = λ a h. left_or (λ (x : Pending). x.id ≡ t.next.pending) (Contains u.pending) (Contains t.pending) a (λ x. pending_left t c.gone x) (pending_came t keys enters u c.puts puts a h);
      machines = λ a h. left_or (IsMachinePut t enters) (Contains u.machines) (Contains t.machines) a (λ x. machine_left t c.gone x) (machines_came t keys enters u c.puts puts a h);
    }

pub same_grown : (t : Rows) (keys : AuthKey → Type 0) (enters : MachineKey → Type 0) → Grown t keys enters t
same_grown t keys enters = record { users = λ a h. inr h; keys = λ a h. inr h; pending = λ a h. inr h; machines = λ a h. inr h }

pub rows_grown : (t : Rows) (keys : AuthKey → Type 0) (enters : MachineKey → Type 0) (c : Option Change)
    → ((x : Change) → c ≡ Some x → ArePut t keys enters x.puts) → Grown t keys enters (rows_after t c)
rows_grown t keys enters None puts = same_grown t keys enters
rows_grown t keys enters (Some c) puts = after_grown t keys enters c (puts c refl)

-- weaker
pub grown_more : (t : Rows) (keys keys' : AuthKey → Type 0) (enters enters' : MachineKey → Type 0) (u : Rows)
    → ((k : AuthKey) → keys k → keys' k) → ((mk : MachineKey) → enters mk → enters' mk) → Grown t keys enters u → Grown t keys' enters' u
grown_more t keys keys' enters enters' u f g h = record {
  users = h.users;
  keys = λ a inside. elim (h.keys a inside) [ inl new ↦ inl (f a new) | inr was ↦ inr was ];
  pending = h.pending;
  machines = λ a inside. elim (h.machines a inside) [
    | inl new ↦ elim new [ inl entry ↦ inl (inl (entry.0, g a.machine entry.1)) | inr kept ↦ inl (inr kept) ]
    | inr was ↦ inr was
  ];
}
