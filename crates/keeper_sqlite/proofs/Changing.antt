-- Readable rows stay readable where a readable change leaves sound ones.
use Rattle.std.proofs.Common.{◌≡◌, Bool, true, false, cond, not, List, [], ◌∷◌, ℕ, nat_eq, nat_lt, None, IfSome, IsTrue, filter, refl, sym, ap, subst, ◌∙◌, Result, Ok, Err, OnOk, OnErr}
use Rattle.std.specs.Prelude.{Contains}
use Rattle.std.specs.List.{AllByRecursion}
use Rattle.std.specs.Option.{option_map}
use Rattle.std.specs.Str.{is_utf8}
use Rattle.std.specs.Bool.{beq}
use Rattle.std.proofs.lemmas.Bool.{and_parts}
use Rattle.io_edge.specs.Edge.{StillTells}
use Rattle.net_addr.specs.Blocks.{holds}
use Rattle.net_addr.specs.Tailnet.{tailnet_v4, tailnet_v6}
use Rattle.net_rows.specs.Damage.{damage}
use Rattle.net_rows.specs.Rows.{after, put, put_all, take_all_out, take_out}
use Rattle.net_rows.specs.Shelf.{put_row}
use Rattle.net_rows.specs.declared.change.Change.{Change}
use Rattle.net_rows.specs.declared.change.Row.{Row}
use Rattle.net_rows.specs.declared.change.Row.TheVariants as row
use Rattle.net_rows.specs.declared.change.RowKey.{RowKey}
use Rattle.net_rows.specs.declared.change.RowKey.TheVariants as key
use Rattle.net_rows.specs.declared.machine.Machine.{Machine}
use Rattle.net_rows.specs.declared.rows.Rows.{Rows}
use Rattle.net_rows.proofs.Members.{first_member, rest_member}
use Rattle.net_rows.proofs.Sounds.{sound_of}
use Rattle.sqlite.specs.Effect.{Database}
use Rattle.sqlite.specs.State.{HasCleanDisk, State}
use Rattle.store_commits.specs.Kept.{Makes}
use Rattle.store_commits.specs.Pending.{Leaves}
use Rattle.store_rows.specs.Readable.{AreReadable, HasFamilies, IsReadable, IsReadableChange, IsReadableExtra, IsReadableMachine, IsReadableRow}
use Rattle.store_rows.specs.Rows.{IsTypedCounters, IsTypedKey, IsTypedMachine, IsTypedPending, IsTypedUser, auth_key_cells, machine_cells, pending_cells, user_cells}
use Rattle.store_loads.specs.Tells.{Holds, IsKnown}
use Rattle.store_loads.specs.Told.{store_tells}
use Rattle.store_loads.proofs.Loading.{still}
use Rattle.store_loads.proofs.Telling.{holds_told, same_told, told_is}

-- what holds of all rows but the families of addresses
record AreWritten (rows : Rows) : Type 0 where
  next : IsTypedCounters rows.next
  users : AllByRecursion (IsReadable user_cells IsTypedUser) rows.users
  keys : AllByRecursion (IsReadable auth_key_cells IsTypedKey) rows.keys
  pending : AllByRecursion (IsReadable pending_cells IsTypedPending) rows.pending
  machines : AllByRecursion IsReadableMachine rows.machines
  extras : AllByRecursion IsReadableExtra rows.extras
  policy : IfSome rows.policy (λ body. is_utf8 body ≡ true)

all_put : {T : Type 0} (P : T → Type 0) (id : T → ℕ) (xs : List T) (x : T) → AllByRecursion P xs → P x → AllByRecursion P (put_row id xs x)
all_put P id [] x all one = (one, tt)
all_put {T} P id (y ∷ ys) x all one = go (nat_eq (id y) (id x)) (nat_lt (id y) (id x)) (all_put P id ys x all.1 one)
  where
    go : (same less : Bool) → AllByRecursion P (put_row id ys x) → AllByRecursion P (cond same (x ∷ ys) (cond less (y ∷ put_row id ys x) (x ∷ y ∷ ys)))
    go true less more = (one, all.1)
    go false true more = (all.0, more)
    go false false more = (one, all)

all_kept : {T : Type 0} (P : T → Type 0) (p : T → Bool) (xs : List T) → AllByRecursion P xs → AllByRecursion P (filter p xs)
all_kept P p [] all = tt
all_kept {T} P p (y ∷ ys) all = go (p y) (all_kept P p ys all.1)
  where
    go : (b : Bool) → AllByRecursion P (filter p ys) → AllByRecursion P (cond b (y ∷ filter p ys) (filter p ys))
    go true more = (all.0, more)
    go false more = more

written_put : (t : Rows) (x : Row) → AreWritten t → IsReadableRow x → AreWritten (put t x)
written_put t (row.User x) was one = record { next = was.next; users = all_put _ (λ r. r.id) t.users x was.users one; keys = was.keys; pending = was.pending; machines = was.machines; extras = was.extras; policy = was.policy }
written_put t (row.Key x) was one = record { next = was.next; users = was.users; keys = all_put _ (λ r. r.id) t.keys x was.keys one; pending = was.pending; machines = was.machines; extras = was.extras; policy = was.policy }
written_put t (row.Pending x) was one = record { next = was.next; users = was.users; keys = was.keys; pending = all_put _ (λ r. r.id) t.pending x was.pending one; machines = was.machines; extras = was.extras; policy = was.policy }
written_put t (row.Machine x) was one = record { next = was.next; users = was.users; keys = was.keys; pending = was.pending; machines = all_put IsReadableMachine (λ r. r.id) t.machines x was.machines one; extras = was.extras; policy = was.policy }
written_put t (row.Extras xs) was one = record { next = was.next; users = was.users; keys = was.keys; pending = was.pending; machines = was.machines; extras = one; policy = was.policy }
written_put t (row.Policy text) was one = record { next = was.next; users = was.users; keys = was.keys; pending = was.pending; machines = was.machines; extras = was.extras; policy = one }

written_out : (t : Rows) (k : RowKey) → AreWritten t → AreWritten (take_out t k)
written_out t (key.User id) was = record { next = was.next; users = all_kept _ (λ x. not (nat_eq x.id id)) t.users was.users; keys = was.keys; pending = was.pending; machines = was.machines; extras = was.extras; policy = was.policy }
written_out t (key.Key id) was = record { next = was.next; users = was.users; keys = all_kept _ (λ x. not (nat_eq x.id id)) t.keys was.keys; pending = was.pending; machines = was.machines; extras = was.extras; policy = was.policy }
written_out t (key.Pending id) was = record { next = was.next; users = was.users; keys = was.keys; pending = all_kept _ (λ x. not (nat_eq x.id id)) t.pending was.pending; machines = was.machines; extras = was.extras; policy = was.policy }
written_out t (key.Machine id) was = record { next = was.next; users = was.users; keys = was.keys; pending = was.pending; machines = all_kept IsReadableMachine (λ x. not (nat_eq x.id id)) t.machines was.machines; extras = was.extras; policy = was.policy }

written_all_put : (t : Rows) (xs : List Row) → AreWritten t → AllByRecursion IsReadableRow xs → AreWritten (put_all t xs)
written_all_put t [] was all = was
written_all_put t (x ∷ xs) was all = written_all_put (put t x) xs (written_put t x was all.0) all.1

written_all_out : (t : Rows) (ks : List RowKey) → AreWritten t → AreWritten (take_all_out t ks)
written_all_out t [] was = was
written_all_out t (k ∷ ks) was = written_all_out (take_out t k) ks (written_out t k was)

written_after : (t : Rows) (change : Change) → AreWritten t → IsReadableChange change → AreWritten (after t change)
written_after t change was good =
    let it = written_all_put (take_all_out t change.gone) change.puts (written_all_out t change.gone was) good.puts in
    record { next = good.next; users = it.users; keys = it.keys; pending = it.pending; machines = it.machines; extras = it.extras; policy = it.policy }

any_families : (ms : List Machine) → AllByRecursion (IsReadable machine_cells IsTypedMachine) ms → AllByRecursion IsReadableMachine ms
any_families [] all = tt
any_families (m ∷ ms) all = ((λ families. all.0), any_families ms all.1)

same_family : (a b : Bool) → beq a b ≡ true → b ≡ a
same_family true true h = refl
same_family true false h = absurd (cc (h))
same_family false true h = absurd (cc (h))
same_family false false h = refl

-- addresses of the tailnet have the families
families_of : (m : Machine) → holds tailnet_v4 m.v4 ≡ true → holds tailnet_v6 m.v6 ≡ true → HasFamilies m
families_of m v4 v6 = record {
  v4 = same_family false m.v4.v6 (and_parts _ _ (and_parts _ _ v4).0).0;
  v6 = same_family true m.v6.v6 (and_parts _ _ (and_parts _ _ v6).0).0;
}

with_families : (ms : List Machine) → ((m : Machine) → Contains ms m → HasFamilies m) → AllByRecursion IsReadableMachine ms → AllByRecursion (IsReadable machine_cells IsTypedMachine) ms
with_families [] families all = tt
with_families (m ∷ ms) families all = (all.0 (families m (first_member m ms)), with_families ms (λ x there. families x (rest_member m ms x there)) all.1)

-- what a change makes of readable rows is readable, where it is sound
pub readable_after : (t : Rows) (change : Change) → AreReadable t → IsReadableChange change → damage (after t change) ≡ None → AreReadable (after t change)
readable_after t change was good none =
    let first : AreWritten t = record { next = was.next; users = was.users; keys = was.keys; pending = was.pending; machines = any_families t.machines was.machines; extras = was.extras; policy = was.policy } in
    let it = written_after t change first good in
    let sound = sound_of (after t change) none in
    record {
      next = it.next;
      users = it.users;
      keys = it.keys;
      pending = it.pending;
      machines = with_families (after t change).machines (λ m there. families_of m (sound.machines.keeps m there).v4 (sound.machines.keeps m there).v6) it.machines;
      extras = it.extras;
      policy = it.policy;
    }

-- ---- a commit

held_after : (old new : State) (change : Change) (rows : Rows) → Holds old.now rows → Makes old.now new.now (λ rows. after rows change) → IsReadableChange change → damage (after rows change) ≡ None → Holds new.now (after rows change)
held_after old new change rows holds makes good none = record { keeps = makes rows holds.keeps; readable = readable_after rows change holds.readable good none; sound = none }

-- what the store tells is sound after the change
sound_told : (old : State) (change : Change) (rows : Rows) → HasCleanDisk old → IsTrue old.is_open → Holds old.now rows → IfSome (store_tells old) (λ r. damage (after r change) ≡ None) → damage (after rows change) ≡ None
sound_told old change rows clean opened holds h = subst (λ o. IfSome o (λ r. damage (after r change) ≡ None)) (holds_told old rows clean opened holds) h

-- an Ok leaves the rows after the change
pub known_ok : (old new : State) (change : Change) → (HasCleanDisk new → HasCleanDisk old) → (HasCleanDisk new → IsTrue new.is_open → IsTrue old.is_open) → IsKnown old → IfSome (store_tells old) (λ r. damage (after r change) ≡ None)
    → (HasCleanDisk new → Makes old.now new.now (λ rows. after rows change)) → IsReadableChange change → IsKnown new
known_ok old new change clean opened known sound makes good now open_now =
    let early = clean now in
    let was = opened now open_now in
    let it = known early was in
    let none = sound_told old change it.0 early was it.1 sound in
    (after it.0 change, held_after old new change it.0 it.1 (makes now) good none)

pub still_ok : (old new : State) (change : Change) → (HasCleanDisk new → HasCleanDisk old) → (HasCleanDisk new → IsTrue new.is_open → IsTrue old.is_open) → IsKnown old → IfSome (store_tells old) (λ r. damage (after r change) ≡ None)
    → (HasCleanDisk new → Makes old.now new.now (λ rows. after rows change)) → IsReadableChange change → StillTells (option_map (λ rows. after rows change) (store_tells old)) (store_tells new)
still_ok old new change clean opened known sound makes good = still _ (store_tells new) (λ x h.
    let there = told_is new x h in
    let early = clean there.clean in
    let was = opened there.clean there.opened in
    let it = known early was in
    let none = sound_told old change it.0 early was it.1 sound in
    let held = held_after old new change it.0 it.1 (makes there.clean) good none in
    ap (option_map (λ rows. after rows change)) (holds_told old it.0 early was it.1) ∙ sym (holds_told new (after it.0 change) there.clean there.opened held) ∙ h)

-- an Err leaves what was told
pub still_err : (old new : State) → (HasCleanDisk new → HasCleanDisk old) → (HasCleanDisk new → IsTrue new.is_open → IsTrue old.is_open) → (HasCleanDisk new → Leaves old new) → StillTells (store_tells old) (store_tells new)
still_err old new clean opened leaves = still (store_tells old) (store_tells new) (λ x h.
    let there = told_is new x h in
    same_told old new x (clean there.clean) (opened there.clean there.opened) (leaves there.clean there.opened) h)

pub known_err : (old new : State) → (HasCleanDisk new → HasCleanDisk old) → (HasCleanDisk new → IsTrue new.is_open → IsTrue old.is_open) → (HasCleanDisk new → Leaves old new) → IsKnown old → IsKnown new
known_err old new clean opened leaves known now open_now =
    let it = known (clean now) (opened now open_now) in
    (it.0, subst (λ (d : Database). Holds d it.0) (sym (leaves now open_now)) it.1)

-- whatever the answer
pub known_after : {X E : Type 0} (old new : State) (change : Change) (r : Result X E) → (HasCleanDisk new → HasCleanDisk old) → (HasCleanDisk new → IsTrue new.is_open → IsTrue old.is_open) → IfSome (store_tells old) (λ rows. damage (after rows change) ≡ None)
    → (HasCleanDisk new → OnOk r (Makes old.now new.now (λ rows. after rows change))) → (HasCleanDisk new → OnErr r (Leaves old new)) → OnOk r (IsReadableChange change) → IsKnown old → IsKnown new
known_after old new change (Ok x) clean opened sound makes leaves good known = known_ok old new change clean opened known sound makes good
known_after old new change (Err e) clean opened sound makes leaves good known = known_err old new clean opened leaves known
