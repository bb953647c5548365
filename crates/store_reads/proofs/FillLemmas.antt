-- Readings, one behind the other, find what stands in the database that the first was given.
use Rattle.std.proofs.Common.{◌≡◌, ℕ, true, List, Option, Some, Result, Err, IfErr, refl, sym, ap, subst, ◌∙◌}
use Rattle.net_rows.specs.Damage.{damage}
use Rattle.net_rows.specs.declared.change.Counters.{Counters}
use Rattle.net_rows.specs.declared.change.Damage.{Damage}
use Rattle.net_rows.specs.declared.change.Kind.TheVariants as kind
use Rattle.net_rows.specs.declared.key.AuthKey.{AuthKey}
use Rattle.net_rows.specs.declared.machine.Machine.{Machine}
use Rattle.net_rows.specs.declared.pending.Pending.{Pending}
use Rattle.net_rows.specs.declared.rows.Rows.{Rows}
use Rattle.net_rows.specs.declared.user.User.{User}
use Rattle.row_keeper.specs.declared.keeper.LoadFault.{LoadFault}
use Rattle.sqlite.specs.Effect.{Database}
use Rattle.sqlite.specs.State.{HasCleanDisk, IsLive, State}
use Rattle.sqlite_trees.specs.Tree.{Trees}
use Rattle.store_commits.specs.Kept.{Keeps}
use Rattle.store_rows.specs.Reading.{auth_key_of, machine_in_cells, pending_in_cells, user_in_cells}
use Rattle.store_sql.specs.Schema.{schema_1}
use Rattle.store_reads.specs.Damages.{IsFoundIn, NamesDamage, WhereOurs, first_unread, unless_read}
use Rattle.store_reads.specs.Readable.{Fills, IsOutside}
use Rattle.store_reads.specs.Seen.{IsSeen}
use Rattle.store_reads.specs.Values.{extras_in, policy_in_rows, values_in}
use Rattle.store_reads.proofs.Seen.{live_seen}
use Rattle.tailcfg.specs.declared.dns.DnsExtra.{DnsExtra}

-- so far the store shows what it showed, under our schema
pub record Stands (old here : State) : Type 0 where
  pub same : here.now ≡ old.now
  pub has : here.now.schema ≡ schema_1
  pub live : IsLive old → IsLive here

pub stands_first : (old : State) → old.now.schema ≡ schema_1 → Stands old old
stands_first old has = record { same = refl; has = has; live = λ live. live }

pub stands_then : (old here new : State) → Stands old here → IsSeen schema_1 here new true → HasCleanDisk new → Stands old new
stands_then old here new stands seen clean =
    let same = seen.same clean stands.has refl in
    record { same = same ∙ stands.same; has = ap (λ (d : Database). d.schema) same ∙ stands.has; live = λ live. live_seen here new seen clean stands.has (stands.live live) }

pub found_at : (F : Database → Type 0) (old here new : State) → Stands old here → WhereOurs here new (F here.now) → HasCleanDisk new → IsLive old → F old.now
found_at F old here new stands finds clean live = subst F stands.same (finds clean stands.has (stands.live live))

pub kept_at : (old here : State) (rows : Rows) → Stands old here → Keeps old.now rows → Keeps here.now rows
kept_at old here rows stands keeps = subst (λ (d : Database). Keeps d rows) (sym stands.same) keeps

-- ---- what may be found behind each tree

abbrev pub after_policy : Counters → List User → List AuthKey → List Pending → List Machine → List DnsExtra → Option (List ℕ) → Damage → Type 0
after_policy next users keys pending machines extras policy d =
    damage (record { users = users; keys = keys; pending = pending; machines = machines; extras = extras; policy = policy; next = next }) ≡ Some d

abbrev pub after_extras : Trees → Counters → List User → List AuthKey → List Pending → List Machine → List DnsExtra → Damage → Type 0
after_extras trees next users keys pending machines extras = IsFoundIn policy_in_rows (unless_read kind.Policy policy_in_rows) (trees 15) (after_policy next users keys pending machines extras)

abbrev pub after_machines : Trees → Counters → List User → List AuthKey → List Pending → List Machine → Damage → Type 0
after_machines trees next users keys pending machines = IsFoundIn (extras_in 1) (unless_read kind.Extras (extras_in 1)) (trees 14) (after_extras trees next users keys pending machines)

abbrev pub after_pending : Trees → Counters → List User → List AuthKey → List Pending → Damage → Type 0
after_pending trees next users keys pending = IsFoundIn (values_in machine_in_cells) (first_unread kind.Machine machine_in_cells) (trees 8) (after_machines trees next users keys pending)

abbrev pub after_keys : Trees → Counters → List User → List AuthKey → Damage → Type 0
after_keys trees next users keys = IsFoundIn (values_in pending_in_cells) (first_unread kind.Pending pending_in_cells) (trees 5) (after_pending trees next users keys)

abbrev pub after_users : Trees → Counters → List User → Damage → Type 0
after_users trees next users = IsFoundIn (values_in auth_key_of) (first_unread kind.Key auth_key_of) (trees 3) (after_keys trees next users)

abbrev pub after_next : Trees → Counters → Damage → Type 0
after_next trees next = IsFoundIn (values_in user_in_cells) (first_unread kind.User user_in_cells) (trees 1) (after_users trees next)

-- ---- answers

pub err_names : {X : Type 0} (P : Damage → Type 0) (r : Result X LoadFault) (e : LoadFault) → r ≡ Err e → NamesDamage P e → IfErr r (NamesDamage P)
err_names {X} P r e same h = subst (λ (q : Result X LoadFault). IfErr q (NamesDamage P)) (sym same) h

pub fills_outside : {X : Type 0} (P : Type 0) (r : Result X LoadFault) (e : LoadFault) → r ≡ Err e → IsOutside e → Fills r P
fills_outside {X} P r e same h = subst (λ (q : Result X LoadFault). Fills q P) (sym same) h

pub rows_same : (all : Rows) (next : Counters) (users : List User) (keys : List AuthKey) (pending : List Pending) (machines : List Machine) (extras : List DnsExtra) (policy : Option (List ℕ))
    → next ≡ all.next → users ≡ all.users → keys ≡ all.keys → pending ≡ all.pending → machines ≡ all.machines → extras ≡ all.extras → policy ≡ all.policy
    → ◌≡◌ {A = Rows} (record { users = users; keys = keys; pending = pending; machines = machines; extras = extras; policy = policy; next = next }) all
rows_same all next users keys pending machines extras policy a b c d e f g = rw (a, b, c, d, e, f, g) refl
