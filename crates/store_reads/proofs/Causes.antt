-- Why a query of our tables fails: nothing in the tables can refuse it.
use Rattle.std.proofs.Common.{◌≡◌, ℕ, Any, Bool, true, List, [], Ok, Err, Result, IfErr, IsSome, append-nil, inl, inr, length, refl, sym, ap, subst, subst₂, ◌∙◌, arith}
use Rattle.std.proofs.lemmas.Bool.{cases_Bool, true≢false}
use Rattle.std.proofs.lemmas.Bool.Decides.{nat_tests}
use Rattle.row_keeper.specs.declared.keeper.LoadFault.{LoadFault}
use Rattle.row_keeper.specs.declared.keeper.LoadFault.TheVariants.{Failed, Damaged, NoMemory}
use Rattle.sqlite.specs.declared.error.Error.{Error}
use Rattle.sqlite.specs.Effect.{RefusesToRead}
use Rattle.sqlite.specs.Listing.{IsSourceOf, reads_listing, understood}
use Rattle.sqlite.specs.State.{State, HasCleanDisk, Fails, FailsToQuery, IsNoStatement, IsNotRun, store_error}
use Rattle.sqlite.specs.State as Sqlite
use Rattle.sqlite.proofs.Callers.{IsPlain, command_of}
use Rattle.sqlite_schema.specs.declared.command.Command.TheVariants.{Select}
use Rattle.sqlite_sql.specs.Term.{Term}
use Rattle.sqlite_tied.specs.Compute.{everything}
use Rattle.sqlite_typing.specs.Types.{accepts_program}
use Rattle.sqlite_trees.specs.declared.error.StoreError.{StoreError}
use Rattle.sqlite_trees.specs.declared.error.StoreError.TheVariants.{OutOfMemory, Io, Corrupt, Full, Broken, Unstorable}
use Rattle.store_commits.specs.Faults.{meaning_of}
use Rattle.store_commits.specs.declared.fault.Fault.{Fault}
use Rattle.store_commits.specs.declared.fault.Fault.TheVariants as fault
use Rattle.store_sql.specs.Commands.{all_by_id}
use Rattle.store_sql.specs.Means.{is_whole}
use Rattle.store_sql.specs.Schema.{schema_1}
use Rattle.store_sql.specs.declared.texts.TheConstants.{SELECT_AUTH_KEYS, SELECT_EXTRAS, SELECT_MACHINES, SELECT_META, SELECT_PENDING, SELECT_POLICY, SELECT_USERS}
use Rattle.store_sql.proofs.Selects.{select_auth_keys_means, select_extras_means, select_machines_means, select_meta_means, select_pending_means, select_policy_means, select_users_means}
use Rattle.store_reads.specs.Causes.{FailsOnlyFor, HasCause, IsCaused, ListsOurs, TakesNone, load_fault_of}
use Rattle.store_reads.specs.Seen.{IsSeen}

-- ---- the texts

pub meta_listed : ListsOurs SELECT_META.now
unfolding understood everything
meta_listed = record { tree = _; columns = _; names = _; means = select_meta_means; bare = refl; typed = refl }

pub users_listed : ListsOurs SELECT_USERS.now
unfolding understood everything
users_listed = record { tree = _; columns = _; names = _; means = select_users_means; bare = refl; typed = refl }

pub auth_keys_listed : ListsOurs SELECT_AUTH_KEYS.now
unfolding understood everything
auth_keys_listed = record { tree = _; columns = _; names = _; means = select_auth_keys_means; bare = refl; typed = refl }

pub pending_listed : ListsOurs SELECT_PENDING.now
unfolding understood everything
pending_listed = record { tree = _; columns = _; names = _; means = select_pending_means; bare = refl; typed = refl }

pub machines_listed : ListsOurs SELECT_MACHINES.now
unfolding understood everything
machines_listed = record { tree = _; columns = _; names = _; means = select_machines_means; bare = refl; typed = refl }

pub extras_listed : ListsOurs SELECT_EXTRAS.now
unfolding understood everything
extras_listed = record { tree = _; columns = _; names = _; means = select_extras_means; bare = refl; typed = refl }

pub policy_listed : ListsOurs SELECT_POLICY.now
unfolding understood everything
policy_listed = record { tree = _; columns = _; names = _; means = select_policy_means; bare = refl; typed = refl }

-- ---- why one fails

-- of a fault of the store that isn't memory's
store_failed : (old new : State) (e : Error) → Fails old new ⊥ e → meaning_of e ≡ fault.Failed → HasCause old new
store_failed old new e fails for = go fails.0 (subst (λ x. meaning_of x ≡ fault.Failed) fails.1 for) fails.2
  where
    go : (cause : StoreError) → meaning_of (store_error cause) ≡ fault.Failed → Sqlite.HasCause old new ⊥ cause → HasCause old new
    go OutOfMemory is h = absurd cc
    go Io is h = inl h
    go Corrupt is h = inl h
    go Full is h = inl h
    go Broken is h = inr (inl h)
    go Unstorable is h = absurd h

none_any : {X : Type 0} (xs : List X) → Any (λ x. ⊥) xs → ⊥
none_any xs h = h.4

-- each of these texts is a statement
is_statement : (text : List ℕ) (s : State) (e : Error) → ListsOurs text → s.now.schema ≡ schema_1 → IsNoStatement s text [] e → ⊥
is_statement text s e lists has (inl h) = subst IsPlain (ap (λ x. understood x text) (sym has) ∙ h.1) lists.means.plain
is_statement text s e lists has (inr h) =
    let known = ap (λ x. understood x text) (sym has) ∙ h.1 in
    let whole = subst (λ r. is_whole text r ≡ true) known lists.means.whole in
    let bare = subst TakesNone known lists.bare in
    let plain = subst IsPlain known lists.means.plain in
    elim h.2 [
      | inl more ↦ more.0 (grind (arith, nat_tests, whole))
      | inr (inl count) ↦ count.0 (sym (ap length bare))
      | inr (inr clock) ↦ clock.0 plain.1
    ]

-- what such a query is refused for
refused_for : (tree : ℕ) (columns : List Term) (names : List (List ℕ)) (old new : State) (e : Error) → accepts_program schema_1 [] (all_by_id tree columns) [] ≡ true → old.now.schema ≡ schema_1
    → RefusesToRead old.step_limit (Select (record { lets = []; body = all_by_id tree columns }) names) old.now [] e → HasCause old new
refused_for tree columns names old new e typed has (inl mistyped) =
    absurd (true≢false (sym typed ∙ ap (λ s. accepts_program s [] (all_by_id tree columns) []) (sym has) ∙ mistyped.1))
refused_for tree columns names old new e typed has (inr (inl sum)) = elim sum.1 [ inl group ↦ absurd group | inr row ↦ absurd (none_any _ row) ]
refused_for tree columns names old new e typed has (inr (inr steps)) = inr (inr steps.1)

-- of a query of a table of ours
pub query_failed : (text : List ℕ) (old new : State) (e : Error) → ListsOurs text → old.now.schema ≡ schema_1 → FailsToQuery text [] old new e → meaning_of e ≡ fault.Failed → HasCause old new
unfolding FailsToQuery IsNotRun
query_failed text old new e lists has (inl (inl not_run)) for = absurd (is_statement text old e lists has not_run.0)
query_failed text old new e lists has (inl (inr fails)) for = store_failed old new e fails for
query_failed text old new e lists has (inr h) for =
    let known = sym h.1.is ∙ ap (λ s. understood s text) has in
    let bare = subst IsPlain (sym known) lists.means.plain in
    let it = rw (bare.0, bare.1, append-nil []) at h.2 in
    let db : it.0 ≡ old.now = subst (λ b. IsSourceOf b old.now it.0) (ap (λ s. reads_listing s text) has ∙ lists.means.no_listing) it.1 in
    refused_for lists.tree lists.columns lists.names old new e lists.typed has
    (subst₂ (λ k d. RefusesToRead old.step_limit k d [] e) (ap command_of known ∙ lists.means.command_is) db it.2)

pub query_fails : (text : List ℕ) (old new : State) (e : Error) (f : Fault) → f ≡ meaning_of e → ListsOurs text → FailsToQuery text [] old new e → old.now.schema ≡ schema_1
    → FailsOnlyFor (HasCause old new) (load_fault_of f)
query_fails text old new e fault.Failed is lists fails has = query_failed text old new e lists has fails (sym is)
query_fails text old new e fault.NoMemory is lists fails has = tt

-- ---- one behind the other

-- a cause behind a reading that went well is one of both
pub cause_then : (a b c : State) (done : Bool) → IsSeen schema_1 a b true → IsSeen schema_1 b c done → HasCleanDisk c → a.now.schema ≡ schema_1 → HasCause b c → HasCause a c
cause_then a b c done one two clean has cause =
    let early = two.clean clean in
    let there : b.now.schema ≡ schema_1 = ap (λ d. d.schema) (one.same early has refl) ∙ has in
    let first = one.survives early has in
    let second = two.survives clean there in
    elim cause [
      | inl more ↦ inl (omega (arith, first.counts, more))
      | inr (inl shut) ↦ elim (cases_Bool a.is_open) [
        | inl opened ↦ elim (first.closes early opened) [ inl still ↦ absurd (true≢false (sym still ∙ shut)) | inr more ↦ inl (omega (arith, second.counts, more)) ]
        | inr closed ↦ inr (inl closed)
      ]
      | inr (inr steps) ↦ inr (inr (subst IsSome (first.limit) steps))
    ]

fails_then : (a b c : State) (done : Bool) (e : LoadFault) → IsSeen schema_1 a b true → IsSeen schema_1 b c done → HasCleanDisk c → a.now.schema ≡ schema_1
    → FailsOnlyFor (HasCause b c) e → FailsOnlyFor (HasCause a c) e
fails_then a b c done Failed one two clean has cause = cause_then a b c done one two clean has cause
fails_then a b c done (Damaged kind id) one two clean has cause = tt
fails_then a b c done NoMemory one two clean has cause = tt

-- so a reading behind it fails for a cause alone
pub caused_then : {X : Type 0} (a b c : State) (done : Bool) (r : Result X LoadFault) → IsSeen schema_1 a b true → IsSeen schema_1 b c done → IsCaused b c r → IsCaused a c r
caused_then a b c done (Ok x) one two caused clean has = tt
caused_then a b c done (Err e) one two caused clean has =
    fails_then a b c done e one two clean has (caused clean (ap (λ d. d.schema) (one.same (two.clean clean) has refl) ∙ has))

fails_less : (P : Type 0) (e : LoadFault) → FailsOnlyFor ⊥ e → FailsOnlyFor P e
fails_less P Failed h = absurd h
fails_less P (Damaged kind id) h = tt
fails_less P NoMemory h = tt

-- and so does what is made of the rows that were shown
pub caused_less : {X : Type 0} (a b : State) (r : Result X LoadFault) → IfErr r (FailsOnlyFor ⊥) → IsCaused a b r
caused_less a b (Ok x) h clean has = tt
caused_less a b (Err e) h clean has = fails_less (HasCause a b) e h
