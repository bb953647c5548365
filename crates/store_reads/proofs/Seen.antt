-- Readings, one behind the other.
use Rattle.std.proofs.Common.{◌≡◌, ℕ, Bool, true, List, [], Ok, Err, Result, is_ok, IfOk, IfErr, IsTrue, inl, inr, refl, sym, ap, subst, ◌∙◌, arith}
use Rattle.std.proofs.lemmas.Bool.{true≢false}
use Rattle.sqlite_value.specs.Order.{Row}
use Rattle.sqlite.specs.declared.error.Error.{Error}
use Rattle.net_rows.specs.declared.rows.Rows.{Rows}
use Rattle.sqlite_schema.specs.declared.schema.Schema.{Schema}
use Rattle.sqlite.specs.Effect.{Database, IsDatabase}
use Rattle.sqlite.specs.Listing.{understood}
use Rattle.sqlite.specs.State.{State, HasCleanDisk, IsLive, Survives, Shown, CommitsShowing, FailsToQuery, IsNotRun, IsRolledBack, IsUnchanged}
use Rattle.sqlite.specs.Tree.{Trees}
use Rattle.sqlite.proofs.Callers.{IsPlain}
use Rattle.sqlite.proofs.StateLemmas.{survives_then}
use Rattle.store_commits.specs.Kept.{Keeps}
use Rattle.store_sql.specs.Schema.{schema_1}
use Rattle.store_reads.specs.Seen.{IsSeen, StaysOpen}

-- a text without RETURNING that showed rows left what the database shows
shown_same : (text : List ℕ) (old new : State) (rows : List Row) → IsPlain (understood old.now.schema text) → Shown text [] old new rows → new.now ≡ old.now
unfolding Shown
shown_same text old new rows plain h =
    let bare = subst IsPlain h.1.is plain in
    (rw bare.0 at h.2).3.0.now_is

-- and it stays as it was
pub shown_unchanged : (text : List ℕ) (old new : State) (rows : List Row) → IsPlain (understood old.now.schema text) → Shown text [] old new rows → StaysOpen old new
unfolding Shown
shown_unchanged text old new rows plain h =
    let bare = subst IsPlain h.1.is plain in
    let same = (rw bare.0 at h.2).3.0 in
    record { was_open = same.was_open; committed = same.committed_is; shows = inl same.now_is }

unchanged : (old new : State) → IsUnchanged old new → StaysOpen old new
unchanged old new same = record { was_open = same.0.was_open; committed = same.0.committed_is; shows = inl same.0.now_is }

rolled_back : (old new : State) → IsRolledBack old new → IsTrue new.is_open → StaysOpen old new
rolled_back old new back opened = record { was_open = back.was_open opened; committed = (back.undone opened).1; shows = inr (back.undone opened).0 }

-- a text without RETURNING that failed left it so, or undid what was not committed
failed_unchanged : (text : List ℕ) (old new : State) (e : Error) → IsPlain (understood old.now.schema text) → FailsToQuery text [] old new e → IsTrue new.is_open → StaysOpen old new
unfolding FailsToQuery IsNotRun
failed_unchanged text old new e plain (inl (inl not_run)) opened = unchanged old new not_run.1
failed_unchanged text old new e plain (inl (inr fails)) opened = rolled_back old new fails.3 opened
failed_unchanged text old new e plain (inr h) opened =
    let bare = subst IsPlain h.1.is plain in
    unchanged old new (rw bare.0 at h.2).3

-- nor may it commit
commits_nothing : (text : List ℕ) (old : State) (db : Trees) → IsPlain (understood old.now.schema text) → CommitsShowing text [] old db → ⊥
unfolding CommitsShowing
commits_nothing text old db plain h =
    let bare = subst IsPlain h.1.is plain in
    true≢false (sym (rw bare.0 at h.2))

-- what a query without RETURNING leaves
pub seen_by : (schema : Schema) (text : List ℕ) (old new : State) (r : Result (List Row) Error) → IsPlain (understood schema text)
    → (HasCleanDisk new → IfOk r (λ rows. Shown text [] old new rows)) → (HasCleanDisk new → IfErr r (λ e. FailsToQuery text [] old new e)) → Survives old new (CommitsShowing text [] old)
    → IsSeen schema old new (is_ok r)
seen_by schema text old new r plain shown fails survives = record {
  clean = λ clean. omega (arith, survives.clean, clean);
  same = λ clean has done. same_if r (shown clean) (subst (λ s. IsPlain (understood s text)) (sym has) plain) done;
  stays = λ clean has. stays_if r (shown clean) (fails clean) (subst (λ s. IsPlain (understood s text)) (sym has) plain);
  survives = λ clean has. record {
    clean = survives.clean;
    shield = survives.shield;
    counts = survives.counts;
    limit = survives.limit;
    closes = survives.closes;
    crash = λ clean' db may. elim (survives.crash clean' db may) [
      | inl before ↦ inl before
      | inr made ↦ absurd (commits_nothing text old db (subst (λ s. IsPlain (understood s text)) (sym has) plain) made)
    ];
  };
}
  where
    same_if : (q : Result (List Row) Error) → IfOk q (λ rows. Shown text [] old new rows) → IsPlain (understood old.now.schema text) → IsTrue (is_ok q) → new.now ≡ old.now
    same_if (Ok rows) h here done = shown_same text old new rows here h
    same_if (Err e) h here done = absurd cc

    stays_if : (q : Result (List Row) Error) → IfOk q (λ rows. Shown text [] old new rows) → IfErr q (λ e. FailsToQuery text [] old new e) → IsPlain (understood old.now.schema text) → IsTrue new.is_open → StaysOpen old new
    stays_if (Ok rows) h fails here opened = shown_unchanged text old new rows here h
    stays_if (Err e) h fails here opened = failed_unchanged text old new e here fails opened

-- before the first reading
pub seen_none : (schema : Schema) (s : State) (done : Bool) → IsSeen schema s s done
seen_none schema s done = record {
  clean = λ clean. clean;
  same = λ _ _ _. refl;
  stays = λ _ _ opened. record { was_open = opened; committed = refl; shows = inl refl };
  survives = λ _ _. record { clean = omega arith; shield = λ h. h; counts = omega arith; limit = refl; closes = λ _ o. inl o; crash = λ _ db left. inl left };
}

-- what comes behind a reading that went well
pub seen_then : (schema : Schema) (a b c : State) (done : Bool) → IsSeen schema a b true → IsSeen schema b c done → IsSeen schema a c done
seen_then schema a b c done one two =
    let mid : HasCleanDisk c → a.now.schema ≡ schema → b.now ≡ a.now = λ clean has. one.same (two.clean clean) has refl in
    let there : HasCleanDisk c → a.now.schema ≡ schema → b.now.schema ≡ schema = λ clean has. ap (λ d. d.schema) (mid clean has) ∙ has in
    record {
      clean = λ clean. one.clean (two.clean clean);
      same = λ clean has so. two.same clean (there clean has) so ∙ mid clean has;
      stays = λ clean has opened.
          let second = two.stays clean (there clean has) opened in
          let first = one.stays (two.clean clean) has second.was_open in
          record {
            was_open = first.was_open;
            committed = second.committed ∙ first.committed;
            shows = elim second.shows [ inl now ↦ inl (now ∙ mid clean has) | inr back ↦ inr (back ∙ first.committed) ];
          };
      survives = λ clean has. survives_then a b c _ _ (λ _. ⊥) (λ _ db none. none) (λ _ db none. none) (one.survives (two.clean clean) has) (two.survives clean (there clean has));
    }

-- of a reading whose answer didn't serve
pub seen_less : (schema : Schema) (a b : State) (done : Bool) → IsSeen schema a b true → IsSeen schema a b done
seen_less schema a b done seen = record { clean = seen.clean; same = λ clean has _. seen.same clean has refl; stays = seen.stays; survives = seen.survives }

-- and it is a sound database still, if it is open
pub live_seen : (a b : State) → IsSeen schema_1 a b true → HasCleanDisk b → a.now.schema ≡ schema_1 → IsLive a → IsLive b
live_seen a b seen clean has live opened =
    let stays = seen.stays clean has opened in
    let sound = live stays.was_open in
    (subst IsDatabase (sym (seen.same clean has refl)) sound.0, subst IsDatabase (sym stays.committed) sound.1)

-- what a database keeps once it was read
pub keeps_seen : (a b : State) (rows : Rows) → IsSeen schema_1 a b true → HasCleanDisk b → Keeps a.now rows → Keeps b.now rows
keeps_seen a b rows seen clean keeps = subst (λ (d : Database). Keeps d rows) (sym (seen.same clean keeps.schema refl)) keeps
