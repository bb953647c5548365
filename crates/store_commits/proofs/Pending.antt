-- Statements within a transaction, one behind the other.
use Rattle.std.proofs.Common.{◌≡◌, ℕ, Bool, true, false, List, Ok, Err, Result, is_ok, IfOk, IsTrue, inl, inr, refl, sym, subst, ◌∙◌, arith}
use Rattle.std.proofs.lemmas.Bool.{cases_Bool, true≢false}
use Rattle.sqlite.specs.Order.{Row}
use Rattle.sqlite.specs.Store.{Ghosts}
use Rattle.sqlite.specs.declared.error.Error.{Error}
use Rattle.sqlite.specs.declared.error.Error.TheVariants.{SqliteFailure}
use Rattle.sqlite.specs.declared.error.ErrorCode.TheVariants.{TransactionState}
use Rattle.sqlite.specs.State.{State, HasCleanDisk, KeepsCommit, Survives, ExecutesInside}
use Rattle.sqlite.specs.Steps.{FailsToCommit}
use Rattle.sqlite.specs.Held.{Held, state}
use Rattle.sqlite.proofs.StateLemmas.{survives_then}
use Rattle.store_sql.specs.Ran.{HasRun}
use Rattle.store_sql.proofs.Running.{ran_as_said}
use Rattle.store_commits.specs.Pending.{IsPending}

keeps_none : (s : State) → KeepsCommit s s
keeps_none s = record { was_open = λ o. o; committed = λ _. refl }

keeps_inside : (sql : List ℕ) (params : Row) (old new : State) (r : Result ℕ Error) → ExecutesInside 0 sql params old new r → KeepsCommit old new
keeps_inside sql params old new (Ok count) h = record { was_open = λ _. h.1.was_open; committed = λ _. h.1.committed_is }
keeps_inside sql params old new (Err e) (inl (ran, inl same)) = record { was_open = λ _. same.0.was_open; committed = λ _. same.0.committed_is }
keeps_inside sql params old new (Err e) (inl (ran, inr back)) = record { was_open = back.was_open; committed = λ o. (back.undone o).1 }
keeps_inside sql params old new (Err e) (inr out) = record { was_open = λ _. out.2.0.was_open; committed = λ _. out.2.0.committed_is }

stays_inside : (sql : List ℕ) (params : Row) (old new : State) (r : Result ℕ Error) → ExecutesInside 0 sql params old new r → IsTrue (is_ok r) → IsTrue new.in_transaction
stays_inside sql params old new (Ok count) h done = h.1.mode
stays_inside sql params old new (Err e) h done = absurd cc

-- a statement that a transaction runs
pub ran : {S : Type 0} (g : Ghosts S) (sql : List ℕ) (params : Row) (old new : Held S) (r : Result ℕ Error)
    → (old.in_transaction ≡ false → (r ≡ Err (SqliteFailure TransactionState)) × (new ≡ old))
    → (HasCleanDisk (state g new) → IsTrue old.in_transaction → ExecutesInside 0 sql params (state g old) (state g new) r)
    → Survives (state g old) (state g new) (λ _. ⊥) → IsPending g old new (is_ok r)
ran g sql params old new r ended runs survives = record {
  kept = λ clean. elim (cases_Bool old.in_transaction) [
    | inl opened ↦ keeps_inside sql params (state g old) (state g new) r (runs clean opened)
    | inr shut ↦ subst (λ h. KeepsCommit (state g old) (state g h)) (sym (ended shut).1) (keeps_none (state g old))
  ];
  inside = λ clean done was. stays_inside sql params (state g old) (state g new) r (runs clean was) done;
  survives = survives;
}

-- a statement that went well has run
pub ran_well : {S : Type 0} (g : Ghosts S) (sql : List ℕ) (params : Row) (old new : Held S) (r : Result ℕ Error)
    → (old.in_transaction ≡ false → (r ≡ Err (SqliteFailure TransactionState)) × (new ≡ old))
    → (HasCleanDisk (state g new) → IsTrue old.in_transaction → ExecutesInside 0 sql params (state g old) (state g new) r)
    → HasCleanDisk (state g new) → IfOk r (λ count. HasRun sql params count (state g old).now (state g new).now)
ran_well g sql params old new (Err e) ended runs clean = tt
ran_well g sql params old new (Ok count) ended runs clean = elim (cases_Bool old.in_transaction) [
  | inl opened ↦ ran_as_said sql params count (state g old) (state g new) (runs clean opened).0
  | inr shut ↦ absurd (let e = (ended shut).0 in cc)
]

pub keeps_then : (a b c : State) → KeepsCommit a b → KeepsCommit b c → KeepsCommit a c
keeps_then a b c p q = record { was_open = λ o. p.was_open (q.was_open o); committed = λ o. q.committed o ∙ p.committed (q.was_open o) }

-- before the first statement
pub nothing : {S : Type 0} (g : Ghosts S) (a : Held S) (done : Bool) → IsPending g a a done
nothing g a done = record {
  kept = λ _. keeps_none (state g a);
  inside = λ _ _ was. was;
  survives = record { clean = omega arith; shield = λ s. s; counts = omega arith; limit = refl; closes = λ _ o. inl o; crash = λ _ db left. inl left };
}

-- what comes behind what was done
pub then : {S : Type 0} (g : Ghosts S) (a b c : Held S) (done : Bool) → IsPending g a b true → IsPending g b c done → IsPending g a c done
then g a b c done one two =
    let early : HasCleanDisk (state g c) → HasCleanDisk (state g b) = λ clean. omega (arith, two.survives.clean, clean) in
    record {
      kept = λ clean. keeps_then (state g a) (state g b) (state g c) (one.kept (early clean)) (two.kept clean);
      inside = λ clean so was. two.inside clean so (one.inside (early clean) refl was);
      survives = survives_then (state g a) (state g b) (state g c) _ _ (λ _. ⊥) (λ _ db none. none) (λ _ db none. none) one.survives two.survives;
    }

pub undone_err : (old last end : State) (e : Error) → (IsTrue old.is_open → old.now ≡ old.committed) → KeepsCommit old last → IsTrue last.in_transaction → FailsToCommit last end e → IsTrue end.is_open → end.now ≡ old.now
undone_err old last end e settled kept inside (inl fails) opened =
    let back = fails.3 in (back.undone opened).0 ∙ kept.committed (back.was_open opened) ∙ sym (settled (kept.was_open (back.was_open opened)))
undone_err old last end e settled kept inside (inr out) opened = absurd (true≢false (sym inside ∙ out.1))

-- only what was open is open where a commit failed
pub opened_err : (last end : State) (e : Error) → IsTrue last.in_transaction → FailsToCommit last end e → IsTrue end.is_open → IsTrue last.is_open
opened_err last end e inside (inl fails) opened = fails.3.was_open opened
opened_err last end e inside (inr out) opened = absurd (true≢false (sym inside ∙ out.1))
