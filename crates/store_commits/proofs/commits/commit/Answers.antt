use Rattle.std.proofs.Common.{◌≡◌, refl, sym, subst, rules, arith, IsTrue}
use Rattle.net_rows.specs.Rows.{after}
use Rattle.sqlite.specs.Effect.{Database}
use Rattle.sqlite.specs.Held.{state}
use Rattle.sqlite.specs.State.{HasCleanDisk, Survives}
use Rattle.sqlite.specs.Tree.{Trees}
use Rattle.sqlite.proofs.Callers.{survives_begin}
use Rattle.sqlite.proofs.StateLemmas.{survives_then}
use Rattle.store_commits.proofs.Pending.{opened_err}
use Rattle.store_commits.specs.Kept.{AreStored, HoldsChange, Keeps}
use Rattle.store_commits.proofs.commits.commit.Goals as goal

pub returns-clause-made : goal.returns-clause-made
returns-clause-made g c clean = λ rows keeps.
    let end = c.commit.new.self.0 in
    let same : end ≡ c.conn-2-1.given.0 = search rules in
    let late : HasCleanDisk (state g.S.Store end) = search rules in
    let made = rw c.transaction-tx.ensures.begun at (c.in_ok-write.ensures.made (omega (arith, c.commit.ensures.survives.clean))) in
    subst (λ h. Keeps (state g.S.Store h).now (after rows c.args.change.now)) same
    (subst (λ (d : Database). Keeps d (after rows c.args.change.now)) (sym (c.in_ok-commit.ensures.ok late).1.now_is) (made rows keeps))

pub returns-clause-crash : goal.returns-clause-crash
returns-clause-crash g c =
    let old = c.args.conn.now in
    let last = c.write.new.tx.conn.now in
    let end = c.commit.new.self.0 in
    let P = HoldsChange (state g.S.Store old).now c.args.change.now in
    let inside : Survives (state g.S.Store c.transaction-tx.result.conn.now) (state g.S.Store last) (λ _. ⊥) = c.write.ensures.pending.survives in
    let whole = survives_then (state g.S.Store old) (state g.S.Store last) (state g.S.Store end) _ _ P (λ _ db none. absurd none)
    (λ clean db is.
    let made = rw c.transaction-tx.ensures.begun at (c.in_ok-write.ensures.made (omega (arith, c.commit.ensures.survives.clean))) in
    record {
      made = λ rows keeps. subst (λ (t : Trees). AreStored t (after rows c.args.change.now)) (sym is) (made rows keeps).stored;
      readable = c.in_ok-write.ensures.readable;
    })
    (survives_begin g.S.Store old (state g.S.Store last) _ (rw c.transaction-tx.ensures.begun at inside)) c.commit.ensures.survives in
    let same : end ≡ c.conn-2-1.given.0 = search rules in
    subst (λ h. Survives (state g.S.Store old) (state g.S.Store h) P) same whole

pub returns-in_err-commit-clause-crash : goal.returns-in_err-commit-clause-crash
returns-in_err-commit-clause-crash g c =
    let old = c.args.conn.now in
    let last = c.write.new.tx.conn.now in
    let end = c.commit.new.self.0 in
    let P = HoldsChange (state g.S.Store old).now c.args.change.now in
    let inside : Survives (state g.S.Store c.transaction-tx.result.conn.now) (state g.S.Store last) (λ _. ⊥) = c.write.ensures.pending.survives in
    let whole = survives_then (state g.S.Store old) (state g.S.Store last) (state g.S.Store end) _ _ P (λ _ db none. absurd none)
    (λ clean db is.
    let made = rw c.transaction-tx.ensures.begun at (c.in_ok-write.ensures.made (omega (arith, c.commit.ensures.survives.clean))) in
    record {
      made = λ rows keeps. subst (λ (t : Trees). AreStored t (after rows c.args.change.now)) (sym is) (made rows keeps).stored;
      readable = c.in_ok-write.ensures.readable;
    })
    (survives_begin g.S.Store old (state g.S.Store last) _ (rw c.transaction-tx.ensures.begun at inside)) c.commit.ensures.survives in
    let same : end ≡ c.conn-2-1.given.0 = search rules in
    subst (λ h. Survives (state g.S.Store old) (state g.S.Store h) P) same whole

pub returns-clause-opened : goal.returns-clause-opened
returns-clause-opened g c clean opened =
    let last = state g.S.Store c.write.new.tx.conn.now in
    let end = c.commit.new.self.0 in
    let same : end ≡ c.conn-2-1.given.0 = search rules in
    let late : HasCleanDisk (state g.S.Store end) = search rules in
    let early : HasCleanDisk last = omega (arith, c.commit.ensures.survives.clean) in
    let was = rw c.transaction-tx.ensures.begun at (c.in_ok-write.ensures.pending.kept early) in
    was.was_open (c.in_ok-commit.ensures.ok late).1.was_open

pub returns-in_err-commit-clause-opened : goal.returns-in_err-commit-clause-opened
returns-in_err-commit-clause-opened g c clean opened =
    let last = state g.S.Store c.write.new.tx.conn.now in
    let end = c.commit.new.self.0 in
    let same : c.conn-2-1.given.0 ≡ end = search rules in
    let late : HasCleanDisk (state g.S.Store end) = search rules in
    let early : HasCleanDisk last = omega (arith, c.commit.ensures.survives.clean) in
    let inside : IsTrue c.transaction-tx.result.conn.now.in_transaction = rw c.transaction-tx.ensures.begun in
    let was = rw c.transaction-tx.ensures.begun at (c.in_ok-write.ensures.pending.kept early) in
    let here = subst (λ h. IsTrue (state g.S.Store h).is_open) same opened in
    was.was_open (opened_err last (state g.S.Store end) c.in_err-commit.field-0.0 (c.in_ok-write.ensures.pending.inside early refl inside) (c.in_err-commit.ensures.err late) here)
