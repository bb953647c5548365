use Rattle.std.proofs.Common.{◌≡◌, Ok, Err, rules}
use Rattle.net_rows.specs.declared.change.Kind.TheVariants as kind
use Rattle.sqlite.specs.Effect.{Database}
use Rattle.sqlite.specs.Held.{state}
use Rattle.sqlite.specs.State.{HasCleanDisk}
use Rattle.store_rows.specs.Reading.{auth_key_of, machine_in_cells, pending_in_cells, user_in_cells}
use Rattle.store_reads.specs.Damages.{Finds, IsFirstIn, first_unread, unless_read}
use Rattle.store_reads.specs.Values.{extras_in, next_in, policy_in_rows, values_in}
use Rattle.store_reads.proofs.DamageLemmas.{found_after, found_behind, found_here}
use Rattle.store_reads.proofs.FillLemmas.{after_extras, after_keys, after_machines, after_next, after_pending, after_policy, after_users, err_names, fills_outside, found_at, kept_at, rows_same, stands_first, stands_then}
use Rattle.store_reads.proofs.whole.fill.Goals as goal

pub returns-in_err-rows-clause-unread : goal.returns-in_err-rows-clause-unread
unfolding IsFirstIn
returns-in_err-rows-clause-unread g c clean has live =
    let s0 = state g.S.Store c.args.conn.now in
    let s1 = state g.S.Store c.read_next.new.conn in
    let c1 : HasCleanDisk s1 = clean in
    let a0 = stands_first s0 has in
    let f0 = found_at (λ (d : Database). Finds next_in (unless_read kind.Meta next_in) (d.trees 0) (Err c.in_err-rows.field-0.0)) s0 s0 s1 a0 c.in_err-rows.ensures.finds c1 live in
    let same : c.from_residual.result ≡ Err c.in_err-rows.field-0.0 = search rules in
    err_names (IsFirstIn s0.now.trees) c.from_residual.result c.in_err-rows.field-0.0 same
    (found_here next_in (unless_read kind.Meta next_in) (s0.now.trees 0) (after_next s0.now.trees) c.in_err-rows.field-0.0 f0)

pub returns-in_err-rows-2-clause-unread : goal.returns-in_err-rows-2-clause-unread
unfolding IsFirstIn
returns-in_err-rows-2-clause-unread g c clean has live =
    let s0 = state g.S.Store c.args.conn.now in
    let s1 = state g.S.Store c.read_next.new.conn in
    let s2 = state g.S.Store c.read_users.new.conn in
    let c2 : HasCleanDisk s2 = clean in
    let c1 : HasCleanDisk s1 = c.in_err-rows-2.ensures.seen.clean c2 in
    let a0 = stands_first s0 has in
    let a1 = stands_then s0 s0 s1 a0 c.in_ok-rows.ensures.seen c1 in
    let f0 = found_at (λ (d : Database). Finds next_in (unless_read kind.Meta next_in) (d.trees 0) (Ok c.in_ok-rows.field-0)) s0 s0 s1 a0 c.in_ok-rows.ensures.finds c1 live in
    let f1 = found_at (λ (d : Database). Finds (values_in user_in_cells) (first_unread kind.User user_in_cells) (d.trees 1) (Err c.in_err-rows-2.field-0.0)) s0 s1 s2 a1 c.in_err-rows-2.ensures.finds c2 live in
    let same : c.from_residual-in_err-rows-2.result ≡ Err c.in_err-rows-2.field-0.0 = search rules in
    err_names (IsFirstIn s0.now.trees) c.from_residual-in_err-rows-2.result c.in_err-rows-2.field-0.0 same
    (found_behind next_in (unless_read kind.Meta next_in) (s0.now.trees 0) (after_next s0.now.trees) c.in_ok-rows.field-0 c.in_err-rows-2.field-0.0 f0
    (found_here (values_in user_in_cells) (first_unread kind.User user_in_cells) (s0.now.trees 1) (after_users s0.now.trees c.in_ok-rows.field-0) c.in_err-rows-2.field-0.0 f1))

pub returns-in_err-rows-3-clause-unread : goal.returns-in_err-rows-3-clause-unread
unfolding IsFirstIn
returns-in_err-rows-3-clause-unread g c clean has live =
    let s0 = state g.S.Store c.args.conn.now in
    let s1 = state g.S.Store c.read_next.new.conn in
    let s2 = state g.S.Store c.read_users.new.conn in
    let s3 = state g.S.Store c.read_keys.new.conn in
    let c3 : HasCleanDisk s3 = clean in
    let c2 : HasCleanDisk s2 = c.in_err-rows-3.ensures.seen.clean c3 in
    let c1 : HasCleanDisk s1 = c.in_ok-rows-2.ensures.seen.clean c2 in
    let a0 = stands_first s0 has in
    let a1 = stands_then s0 s0 s1 a0 c.in_ok-rows.ensures.seen c1 in
    let a2 = stands_then s0 s1 s2 a1 c.in_ok-rows-2.ensures.seen c2 in
    let f0 = found_at (λ (d : Database). Finds next_in (unless_read kind.Meta next_in) (d.trees 0) (Ok c.in_ok-rows.field-0)) s0 s0 s1 a0 c.in_ok-rows.ensures.finds c1 live in
    let f1 = found_at (λ (d : Database). Finds (values_in user_in_cells) (first_unread kind.User user_in_cells) (d.trees 1) (Ok c.in_ok-rows-2.field-0)) s0 s1 s2 a1 c.in_ok-rows-2.ensures.finds c2 live in
    let f2 = found_at (λ (d : Database). Finds (values_in auth_key_of) (first_unread kind.Key auth_key_of) (d.trees 3) (Err c.in_err-rows-3.field-0.0)) s0 s2 s3 a2 c.in_err-rows-3.ensures.finds c3 live in
    let same : c.from_residual-in_err-rows-3.result ≡ Err c.in_err-rows-3.field-0.0 = search rules in
    err_names (IsFirstIn s0.now.trees) c.from_residual-in_err-rows-3.result c.in_err-rows-3.field-0.0 same
    (found_behind next_in (unless_read kind.Meta next_in) (s0.now.trees 0) (after_next s0.now.trees) c.in_ok-rows.field-0 c.in_err-rows-3.field-0.0 f0
    (found_behind (values_in user_in_cells) (first_unread kind.User user_in_cells) (s0.now.trees 1) (after_users s0.now.trees c.in_ok-rows.field-0) c.in_ok-rows-2.field-0 c.in_err-rows-3.field-0.0 f1
    (found_here (values_in auth_key_of) (first_unread kind.Key auth_key_of) (s0.now.trees 3) (after_keys s0.now.trees c.in_ok-rows.field-0 c.in_ok-rows-2.field-0) c.in_err-rows-3.field-0.0 f2)))

pub returns-in_err-rows-4-clause-read : goal.returns-in_err-rows-4-clause-read
returns-in_err-rows-4-clause-read g c clean all keeps good =
    let s0 = state g.S.Store c.args.conn.now in
    let s1 = state g.S.Store c.read_next.new.conn in
    let s2 = state g.S.Store c.read_users.new.conn in
    let s3 = state g.S.Store c.read_keys.new.conn in
    let s4 = state g.S.Store c.read_pending_entries.new.conn in
    let c4 : HasCleanDisk s4 = clean in
    let c3 : HasCleanDisk s3 = c.in_err-rows-4.ensures.seen.clean c4 in
    let c2 : HasCleanDisk s2 = c.in_ok-rows-3.ensures.seen.clean c3 in
    let c1 : HasCleanDisk s1 = c.in_ok-rows-2.ensures.seen.clean c2 in
    let a0 = stands_first s0 keeps.schema in
    let a1 = stands_then s0 s0 s1 a0 c.in_ok-rows.ensures.seen c1 in
    let a2 = stands_then s0 s1 s2 a1 c.in_ok-rows-2.ensures.seen c2 in
    let a3 = stands_then s0 s2 s3 a2 c.in_ok-rows-3.ensures.seen c3 in
    let same : c.from_residual-in_err-rows-4.result ≡ Err c.in_err-rows-4.field-0.0 = search rules in
    fills_outside _ c.from_residual-in_err-rows-4.result c.in_err-rows-4.field-0.0 same (c.in_err-rows-4.ensures.read c4 all (kept_at s0 s3 all a3 keeps) good)

pub returns-in_err-rows-4-clause-unread : goal.returns-in_err-rows-4-clause-unread
unfolding IsFirstIn
returns-in_err-rows-4-clause-unread g c clean has live =
    let s0 = state g.S.Store c.args.conn.now in
    let s1 = state g.S.Store c.read_next.new.conn in
    let s2 = state g.S.Store c.read_users.new.conn in
    let s3 = state g.S.Store c.read_keys.new.conn in
    let s4 = state g.S.Store c.read_pending_entries.new.conn in
    let c4 : HasCleanDisk s4 = clean in
    let c3 : HasCleanDisk s3 = c.in_err-rows-4.ensures.seen.clean c4 in
    let c2 : HasCleanDisk s2 = c.in_ok-rows-3.ensures.seen.clean c3 in
    let c1 : HasCleanDisk s1 = c.in_ok-rows-2.ensures.seen.clean c2 in
    let a0 = stands_first s0 has in
    let a1 = stands_then s0 s0 s1 a0 c.in_ok-rows.ensures.seen c1 in
    let a2 = stands_then s0 s1 s2 a1 c.in_ok-rows-2.ensures.seen c2 in
    let a3 = stands_then s0 s2 s3 a2 c.in_ok-rows-3.ensures.seen c3 in
    let f0 = found_at (λ (d : Database). Finds next_in (unless_read kind.Meta next_in) (d.trees 0) (Ok c.in_ok-rows.field-0)) s0 s0 s1 a0 c.in_ok-rows.ensures.finds c1 live in
    let f1 = found_at (λ (d : Database). Finds (values_in user_in_cells) (first_unread kind.User user_in_cells) (d.trees 1) (Ok c.in_ok-rows-2.field-0)) s0 s1 s2 a1 c.in_ok-rows-2.ensures.finds c2 live in
    let f2 = found_at (λ (d : Database). Finds (values_in auth_key_of) (first_unread kind.Key auth_key_of) (d.trees 3) (Ok c.in_ok-rows-3.field-0)) s0 s2 s3 a2 c.in_ok-rows-3.ensures.finds c3 live in
    let f3 = found_at (λ (d : Database). Finds (values_in pending_in_cells) (first_unread kind.Pending pending_in_cells) (d.trees 5) (Err c.in_err-rows-4.field-0.0)) s0 s3 s4 a3 c.in_err-rows-4.ensures.finds c4 live in
    let same : c.from_residual-in_err-rows-4.result ≡ Err c.in_err-rows-4.field-0.0 = search rules in
    err_names (IsFirstIn s0.now.trees) c.from_residual-in_err-rows-4.result c.in_err-rows-4.field-0.0 same
    (found_behind next_in (unless_read kind.Meta next_in) (s0.now.trees 0) (after_next s0.now.trees) c.in_ok-rows.field-0 c.in_err-rows-4.field-0.0 f0
    (found_behind (values_in user_in_cells) (first_unread kind.User user_in_cells) (s0.now.trees 1) (after_users s0.now.trees c.in_ok-rows.field-0) c.in_ok-rows-2.field-0 c.in_err-rows-4.field-0.0 f1
    (found_behind (values_in auth_key_of) (first_unread kind.Key auth_key_of) (s0.now.trees 3) (after_keys s0.now.trees c.in_ok-rows.field-0 c.in_ok-rows-2.field-0) c.in_ok-rows-3.field-0 c.in_err-rows-4.field-0.0 f2
    (found_here (values_in pending_in_cells) (first_unread kind.Pending pending_in_cells) (s0.now.trees 5) (after_pending s0.now.trees c.in_ok-rows.field-0 c.in_ok-rows-2.field-0 c.in_ok-rows-3.field-0) c.in_err-rows-4.field-0.0 f3))))

pub returns-in_err-rows-5-clause-read : goal.returns-in_err-rows-5-clause-read
returns-in_err-rows-5-clause-read g c clean all keeps good =
    let s0 = state g.S.Store c.args.conn.now in
    let s1 = state g.S.Store c.read_next.new.conn in
    let s2 = state g.S.Store c.read_users.new.conn in
    let s3 = state g.S.Store c.read_keys.new.conn in
    let s4 = state g.S.Store c.read_pending_entries.new.conn in
    let s5 = state g.S.Store c.read_machines.new.conn in
    let c5 : HasCleanDisk s5 = clean in
    let c4 : HasCleanDisk s4 = c.in_err-rows-5.ensures.seen.clean c5 in
    let c3 : HasCleanDisk s3 = c.in_ok-rows-4.ensures.seen.clean c4 in
    let c2 : HasCleanDisk s2 = c.in_ok-rows-3.ensures.seen.clean c3 in
    let c1 : HasCleanDisk s1 = c.in_ok-rows-2.ensures.seen.clean c2 in
    let a0 = stands_first s0 keeps.schema in
    let a1 = stands_then s0 s0 s1 a0 c.in_ok-rows.ensures.seen c1 in
    let a2 = stands_then s0 s1 s2 a1 c.in_ok-rows-2.ensures.seen c2 in
    let a3 = stands_then s0 s2 s3 a2 c.in_ok-rows-3.ensures.seen c3 in
    let a4 = stands_then s0 s3 s4 a3 c.in_ok-rows-4.ensures.seen c4 in
    let same : c.from_residual-in_err-rows-5.result ≡ Err c.in_err-rows-5.field-0.0 = search rules in
    fills_outside _ c.from_residual-in_err-rows-5.result c.in_err-rows-5.field-0.0 same (c.in_err-rows-5.ensures.read c5 all (kept_at s0 s4 all a4 keeps) good)

pub returns-in_err-rows-5-clause-unread : goal.returns-in_err-rows-5-clause-unread
unfolding IsFirstIn
returns-in_err-rows-5-clause-unread g c clean has live =
    let s0 = state g.S.Store c.args.conn.now in
    let s1 = state g.S.Store c.read_next.new.conn in
    let s2 = state g.S.Store c.read_users.new.conn in
    let s3 = state g.S.Store c.read_keys.new.conn in
    let s4 = state g.S.Store c.read_pending_entries.new.conn in
    let s5 = state g.S.Store c.read_machines.new.conn in
    let c5 : HasCleanDisk s5 = clean in
    let c4 : HasCleanDisk s4 = c.in_err-rows-5.ensures.seen.clean c5 in
    let c3 : HasCleanDisk s3 = c.in_ok-rows-4.ensures.seen.clean c4 in
    let c2 : HasCleanDisk s2 = c.in_ok-rows-3.ensures.seen.clean c3 in
    let c1 : HasCleanDisk s1 = c.in_ok-rows-2.ensures.seen.clean c2 in
    let a0 = stands_first s0 has in
    let a1 = stands_then s0 s0 s1 a0 c.in_ok-rows.ensures.seen c1 in
    let a2 = stands_then s0 s1 s2 a1 c.in_ok-rows-2.ensures.seen c2 in
    let a3 = stands_then s0 s2 s3 a2 c.in_ok-rows-3.ensures.seen c3 in
    let a4 = stands_then s0 s3 s4 a3 c.in_ok-rows-4.ensures.seen c4 in
    let f0 = found_at (λ (d : Database). Finds next_in (unless_read kind.Meta next_in) (d.trees 0) (Ok c.in_ok-rows.field-0)) s0 s0 s1 a0 c.in_ok-rows.ensures.finds c1 live in
    let f1 = found_at (λ (d : Database). Finds (values_in user_in_cells) (first_unread kind.User user_in_cells) (d.trees 1) (Ok c.in_ok-rows-2.field-0)) s0 s1 s2 a1 c.in_ok-rows-2.ensures.finds c2 live in
    let f2 = found_at (λ (d : Database). Finds (values_in auth_key_of) (first_unread kind.Key auth_key_of) (d.trees 3) (Ok c.in_ok-rows-3.field-0)) s0 s2 s3 a2 c.in_ok-rows-3.ensures.finds c3 live in
    let f3 = found_at (λ (d : Database). Finds (values_in pending_in_cells) (first_unread kind.Pending pending_in_cells) (d.trees 5) (Ok c.in_ok-rows-4.field-0)) s0 s3 s4 a3 c.in_ok-rows-4.ensures.finds c4 live in
    let f4 = found_at (λ (d : Database). Finds (values_in machine_in_cells) (first_unread kind.Machine machine_in_cells) (d.trees 8) (Err c.in_err-rows-5.field-0.0)) s0 s4 s5 a4 c.in_err-rows-5.ensures.finds c5 live in
    let same : c.from_residual-in_err-rows-5.result ≡ Err c.in_err-rows-5.field-0.0 = search rules in
    err_names (IsFirstIn s0.now.trees) c.from_residual-in_err-rows-5.result c.in_err-rows-5.field-0.0 same
    (found_behind next_in (unless_read kind.Meta next_in) (s0.now.trees 0) (after_next s0.now.trees) c.in_ok-rows.field-0 c.in_err-rows-5.field-0.0 f0
    (found_behind (values_in user_in_cells) (first_unread kind.User user_in_cells) (s0.now.trees 1) (after_users s0.now.trees c.in_ok-rows.field-0) c.in_ok-rows-2.field-0 c.in_err-rows-5.field-0.0 f1
    (found_behind (values_in auth_key_of) (first_unread kind.Key auth_key_of) (s0.now.trees 3) (after_keys s0.now.trees c.in_ok-rows.field-0 c.in_ok-rows-2.field-0) c.in_ok-rows-3.field-0 c.in_err-rows-5.field-0.0 f2
    (found_behind (values_in pending_in_cells) (first_unread kind.Pending pending_in_cells) (s0.now.trees 5) (after_pending s0.now.trees c.in_ok-rows.field-0 c.in_ok-rows-2.field-0 c.in_ok-rows-3.field-0) c.in_ok-rows-4.field-0 c.in_err-rows-5.field-0.0 f3
    (found_here (values_in machine_in_cells) (first_unread kind.Machine machine_in_cells) (s0.now.trees 8) (after_machines s0.now.trees c.in_ok-rows.field-0 c.in_ok-rows-2.field-0 c.in_ok-rows-3.field-0 c.in_ok-rows-4.field-0) c.in_err-rows-5.field-0.0 f4)))))

pub returns-in_err-rows-6-clause-read : goal.returns-in_err-rows-6-clause-read
returns-in_err-rows-6-clause-read g c clean all keeps good =
    let s0 = state g.S.Store c.args.conn.now in
    let s1 = state g.S.Store c.read_next.new.conn in
    let s2 = state g.S.Store c.read_users.new.conn in
    let s3 = state g.S.Store c.read_keys.new.conn in
    let s4 = state g.S.Store c.read_pending_entries.new.conn in
    let s5 = state g.S.Store c.read_machines.new.conn in
    let s6 = state g.S.Store c.read_extras.new.conn in
    let c6 : HasCleanDisk s6 = clean in
    let c5 : HasCleanDisk s5 = c.in_err-rows-6.ensures.seen.clean c6 in
    let c4 : HasCleanDisk s4 = c.in_ok-rows-5.ensures.seen.clean c5 in
    let c3 : HasCleanDisk s3 = c.in_ok-rows-4.ensures.seen.clean c4 in
    let c2 : HasCleanDisk s2 = c.in_ok-rows-3.ensures.seen.clean c3 in
    let c1 : HasCleanDisk s1 = c.in_ok-rows-2.ensures.seen.clean c2 in
    let a0 = stands_first s0 keeps.schema in
    let a1 = stands_then s0 s0 s1 a0 c.in_ok-rows.ensures.seen c1 in
    let a2 = stands_then s0 s1 s2 a1 c.in_ok-rows-2.ensures.seen c2 in
    let a3 = stands_then s0 s2 s3 a2 c.in_ok-rows-3.ensures.seen c3 in
    let a4 = stands_then s0 s3 s4 a3 c.in_ok-rows-4.ensures.seen c4 in
    let a5 = stands_then s0 s4 s5 a4 c.in_ok-rows-5.ensures.seen c5 in
    let same : c.from_residual-in_err-rows-6.result ≡ Err c.in_err-rows-6.field-0.0 = search rules in
    fills_outside _ c.from_residual-in_err-rows-6.result c.in_err-rows-6.field-0.0 same (c.in_err-rows-6.ensures.read c6 all (kept_at s0 s5 all a5 keeps) good)

pub returns-in_err-rows-6-clause-unread : goal.returns-in_err-rows-6-clause-unread
unfolding IsFirstIn
returns-in_err-rows-6-clause-unread g c clean has live =
    let s0 = state g.S.Store c.args.conn.now in
    let s1 = state g.S.Store c.read_next.new.conn in
    let s2 = state g.S.Store c.read_users.new.conn in
    let s3 = state g.S.Store c.read_keys.new.conn in
    let s4 = state g.S.Store c.read_pending_entries.new.conn in
    let s5 = state g.S.Store c.read_machines.new.conn in
    let s6 = state g.S.Store c.read_extras.new.conn in
    let c6 : HasCleanDisk s6 = clean in
    let c5 : HasCleanDisk s5 = c.in_err-rows-6.ensures.seen.clean c6 in
    let c4 : HasCleanDisk s4 = c.in_ok-rows-5.ensures.seen.clean c5 in
    let c3 : HasCleanDisk s3 = c.in_ok-rows-4.ensures.seen.clean c4 in
    let c2 : HasCleanDisk s2 = c.in_ok-rows-3.ensures.seen.clean c3 in
    let c1 : HasCleanDisk s1 = c.in_ok-rows-2.ensures.seen.clean c2 in
    let a0 = stands_first s0 has in
    let a1 = stands_then s0 s0 s1 a0 c.in_ok-rows.ensures.seen c1 in
    let a2 = stands_then s0 s1 s2 a1 c.in_ok-rows-2.ensures.seen c2 in
    let a3 = stands_then s0 s2 s3 a2 c.in_ok-rows-3.ensures.seen c3 in
    let a4 = stands_then s0 s3 s4 a3 c.in_ok-rows-4.ensures.seen c4 in
    let a5 = stands_then s0 s4 s5 a4 c.in_ok-rows-5.ensures.seen c5 in
    let f0 = found_at (λ (d : Database). Finds next_in (unless_read kind.Meta next_in) (d.trees 0) (Ok c.in_ok-rows.field-0)) s0 s0 s1 a0 c.in_ok-rows.ensures.finds c1 live in
    let f1 = found_at (λ (d : Database). Finds (values_in user_in_cells) (first_unread kind.User user_in_cells) (d.trees 1) (Ok c.in_ok-rows-2.field-0)) s0 s1 s2 a1 c.in_ok-rows-2.ensures.finds c2 live in
    let f2 = found_at (λ (d : Database). Finds (values_in auth_key_of) (first_unread kind.Key auth_key_of) (d.trees 3) (Ok c.in_ok-rows-3.field-0)) s0 s2 s3 a2 c.in_ok-rows-3.ensures.finds c3 live in
    let f3 = found_at (λ (d : Database). Finds (values_in pending_in_cells) (first_unread kind.Pending pending_in_cells) (d.trees 5) (Ok c.in_ok-rows-4.field-0)) s0 s3 s4 a3 c.in_ok-rows-4.ensures.finds c4 live in
    let f4 = found_at (λ (d : Database). Finds (values_in machine_in_cells) (first_unread kind.Machine machine_in_cells) (d.trees 8) (Ok c.in_ok-rows-5.field-0)) s0 s4 s5 a4 c.in_ok-rows-5.ensures.finds c5 live in
    let f5 = found_at (λ (d : Database). Finds (extras_in 1) (unless_read kind.Extras (extras_in 1)) (d.trees 14) (Err c.in_err-rows-6.field-0.0)) s0 s5 s6 a5 c.in_err-rows-6.ensures.finds c6 live in
    let same : c.from_residual-in_err-rows-6.result ≡ Err c.in_err-rows-6.field-0.0 = search rules in
    err_names (IsFirstIn s0.now.trees) c.from_residual-in_err-rows-6.result c.in_err-rows-6.field-0.0 same
    (found_behind next_in (unless_read kind.Meta next_in) (s0.now.trees 0) (after_next s0.now.trees) c.in_ok-rows.field-0 c.in_err-rows-6.field-0.0 f0
    (found_behind (values_in user_in_cells) (first_unread kind.User user_in_cells) (s0.now.trees 1) (after_users s0.now.trees c.in_ok-rows.field-0) c.in_ok-rows-2.field-0 c.in_err-rows-6.field-0.0 f1
    (found_behind (values_in auth_key_of) (first_unread kind.Key auth_key_of) (s0.now.trees 3) (after_keys s0.now.trees c.in_ok-rows.field-0 c.in_ok-rows-2.field-0) c.in_ok-rows-3.field-0 c.in_err-rows-6.field-0.0 f2
    (found_behind (values_in pending_in_cells) (first_unread kind.Pending pending_in_cells) (s0.now.trees 5) (after_pending s0.now.trees c.in_ok-rows.field-0 c.in_ok-rows-2.field-0 c.in_ok-rows-3.field-0) c.in_ok-rows-4.field-0 c.in_err-rows-6.field-0.0 f3
    (found_behind (values_in machine_in_cells) (first_unread kind.Machine machine_in_cells) (s0.now.trees 8) (after_machines s0.now.trees c.in_ok-rows.field-0 c.in_ok-rows-2.field-0 c.in_ok-rows-3.field-0 c.in_ok-rows-4.field-0) c.in_ok-rows-5.field-0 c.in_err-rows-6.field-0.0 f4
    (found_here (extras_in 1) (unless_read kind.Extras (extras_in 1)) (s0.now.trees 14) (after_extras s0.now.trees c.in_ok-rows.field-0 c.in_ok-rows-2.field-0 c.in_ok-rows-3.field-0 c.in_ok-rows-4.field-0 c.in_ok-rows-5.field-0) c.in_err-rows-6.field-0.0 f5))))))

pub returns-in_err-rows-7-clause-read : goal.returns-in_err-rows-7-clause-read
returns-in_err-rows-7-clause-read g c clean all keeps good =
    let s0 = state g.S.Store c.args.conn.now in
    let s1 = state g.S.Store c.read_next.new.conn in
    let s2 = state g.S.Store c.read_users.new.conn in
    let s3 = state g.S.Store c.read_keys.new.conn in
    let s4 = state g.S.Store c.read_pending_entries.new.conn in
    let s5 = state g.S.Store c.read_machines.new.conn in
    let s6 = state g.S.Store c.read_extras.new.conn in
    let s7 = state g.S.Store c.read_policy.new.conn in
    let c7 : HasCleanDisk s7 = clean in
    let c6 : HasCleanDisk s6 = c.in_err-rows-7.ensures.seen.clean c7 in
    let c5 : HasCleanDisk s5 = c.in_ok-rows-6.ensures.seen.clean c6 in
    let c4 : HasCleanDisk s4 = c.in_ok-rows-5.ensures.seen.clean c5 in
    let c3 : HasCleanDisk s3 = c.in_ok-rows-4.ensures.seen.clean c4 in
    let c2 : HasCleanDisk s2 = c.in_ok-rows-3.ensures.seen.clean c3 in
    let c1 : HasCleanDisk s1 = c.in_ok-rows-2.ensures.seen.clean c2 in
    let a0 = stands_first s0 keeps.schema in
    let a1 = stands_then s0 s0 s1 a0 c.in_ok-rows.ensures.seen c1 in
    let a2 = stands_then s0 s1 s2 a1 c.in_ok-rows-2.ensures.seen c2 in
    let a3 = stands_then s0 s2 s3 a2 c.in_ok-rows-3.ensures.seen c3 in
    let a4 = stands_then s0 s3 s4 a3 c.in_ok-rows-4.ensures.seen c4 in
    let a5 = stands_then s0 s4 s5 a4 c.in_ok-rows-5.ensures.seen c5 in
    let a6 = stands_then s0 s5 s6 a5 c.in_ok-rows-6.ensures.seen c6 in
    let same : c.from_residual-in_err-rows-7.result ≡ Err c.in_err-rows-7.field-0.0 = search rules in
    fills_outside _ c.from_residual-in_err-rows-7.result c.in_err-rows-7.field-0.0 same (c.in_err-rows-7.ensures.read c7 all (kept_at s0 s6 all a6 keeps) good)

pub returns-in_err-rows-7-clause-unread : goal.returns-in_err-rows-7-clause-unread
unfolding IsFirstIn
returns-in_err-rows-7-clause-unread g c clean has live =
    let s0 = state g.S.Store c.args.conn.now in
    let s1 = state g.S.Store c.read_next.new.conn in
    let s2 = state g.S.Store c.read_users.new.conn in
    let s3 = state g.S.Store c.read_keys.new.conn in
    let s4 = state g.S.Store c.read_pending_entries.new.conn in
    let s5 = state g.S.Store c.read_machines.new.conn in
    let s6 = state g.S.Store c.read_extras.new.conn in
    let s7 = state g.S.Store c.read_policy.new.conn in
    let c7 : HasCleanDisk s7 = clean in
    let c6 : HasCleanDisk s6 = c.in_err-rows-7.ensures.seen.clean c7 in
    let c5 : HasCleanDisk s5 = c.in_ok-rows-6.ensures.seen.clean c6 in
    let c4 : HasCleanDisk s4 = c.in_ok-rows-5.ensures.seen.clean c5 in
    let c3 : HasCleanDisk s3 = c.in_ok-rows-4.ensures.seen.clean c4 in
    let c2 : HasCleanDisk s2 = c.in_ok-rows-3.ensures.seen.clean c3 in
    let c1 : HasCleanDisk s1 = c.in_ok-rows-2.ensures.seen.clean c2 in
    let a0 = stands_first s0 has in
    let a1 = stands_then s0 s0 s1 a0 c.in_ok-rows.ensures.seen c1 in
    let a2 = stands_then s0 s1 s2 a1 c.in_ok-rows-2.ensures.seen c2 in
    let a3 = stands_then s0 s2 s3 a2 c.in_ok-rows-3.ensures.seen c3 in
    let a4 = stands_then s0 s3 s4 a3 c.in_ok-rows-4.ensures.seen c4 in
    let a5 = stands_then s0 s4 s5 a4 c.in_ok-rows-5.ensures.seen c5 in
    let a6 = stands_then s0 s5 s6 a5 c.in_ok-rows-6.ensures.seen c6 in
    let f0 = found_at (λ (d : Database). Finds next_in (unless_read kind.Meta next_in) (d.trees 0) (Ok c.in_ok-rows.field-0)) s0 s0 s1 a0 c.in_ok-rows.ensures.finds c1 live in
    let f1 = found_at (λ (d : Database). Finds (values_in user_in_cells) (first_unread kind.User user_in_cells) (d.trees 1) (Ok c.in_ok-rows-2.field-0)) s0 s1 s2 a1 c.in_ok-rows-2.ensures.finds c2 live in
    let f2 = found_at (λ (d : Database). Finds (values_in auth_key_of) (first_unread kind.Key auth_key_of) (d.trees 3) (Ok c.in_ok-rows-3.field-0)) s0 s2 s3 a2 c.in_ok-rows-3.ensures.finds c3 live in
    let f3 = found_at (λ (d : Database). Finds (values_in pending_in_cells) (first_unread kind.Pending pending_in_cells) (d.trees 5) (Ok c.in_ok-rows-4.field-0)) s0 s3 s4 a3 c.in_ok-rows-4.ensures.finds c4 live in
    let f4 = found_at (λ (d : Database). Finds (values_in machine_in_cells) (first_unread kind.Machine machine_in_cells) (d.trees 8) (Ok c.in_ok-rows-5.field-0)) s0 s4 s5 a4 c.in_ok-rows-5.ensures.finds c5 live in
    let f5 = found_at (λ (d : Database). Finds (extras_in 1) (unless_read kind.Extras (extras_in 1)) (d.trees 14) (Ok c.in_ok-rows-6.field-0)) s0 s5 s6 a5 c.in_ok-rows-6.ensures.finds c6 live in
    let f6 = found_at (λ (d : Database). Finds policy_in_rows (unless_read kind.Policy policy_in_rows) (d.trees 15) (Err c.in_err-rows-7.field-0.0)) s0 s6 s7 a6 c.in_err-rows-7.ensures.finds c7 live in
    let same : c.from_residual-in_err-rows-7.result ≡ Err c.in_err-rows-7.field-0.0 = search rules in
    err_names (IsFirstIn s0.now.trees) c.from_residual-in_err-rows-7.result c.in_err-rows-7.field-0.0 same
    (found_behind next_in (unless_read kind.Meta next_in) (s0.now.trees 0) (after_next s0.now.trees) c.in_ok-rows.field-0 c.in_err-rows-7.field-0.0 f0
    (found_behind (values_in user_in_cells) (first_unread kind.User user_in_cells) (s0.now.trees 1) (after_users s0.now.trees c.in_ok-rows.field-0) c.in_ok-rows-2.field-0 c.in_err-rows-7.field-0.0 f1
    (found_behind (values_in auth_key_of) (first_unread kind.Key auth_key_of) (s0.now.trees 3) (after_keys s0.now.trees c.in_ok-rows.field-0 c.in_ok-rows-2.field-0) c.in_ok-rows-3.field-0 c.in_err-rows-7.field-0.0 f2
    (found_behind (values_in pending_in_cells) (first_unread kind.Pending pending_in_cells) (s0.now.trees 5) (after_pending s0.now.trees c.in_ok-rows.field-0 c.in_ok-rows-2.field-0 c.in_ok-rows-3.field-0) c.in_ok-rows-4.field-0 c.in_err-rows-7.field-0.0 f3
    (found_behind (values_in machine_in_cells) (first_unread kind.Machine machine_in_cells) (s0.now.trees 8) (after_machines s0.now.trees c.in_ok-rows.field-0 c.in_ok-rows-2.field-0 c.in_ok-rows-3.field-0 c.in_ok-rows-4.field-0) c.in_ok-rows-5.field-0 c.in_err-rows-7.field-0.0 f4
    (found_behind (extras_in 1) (unless_read kind.Extras (extras_in 1)) (s0.now.trees 14) (after_extras s0.now.trees c.in_ok-rows.field-0 c.in_ok-rows-2.field-0 c.in_ok-rows-3.field-0 c.in_ok-rows-4.field-0 c.in_ok-rows-5.field-0) c.in_ok-rows-6.field-0 c.in_err-rows-7.field-0.0 f5
    (found_here policy_in_rows (unless_read kind.Policy policy_in_rows) (s0.now.trees 15) (after_policy c.in_ok-rows.field-0 c.in_ok-rows-2.field-0 c.in_ok-rows-3.field-0 c.in_ok-rows-4.field-0 c.in_ok-rows-5.field-0 c.in_ok-rows-6.field-0) c.in_err-rows-7.field-0.0 f6)))))))

pub returns-clause-read : goal.returns-clause-read
returns-clause-read g c clean all keeps good =
    let s0 = state g.S.Store c.args.conn.now in
    let s1 = state g.S.Store c.read_next.new.conn in
    let s2 = state g.S.Store c.read_users.new.conn in
    let s3 = state g.S.Store c.read_keys.new.conn in
    let s4 = state g.S.Store c.read_pending_entries.new.conn in
    let s5 = state g.S.Store c.read_machines.new.conn in
    let s6 = state g.S.Store c.read_extras.new.conn in
    let s7 = state g.S.Store c.read_policy.new.conn in
    let c7 : HasCleanDisk s7 = clean in
    let c6 : HasCleanDisk s6 = c.in_ok-rows-7.ensures.seen.clean c7 in
    let c5 : HasCleanDisk s5 = c.in_ok-rows-6.ensures.seen.clean c6 in
    let c4 : HasCleanDisk s4 = c.in_ok-rows-5.ensures.seen.clean c5 in
    let c3 : HasCleanDisk s3 = c.in_ok-rows-4.ensures.seen.clean c4 in
    let c2 : HasCleanDisk s2 = c.in_ok-rows-3.ensures.seen.clean c3 in
    let c1 : HasCleanDisk s1 = c.in_ok-rows-2.ensures.seen.clean c2 in
    let a0 = stands_first s0 keeps.schema in
    let a1 = stands_then s0 s0 s1 a0 c.in_ok-rows.ensures.seen c1 in
    let a2 = stands_then s0 s1 s2 a1 c.in_ok-rows-2.ensures.seen c2 in
    let a3 = stands_then s0 s2 s3 a2 c.in_ok-rows-3.ensures.seen c3 in
    let a4 = stands_then s0 s3 s4 a3 c.in_ok-rows-4.ensures.seen c4 in
    let a5 = stands_then s0 s4 s5 a4 c.in_ok-rows-5.ensures.seen c5 in
    let a6 = stands_then s0 s5 s6 a5 c.in_ok-rows-6.ensures.seen c6 in
    rows_same all c.in_ok-rows.field-0 c.in_ok-rows-2.field-0 c.in_ok-rows-3.field-0 c.in_ok-rows-4.field-0 c.in_ok-rows-5.field-0 c.in_ok-rows-6.field-0 c.in_ok-rows-7.field-0
    (c.in_ok-rows.ensures.read c1 all (kept_at s0 s0 all a0 keeps) good)
    (c.in_ok-rows-2.ensures.read c2 all (kept_at s0 s1 all a1 keeps) good)
    (c.in_ok-rows-3.ensures.read c3 all (kept_at s0 s2 all a2 keeps) good)
    (c.in_ok-rows-4.ensures.read c4 all (kept_at s0 s3 all a3 keeps) good)
    (c.in_ok-rows-5.ensures.read c5 all (kept_at s0 s4 all a4 keeps) good)
    (c.in_ok-rows-6.ensures.read c6 all (kept_at s0 s5 all a5 keeps) good)
    (c.in_ok-rows-7.ensures.read c7 all (kept_at s0 s6 all a6 keeps) good)

pub returns-clause-broken : goal.returns-clause-broken
unfolding IsFirstIn
returns-clause-broken g c clean has live d breaks =
    let s0 = state g.S.Store c.args.conn.now in
    let s1 = state g.S.Store c.read_next.new.conn in
    let s2 = state g.S.Store c.read_users.new.conn in
    let s3 = state g.S.Store c.read_keys.new.conn in
    let s4 = state g.S.Store c.read_pending_entries.new.conn in
    let s5 = state g.S.Store c.read_machines.new.conn in
    let s6 = state g.S.Store c.read_extras.new.conn in
    let s7 = state g.S.Store c.read_policy.new.conn in
    let c7 : HasCleanDisk s7 = clean in
    let c6 : HasCleanDisk s6 = c.in_ok-rows-7.ensures.seen.clean c7 in
    let c5 : HasCleanDisk s5 = c.in_ok-rows-6.ensures.seen.clean c6 in
    let c4 : HasCleanDisk s4 = c.in_ok-rows-5.ensures.seen.clean c5 in
    let c3 : HasCleanDisk s3 = c.in_ok-rows-4.ensures.seen.clean c4 in
    let c2 : HasCleanDisk s2 = c.in_ok-rows-3.ensures.seen.clean c3 in
    let c1 : HasCleanDisk s1 = c.in_ok-rows-2.ensures.seen.clean c2 in
    let a0 = stands_first s0 has in
    let a1 = stands_then s0 s0 s1 a0 c.in_ok-rows.ensures.seen c1 in
    let a2 = stands_then s0 s1 s2 a1 c.in_ok-rows-2.ensures.seen c2 in
    let a3 = stands_then s0 s2 s3 a2 c.in_ok-rows-3.ensures.seen c3 in
    let a4 = stands_then s0 s3 s4 a3 c.in_ok-rows-4.ensures.seen c4 in
    let a5 = stands_then s0 s4 s5 a4 c.in_ok-rows-5.ensures.seen c5 in
    let a6 = stands_then s0 s5 s6 a5 c.in_ok-rows-6.ensures.seen c6 in
    let f0 = found_at (λ (d : Database). Finds next_in (unless_read kind.Meta next_in) (d.trees 0) (Ok c.in_ok-rows.field-0)) s0 s0 s1 a0 c.in_ok-rows.ensures.finds c1 live in
    let f1 = found_at (λ (d : Database). Finds (values_in user_in_cells) (first_unread kind.User user_in_cells) (d.trees 1) (Ok c.in_ok-rows-2.field-0)) s0 s1 s2 a1 c.in_ok-rows-2.ensures.finds c2 live in
    let f2 = found_at (λ (d : Database). Finds (values_in auth_key_of) (first_unread kind.Key auth_key_of) (d.trees 3) (Ok c.in_ok-rows-3.field-0)) s0 s2 s3 a2 c.in_ok-rows-3.ensures.finds c3 live in
    let f3 = found_at (λ (d : Database). Finds (values_in pending_in_cells) (first_unread kind.Pending pending_in_cells) (d.trees 5) (Ok c.in_ok-rows-4.field-0)) s0 s3 s4 a3 c.in_ok-rows-4.ensures.finds c4 live in
    let f4 = found_at (λ (d : Database). Finds (values_in machine_in_cells) (first_unread kind.Machine machine_in_cells) (d.trees 8) (Ok c.in_ok-rows-5.field-0)) s0 s4 s5 a4 c.in_ok-rows-5.ensures.finds c5 live in
    let f5 = found_at (λ (d : Database). Finds (extras_in 1) (unless_read kind.Extras (extras_in 1)) (d.trees 14) (Ok c.in_ok-rows-6.field-0)) s0 s5 s6 a5 c.in_ok-rows-6.ensures.finds c6 live in
    let f6 = found_at (λ (d : Database). Finds policy_in_rows (unless_read kind.Policy policy_in_rows) (d.trees 15) (Ok c.in_ok-rows-7.field-0)) s0 s6 s7 a6 c.in_ok-rows-7.ensures.finds c7 live in
    found_after next_in (unless_read kind.Meta next_in) (s0.now.trees 0) (after_next s0.now.trees) c.in_ok-rows.field-0 d f0
    (found_after (values_in user_in_cells) (first_unread kind.User user_in_cells) (s0.now.trees 1) (after_users s0.now.trees c.in_ok-rows.field-0) c.in_ok-rows-2.field-0 d f1
    (found_after (values_in auth_key_of) (first_unread kind.Key auth_key_of) (s0.now.trees 3) (after_keys s0.now.trees c.in_ok-rows.field-0 c.in_ok-rows-2.field-0) c.in_ok-rows-3.field-0 d f2
    (found_after (values_in pending_in_cells) (first_unread kind.Pending pending_in_cells) (s0.now.trees 5) (after_pending s0.now.trees c.in_ok-rows.field-0 c.in_ok-rows-2.field-0 c.in_ok-rows-3.field-0) c.in_ok-rows-4.field-0 d f3
    (found_after (values_in machine_in_cells) (first_unread kind.Machine machine_in_cells) (s0.now.trees 8) (after_machines s0.now.trees c.in_ok-rows.field-0 c.in_ok-rows-2.field-0 c.in_ok-rows-3.field-0 c.in_ok-rows-4.field-0) c.in_ok-rows-5.field-0 d f4
    (found_after (extras_in 1) (unless_read kind.Extras (extras_in 1)) (s0.now.trees 14) (after_extras s0.now.trees c.in_ok-rows.field-0 c.in_ok-rows-2.field-0 c.in_ok-rows-3.field-0 c.in_ok-rows-4.field-0 c.in_ok-rows-5.field-0) c.in_ok-rows-6.field-0 d f5
    (found_after policy_in_rows (unless_read kind.Policy policy_in_rows) (s0.now.trees 15) (after_policy c.in_ok-rows.field-0 c.in_ok-rows-2.field-0 c.in_ok-rows-3.field-0 c.in_ok-rows-4.field-0 c.in_ok-rows-5.field-0 c.in_ok-rows-6.field-0) c.in_ok-rows-7.field-0 d f6
    breaks))))))
