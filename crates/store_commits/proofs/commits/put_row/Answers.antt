use Rattle.std.proofs.Common.{List, map, sym, subst}
use Rattle.net_rows.specs.Rows.{put as put_of}
use Rattle.net_rows.specs.declared.change.Row.{Row}
use Rattle.net_rows.specs.declared.rows.Rows.{Rows}
use Rattle.sqlite.specs.Held.{state}
use Rattle.store_rows.specs.Rows.{auth_key_cells, machine_cells, pending_cells, policy_cells, user_cells}
use Rattle.tailcfg.specs.declared.dns.DnsExtra.{DnsExtra}
use Rattle.store_sql.specs.Ran.{IsPutBy}
use Rattle.store_sql.specs.declared.texts.TheConstants.{INSERT_AUTH_KEYS, INSERT_MACHINES, INSERT_PENDING, INSERT_POLICY, INSERT_USERS, UPDATE_AUTH_KEYS, UPDATE_MACHINES, UPDATE_PENDING, UPDATE_POLICY, UPDATE_USERS}
use Rattle.store_commits.specs.Kept.{Makes, value_of}
use Rattle.store_commits.proofs.KeptChange.{where_ok}
use Rattle.store_commits.proofs.KeptSteps.{key_put, machine_put, pending_put, policy_put, user_put}
use Rattle.store_commits.proofs.commits.put_row.Goals as goal

pub returns-in-User-clause-made : goal.returns-in-User-clause-made
returns-in-User-clause-made g c clean =
    let old = (state g.S.Store c.args.tx.now.conn.now).now in
    let new = (state g.S.Store c.put.new.tx.conn.now).now in
    let x = c.in-User.user in
    where_ok c.put.result (IsPutBy UPDATE_USERS.now INSERT_USERS.now (map value_of (user_cells x)) old new) (Makes old new (λ (rows : Rows). put_of rows c.args.row.now))
    (λ put. subst (λ (row : Row). Makes old new (λ (rows : Rows). put_of rows row)) (sym c.in-User.is) (user_put old new x put)) (c.put.ensures.put clean)

pub returns-in-Key-clause-made : goal.returns-in-Key-clause-made
returns-in-Key-clause-made g c clean =
    let old = (state g.S.Store c.args.tx.now.conn.now).now in
    let new = (state g.S.Store c.put-in-Key.new.tx.conn.now).now in
    let x = c.in-Key.key in
    where_ok c.put-in-Key.result (IsPutBy UPDATE_AUTH_KEYS.now INSERT_AUTH_KEYS.now (map value_of (auth_key_cells x)) old new) (Makes old new (λ (rows : Rows). put_of rows c.args.row.now))
    (λ put. subst (λ (row : Row). Makes old new (λ (rows : Rows). put_of rows row)) (sym c.in-Key.is) (key_put old new x put)) (c.put-in-Key.ensures.put clean)

pub returns-in-Pending-clause-made : goal.returns-in-Pending-clause-made
returns-in-Pending-clause-made g c clean =
    let old = (state g.S.Store c.args.tx.now.conn.now).now in
    let new = (state g.S.Store c.put-in-Pending.new.tx.conn.now).now in
    let x = c.in-Pending.entry in
    where_ok c.put-in-Pending.result (IsPutBy UPDATE_PENDING.now INSERT_PENDING.now (map value_of (pending_cells x)) old new) (Makes old new (λ (rows : Rows). put_of rows c.args.row.now))
    (λ put. subst (λ (row : Row). Makes old new (λ (rows : Rows). put_of rows row)) (sym c.in-Pending.is) (pending_put old new x put)) (c.put-in-Pending.ensures.put clean)

pub returns-in-Machine-clause-made : goal.returns-in-Machine-clause-made
returns-in-Machine-clause-made g c clean =
    let old = (state g.S.Store c.args.tx.now.conn.now).now in
    let new = (state g.S.Store c.put-in-Machine.new.tx.conn.now).now in
    let x = c.in-Machine.machine in
    where_ok c.put-in-Machine.result (IsPutBy UPDATE_MACHINES.now INSERT_MACHINES.now (map value_of (machine_cells x)) old new) (Makes old new (λ (rows : Rows). put_of rows c.args.row.now))
    (λ put. subst (λ (row : Row). Makes old new (λ (rows : Rows). put_of rows row)) (sym c.in-Machine.is) (machine_put old new x put)) (c.put-in-Machine.ensures.put clean)

pub returns-in-Policy-clause-made : goal.returns-in-Policy-clause-made
returns-in-Policy-clause-made g c clean =
    let old = (state g.S.Store c.args.tx.now.conn.now).now in
    let new = (state g.S.Store c.put_policy.new.tx.conn.now).now in
    let x = c.in-Policy.text in
    where_ok c.put_policy.result (IsPutBy UPDATE_POLICY.now INSERT_POLICY.now (map value_of (policy_cells x)) old new) (Makes old new (λ (rows : Rows). put_of rows c.args.row.now))
    (λ put. subst (λ (row : Row). Makes old new (λ (rows : Rows). put_of rows row)) (sym c.in-Policy.is) (policy_put old new x put)) (c.put_policy.ensures.put clean)

pub returns-in-Extras-clause-made : goal.returns-in-Extras-clause-made
returns-in-Extras-clause-made g c clean =
    let old = (state g.S.Store c.args.tx.now.conn.now).now in
    let new = (state g.S.Store c.put_extras.new.tx.conn.now).now in
    where_ok c.put_extras.result (Makes old new (λ (rows : Rows). record rows { extras = c.as_slice.result.now })) (Makes old new (λ (rows : Rows). put_of rows c.args.row.now))
    (λ made. subst (λ (row : Row). Makes old new (λ (rows : Rows). put_of rows row)) (sym c.in-Extras.is)
    (subst (λ (xs : List DnsExtra). Makes old new (λ (rows : Rows). record rows { extras = xs })) c.as_slice.ensures.value made))
    (c.put_extras.ensures.made clean)
