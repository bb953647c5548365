use Rattle.std.proofs.Common.{[]}
use Rattle.std.proofs.lemmas.Result.{IfOk-weaker}
use Rattle.net_rows.specs.declared.change.Kind.TheVariants as kind
use Rattle.sqlite.specs.Held.{state}
use Rattle.sqlite.specs.State.{Shown}
use Rattle.store_rows.specs.Reading.{machine_in_cells}
use Rattle.store_rows.specs.Rows.{IsTypedMachine, machine_cells}
use Rattle.store_rows.proofs.TableReads.{machine_reads}
use Rattle.store_sql.specs.declared.texts.TheConstants.{SELECT_MACHINES}
use Rattle.store_sql.proofs.Selects.{select_machines_means}
use Rattle.store_reads.proofs.BackLemmas.{machines_stand}
use Rattle.store_reads.proofs.Causes.{machines_listed}
use Rattle.store_reads.proofs.DamageLemmas.{finds_all, machines_listing}
use Rattle.store_reads.proofs.OursLemmas.{machine_ours}
use Rattle.store_reads.proofs.ShownRows.{shown_machines}
use Rattle.store_reads.proofs.whole.read_machines.Goals as goal

pub returns-clause-seen : goal.returns-clause-seen
returns-clause-seen g c = c.read_all.ensures.seen select_machines_means.plain

pub returns-clause-read : goal.returns-clause-read
returns-clause-read g c clean all keeps good =
    c.read_all.ensures.read clean all.machines (λ rows shown. shown_machines (state g.S.Store c.args.conn.now) (state g.S.Store c.read_all.new.conn) all rows keeps shown) good.machines

pub returns-clause-back : goal.returns-clause-back
returns-clause-back g c clean ours =
    IfOk-weaker c.read_all.result _ _ (λ xs h. (machines_stand (state g.S.Store c.args.conn.now) (state g.S.Store c.read_all.new.conn) xs ours h.0, h.1)) (c.read_all.ensures.back clean)

pub returns-clause-cause : goal.returns-clause-cause
returns-clause-cause g c = c.read_all.ensures.cause machines_listed

pub returns-clause-finds : goal.returns-clause-finds
returns-clause-finds g c clean has live =
    let old = state g.S.Store c.args.conn.now in
    let new = state g.S.Store c.read_all.new.conn in
    finds_all machine_cells IsTypedMachine machine_in_cells machine_reads machine_ours kind.Machine 16 (old.now.trees 8) (Shown SELECT_MACHINES.now [] old new) c.read_all.result (λ rows shown. machines_listing old new rows has live shown) (c.read_all.ensures.back clean) (c.read_all.ensures.unread clean)
