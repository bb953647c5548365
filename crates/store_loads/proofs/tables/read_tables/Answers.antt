use Rattle.std.proofs.Common.{◌∙◌}
use Rattle.std.proofs.lemmas.Result.{IfOk-weaker}
use Rattle.sqlite.specs.Held.{state}
use Rattle.store_loads.proofs.Naming.{named_broken}
use Rattle.store_loads.proofs.tables.read_tables.Goals as goal

pub returns-in-Ok-clause-loaded : goal.returns-in-Ok-clause-loaded
returns-in-Ok-clause-loaded g c clean rows keeps good =
    IfOk-weaker c.tables_of.result _ _ (λ tables same. same ∙ c.in-Ok.ensures.read clean rows keeps good) c.tables_of.ensures.ok

pub returns-in-Ok-clause-named : goal.returns-in-Ok-clause-named
returns-in-Ok-clause-named g c clean has live =
    named_broken (state g.S.Store c.args.conn.now).now.trees c.in-Ok.rows c.tables_of.result (c.in-Ok.ensures.broken clean has live) c.tables_of.ensures.named
