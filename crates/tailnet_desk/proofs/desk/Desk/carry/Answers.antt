use Rattle.std.proofs.Common.{subst}
use Rattle.std.specs.Prelude.{IfSome}
use Rattle.desk_state.specs.Decisions.{rows_after}
use Rattle.tailnet_desk.specs.Crashes.{IfDone, LeavesOnly}
use Rattle.tailnet_desk.specs.Seated.{Seated}
use Rattle.tailnet_desk.proofs.CrashLemmas.{replied_lasts}
use Rattle.tailnet_desk.proofs.desk.Desk.carry.Goals as goal

pub returns-clause-durable : goal.returns-clause-durable
returns-clause-durable g c =
    let desk = c.self.inside in
    let change = c.args.decision.change in
    let new = c.keep-kept.new.self.keeper in
    subst (λ (d : Seated _). IfDone c.reply_of.result (IfSome change (λ x. LeavesOnly g.K.Keeper.told g.K.Keeper.is_clean g.K.Keeper.may_leave d.keeper (rows_after d.state.rows change) new))) c.self.view_is
    (replied_lasts g.K.Keeper.told g.K.Keeper.is_clean g.K.Keeper.may_leave change c.keep-kept.result c.args.decision.answer c.reply_of.result
    desk.keeper (rows_after desk.tables.rows change) new c.reply_of.ensures.value c.keep-kept.ensures.durable)
