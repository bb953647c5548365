-- The opener has its keeper back.
use Rattle.std.proofs.Common.{subst}
use Rattle.io_edge.specs.Edge.{StillTells}
use Rattle.tailnet_desk.proofs.SafeStores.{desk_closed, store_handed}
use Rattle.tailnet_serve.proofs.running.close_unserved.Goals as goal

pub returns-clause-closed : goal.returns-clause-closed
returns-clause-closed g c = record {
  told = subst (λ k. StillTells (g.P.Keeper.Keeper.told k) (g.P.Opener.told c.close-2.new.self)) c.close.ensures.value c.close-2.ensures.told;
  asked = c.close-2.ensures.asked;
}

pub returns-clause-safe : goal.returns-clause-safe
returns-clause-safe g c = λ safe.
    let p = g.P.Opener in
    let k = g.P.Keeper.Keeper in
    store_handed k.told k.is_clean k.may_leave p.told p.is_clean p.may_leave c.close.result c.close-2.new.self c.close-2.ensures.told c.close-2.ensures.crash
    (desk_closed k.told k.is_clean k.may_leave c.args.desk c.close.result c.close.ensures.value c.close.ensures.told safe)
