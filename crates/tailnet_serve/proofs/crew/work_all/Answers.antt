-- What the workers share, threads may share.
use denote.Param.{param}
use Rattle.std.proofs.alloc.Global.TheSendSync as heap
use Rattle.session_hub.proofs.hub.Hub.TheSendSync as hub
use Rattle.tailnet_serve.proofs.FrontSync.{front_sync}
use Rattle.tailnet_serve.proofs.worker.WorkLimits.TheSendSync as limits
use Rattle.tailnet_serve.proofs.crew.work_all.Goals as goal

pub for_each_mut-requires-sync-F : goal.for_each_mut-requires-sync-F
for_each_mut-requires-sync-F g c κs within =
    let desk = hub.the_sync (param 1 g.row.K) g.K.Keeper c.type_bounds.send-K in
    record { shared = λ x b o κ. search (desk.shared, front_sync.shared, limits.the_sync.shared, heap.the_sync.shared, c.type_bounds.sync-R.shared, c.type_bounds.sync-A.shared) depth 30 }
