-- A front may be shared by threads: its table of paths is a tree of nodes, which may.
use denote.Param.Send.{IsSync, sendable}
use denote.RattleType.{RattleType}
use Rattle.std.proofs.vec.Vec.TheSendSync as vec
use Rattle.std.proofs.alloc.Global.TheSendSync as heap
use Rattle.desk_front.below.matchit.specs.contracts.router.Router as Router
use Rattle.desk_front.below.matchit.specs.contracts.tree.Node as Node
use Rattle.desk_front.below.matchit.proofs.tree.Node.TheLaws.TheKnot as knot
use Rattle.desk_front.below.matchit.proofs.route.Route.TheSendSync as route
use Rattle.desk_front.below.slab.proofs.Slab.TheSendSync as slab
use Rattle.desk_front.below.path_routes.specs.contracts.paths.Paths as Paths
use Rattle.desk_front.below.path_routes.specs.contracts.table.Entry as Entry
use Rattle.desk_front.below.path_routes.proofs.table.Entry.TheSendSync as entry
use Rattle.desk_front.proofs.front_settings.FrontSettings.TheSendSync as settings
use Rattle.desk_front.specs.contracts.front.Front as Front

node_sync : IsSync Node.the_row
node_sync = knot.sync-Node (search (sendable, vec.the_sync, heap.the_sync) depth 20) (λ h s. search (sendable, vec.the_sync, heap.the_sync) depth 20) (search sendable depth 20)

router_sync : (T : RattleType) → IsSync T → IsSync (Router.the_row T)
router_sync T t = search (sendable, node_sync, slab.the_sync, route.the_sync, vec.the_sync, heap.the_field_sync, heap.the_sync) depth 30

entry_sync : IsSync Entry.the_row
entry_sync = search (sendable, entry.the_sync) depth 30

paths_sync : IsSync Paths.the_row
paths_sync = search (sendable, router_sync, entry_sync) depth 30

pub front_sync : IsSync Front.the_row
front_sync = search (sendable, paths_sync, settings.the_field_sync) depth 30
