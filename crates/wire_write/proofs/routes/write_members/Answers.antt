use Rattle.std.proofs.Common.{arith}
use Rattle.wire_write.proofs.RouteLemmas.{all_written, one_written}
use Rattle.wire_write.proofs.routes.write_members.Goals as goal

pub loop-route-init : goal.loop-route-init
loop-route-init c = λ w p. p

pub loop-route-preserved : goal.loop-route-preserved
loop-route-preserved c = λ w p. c.loop-route.invariant w (one_written c.args.routes.now c.loop-route.route-index c.route-item.result c.as_str.result.now (omega arith) c.route-item.is c.as_str.ensures.value c.in_ok-write_resolvers.ensures.adds p)

pub returns : goal.returns
returns c = record { adds = c.loop-route.invariant _ (all_written c.args.routes.now c.loop-route.route-index (omega arith) c.in_ok-end_object.ensures.adds) }
