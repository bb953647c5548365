use Rattle.std.proofs.Common.{arith}
use Rattle.response_values.proofs.Each.{each_in_all, each_so_far}
use Rattle.response_values.proofs.known.known_each.Goals as goal

pub loop-item-init : goal.loop-item-init
loop-item-init g c = tt

pub loop-item-preserved : goal.loop-item-preserved
loop-item-preserved g c =
    each_so_far g.T.Known.Typed c.args.items.now c.loop-item.item-index c.item-item.result c.loop-item-test.true c.item-item.is c.loop-item.invariant c.known.ensures.typed

pub returns : goal.returns
returns g c = record { typed = each_in_all g.T.Known.Typed c.args.items.now c.loop-item.item-index (omega (arith, c.loop-item-test.false)) c.loop-item.invariant }
