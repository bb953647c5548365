use Rattle.fresh_maps.proofs.TextLemmas.{later_more}
use Rattle.fresh_maps.proofs.frame.append_later.Goals as goal

pub loop-row-preserved : goal.loop-row-preserved
loop-row-preserved c =
    later_more c.args.rows.now c.loop-row.row-index c.row-item.result c.args.bytes.now.items c.loop-row.bytes.items c.push.new.self.items c.append.new.bytes.items
    c.loop-row-test.true c.row-item.is c.loop-row.invariant c.in_ok-push.ensures.items c.in_ok-append.ensures.ok
