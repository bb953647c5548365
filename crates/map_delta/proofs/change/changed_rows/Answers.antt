use Rattle.net_rows.specs.Shelf.{row_at}
use Rattle.map_delta.specs.Delta.{is_sent_whole}
use Rattle.map_delta.specs.Puts.{node_id}
use Rattle.map_delta.proofs.LoopLemmas.{next_kept}
use Rattle.map_delta.proofs.change.changed_rows.Goals as goal

pub loop-node-preserved : goal.loop-node-preserved
loop-node-preserved c =
    next_kept (λ b. is_sent_whole (row_at node_id c.args.old.now b.id) b) c.args.new.now c.loop-node.node-index c.node-item.result c.loop-node.changed _ _
    c.loop-node-test.true c.node-item.is c.in_ok-add_changed.ensures.ok c.loop-node.invariant
