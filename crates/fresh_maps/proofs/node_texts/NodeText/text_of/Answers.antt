use Rattle.std.proofs.Common.{◌∙◌, ap, sym}
use Rattle.same_maps.proofs.NodeLemmas.{nodes_equal}
use Rattle.wire_write.specs.Joined.{node_row_text}
use Rattle.fresh_maps.proofs.node_texts.NodeText.text_of.Goals as goal

pub returns-then-same_node_row : goal.returns-then-same_node_row
returns-then-same_node_row c =
    let kept = c.args.self.now in
    record { value = c.as_slice.ensures.value ∙ kept.written ∙ ap node_row_text (nodes_equal kept.row c.args.node.now (sym c.same_node_row.ensures.value ∙ c.if-same_node_row.true)) }
