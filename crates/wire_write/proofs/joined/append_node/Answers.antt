use Rattle.std.proofs.Common.{ap, ◌∙◌, ◌++◌}
use Rattle.wire_write.specs.Joined.{node_row_text}
use Rattle.wire_write.specs.Nodes.{node_data}
use Rattle.wire_write.proofs.TokenLemmas.{print_data, printed}
use Rattle.wire_write.proofs.joined.append_node.Goals as goal

pub returns : goal.returns
unfolding node_row_text
returns c =
    record {
      value = printed c.new-out.ensures.before c.new-out.ensures.tokens c.in_ok-write_json.ensures.adds c.into_inner.ensures.items
          ∙ ap (λ text. c.args.bytes.items ++ text) (print_data (node_data c.args.node.now));
    }
