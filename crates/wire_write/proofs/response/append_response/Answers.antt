use Rattle.std.proofs.Common.{ap, ◌∙◌, ◌++◌}
use Rattle.wire_write.specs.Responses.{response_data}
use Rattle.wire_write.proofs.TokenLemmas.{print_data, printed}
use Rattle.wire_write.proofs.response.append_response.Goals as goal

pub returns : goal.returns
returns c =
    record {
      value = printed c.new-out.ensures.before c.new-out.ensures.tokens c.in_ok-write_response.ensures.adds c.into_inner.ensures.items
          ∙ ap (λ text. c.args.bytes.items ++ text) (print_data (response_data c.args.response.now));
    }
