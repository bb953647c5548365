use Rattle.std.proofs.Common.{◌∙◌, ◌++◌, ap}
use Rattle.std.specs.Prelude.{map}
use Rattle.tailcfg.specs.declared.response.Response.{Response}
use Rattle.wire_write.specs.Joined.{comma_joined, node_row_text}
use Rattle.fresh_maps.proofs.TextLemmas.{parts_made}
use Rattle.fresh_maps.proofs.frame.append_with_peers.Goals as goal

pub returns : goal.returns
returns c =
    let rows = ap (λ (r : Response). c.in_ok-made.made.items ++ comma_joined (map node_row_text r.peers)) c.response.view_is in
    record {
      value = parts_made c.args.response.now c.args.bytes.items c.in_ok-made.made.items c.append_rows.new.bytes.items c.in_ok-made-2.made.items
          c.requires.some c.in_ok-made.ensures.value (c.in_ok-append_rows.ensures.ok ∙ rows) c.in_ok-made-2.ensures.value;
    }
