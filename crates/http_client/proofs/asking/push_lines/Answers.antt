use Rattle.std.proofs.Common.{sym, ◌∙◌, codes}
use Rattle.std.specs.Fmt.{decimal}
use Rattle.http_client.proofs.Pieces.{three_pieces}
use Rattle.http_client.proofs.asking.push_lines.Goals as goal

pub returns : goal.returns
returns c = record {
  added = three_pieces c.args.bytes.now.items (codes "Content-Type: application/json\r\nContent-Length: ") (decimal c.args.size) (codes "\r\n") _ _ _
      c.in_ok-extend_from_slice.ensures.items (rw (sym (c.as_bytes.ensures.value ∙ c.format.ensures.text)) c.in_ok-extend_from_slice-2.ensures.items) c.in_ok-extend_from_slice-3.ensures.items;
}
