use Rattle.fresh_maps.proofs.TextLemmas.{rows_made}
use Rattle.fresh_maps.proofs.frame.append_rows.Goals as goal

pub returns : goal.returns
returns c =
    record {
      ok = rows_made c.args.rows.now c.first-item.result c.args.bytes.now.items c.append.new.bytes.items c.append_later.new.bytes.items
          c.in-len1-up.len_at_least c.first-item.is c.in_ok-append.ensures.ok c.in_ok-append_later.ensures.ok;
    }
