use Rattle.std.proofs.Common.{◌≡◌}
use Rattle.std.specs.Vec.Iter.{into_iter_items}
use Rattle.net_rows.specs.Rows.{put_all}
use Rattle.net_rows.specs.Held.{Suffices}
use Rattle.net_rows.proofs.lists.Lists.put_all.Given as goal

abbrev pub invariant-loop-row : goal.invariant-loop-row
invariant-loop-row l = record {
  rows : put_all l.self.rows (into_iter_items l.row-iterator) ≡ put_all l.fn.self.rows l.fn.puts.items;
  room : Suffices l.self.spare (into_iter_items l.row-iterator);
}
