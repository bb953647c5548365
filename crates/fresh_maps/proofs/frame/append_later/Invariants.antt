use Rattle.std.proofs.Common.{◌≡◌, ◌++◌, take}
use Rattle.std.specs.Prelude.{map}
use Rattle.wire_write.specs.Joined.{behind_commas, node_row_text}
use Rattle.fresh_maps.proofs.frame.append_later.Given as goal

abbrev pub invariant-loop-row : goal.invariant-loop-row
invariant-loop-row l = l.bytes.items ≡ l.initial.bytes.items ++ behind_commas (map node_row_text (take l.row-index l.rows))
