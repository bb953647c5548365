-- What differs between two lists of nodes, found at listed ids alone.
use Rattle.std.specs.Prelude.{ℕ, List, Option, Some, None, if◌then◌else◌}
use Rattle.std.specs.List.{filter_map}
use Rattle.net_rows.specs.Shelf.{row_at}
use Rattle.tailcfg.specs.declared.node_row.NodeRow.{NodeRow}
use Rattle.tailcfg.specs.declared.patch.Patch.{Patch}
use Rattle.map_delta.specs.Delta.{is_sent_whole, patch_for}
use Rattle.map_delta.specs.Puts.{node_id}

-- the node that is sent whole, of what was and is at an id
abbrev pub whole_at : Option NodeRow → Option NodeRow → Option NodeRow
whole_at old None = None
whole_at old (Some b) = if is_sent_whole old b then Some b else None

-- the patch that is sent
abbrev pub patch_at : Option NodeRow → Option NodeRow → Option Patch
patch_at old None = None
patch_at old (Some b) = patch_for old b

-- the id, if its node is gone
abbrev pub gone_at : ℕ → Option NodeRow → Option NodeRow → Option ℕ
gone_at id None new = None
gone_at id (Some a) None = Some id
gone_at id (Some a) (Some b) = None

abbrev pub changed_listed : List ℕ → List NodeRow → List NodeRow → List NodeRow
changed_listed ids old new = filter_map (λ k. whole_at (row_at node_id old k) (row_at node_id new k)) ids

abbrev pub patches_listed : List ℕ → List NodeRow → List NodeRow → List Patch
patches_listed ids old new = filter_map (λ k. patch_at (row_at node_id old k) (row_at node_id new k)) ids

abbrev pub removed_listed : List ℕ → List NodeRow → List NodeRow → List ℕ
removed_listed ids old new = filter_map (λ k. gone_at k (row_at node_id old k) (row_at node_id new k)) ids
