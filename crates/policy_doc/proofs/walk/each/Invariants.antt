use Rattle.std.proofs.Common.{◌≡◌, drop}
use Rattle.serde_json.specs.View.{items_view}
use Rattle.policy_doc.specs.Walks.{each}
use Rattle.policy_doc.proofs.Front.{with_front}
use Rattle.policy_doc.proofs.walk.each.Given as goal

-- what is read so far, before what is left to read
abbrev pub invariant-loop-index : goal.invariant-loop-index
invariant-loop-index g l =
    let reads = g.E.ReadElement.reads l.names in
    with_front l.out (each reads l.place l.index (items_view (drop l.index l.list))) ≡ each reads l.place 0 (items_view l.list)
