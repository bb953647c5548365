use Rattle.std.proofs.Common.{◌≡◌, drop}
use Rattle.serde_json.specs.View.{items_view}
use Rattle.policy_doc.specs.Grants.{grants_onto}
use Rattle.policy_doc.proofs.grants.add_each.Given as goal

-- what is left to read, behind the rules so far
abbrev pub invariant-loop-index : goal.invariant-loop-index
invariant-loop-index l =
    grants_onto l.names l.rules l.place l.index (items_view (drop l.index l.list)) ≡ grants_onto l.names l.fn.rules l.place 0 (items_view l.list)
