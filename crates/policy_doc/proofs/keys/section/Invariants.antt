use Rattle.std.proofs.Common.{◌≡◌}
use Rattle.serde_json.specs.View.{members_view}
use Rattle.policy_doc.specs.Keys.{section}
use Rattle.policy_doc.proofs.keys.section.Given as goal

-- none so far has the name
abbrev pub invariant-loop-key : goal.invariant-loop-key
invariant-loop-key l = section l.name (members_view l.key-iterator) ≡ section l.name (members_view l.members.entries)
