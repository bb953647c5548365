use Rattle.std.proofs.Common.{◌≡◌, drop}
use Rattle.desk_state.specs.Tags.{tags_granted}
use Rattle.desk_state.proofs.tags.tags_granted.Given as goal

abbrev pub invariant-loop-tag : goal.invariant-loop-tag
invariant-loop-tag l = tags_granted l.at l.user (drop l.tag-index l.tags) ≡ tags_granted l.at l.user l.tags
