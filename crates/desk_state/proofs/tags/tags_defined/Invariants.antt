use Rattle.std.proofs.Common.{◌≡◌, drop}
use Rattle.desk_state.specs.Tags.{tags_defined}
use Rattle.desk_state.proofs.tags.tags_defined.Given as goal

abbrev pub invariant-loop-tag : goal.invariant-loop-tag
invariant-loop-tag l = tags_defined l.at (drop l.tag-index l.tags) ≡ tags_defined l.at l.tags
