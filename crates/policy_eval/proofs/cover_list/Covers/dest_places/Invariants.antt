use Rattle.std.proofs.Common.{take}
use Rattle.policy_eval.specs.Covering.{IsGrown}
use Rattle.policy_eval.specs.Expansion.{AreMatched, IsEntryAt}
use Rattle.policy_eval.proofs.cover_list.Covers.dest_places.Given as goal

abbrev pub invariant-loop-entry : goal.invariant-loop-entry
invariant-loop-entry l =
    IsGrown l.fn.self l.self × AreMatched (IsEntryAt l.self.groups l.self.sites l.self.list) (take l.entry-index l.entries) l.places
