use Rattle.std.proofs.Common.{take}
use Rattle.policy_eval.specs.Covering.{IsGrown}
use Rattle.policy_eval.specs.Expansion.{AreMatched, IsCoverAt}
use Rattle.policy_eval.proofs.cover_list.Covers.source_places.Given as goal

abbrev pub invariant-loop-selector : goal.invariant-loop-selector
invariant-loop-selector l =
    IsGrown l.fn.self l.self × AreMatched (IsCoverAt l.self.groups l.self.sites l.self.list) (take l.selector-index l.sources) l.places
