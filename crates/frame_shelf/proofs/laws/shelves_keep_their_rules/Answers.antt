use Rattle.frame_shelf.proofs.RuleLemmas.{empty_shelf, shelf_kept}
use Rattle.frame_shelf.proofs.LineLemmas.{shelf_without}
use Rattle.frame_shelf.proofs.laws.shelves_keep_their_rules.Goals as goal

pub returns : goal.returns
returns c = record { none = empty_shelf; kept = shelf_kept; gone = λ lines machine. shelf_without machine lines }
