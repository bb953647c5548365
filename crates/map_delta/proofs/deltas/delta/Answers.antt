use Rattle.std.proofs.Common.{ap, ◌∙◌}
use Rattle.std.specs.Prelude.{Some}
use Rattle.map_delta.specs.Fold.{fold_all}
use Rattle.map_delta.proofs.DeltaLaws.{delta_law}
use Rattle.map_delta.proofs.deltas.delta.Goals as goal

pub returns-clause-folds : goal.returns-clause-folds
returns-clause-folds c = λ ho hn d. ap (fold_all (Some c.args.old.now)) c.in_ok-made.ensures.value ∙ delta_law c.args.old.now c.args.new.now c.args.seq ho hn d
