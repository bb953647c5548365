use Rattle.store_rows.proofs.RouteTexts.{prefix_listed}
use Rattle.store_rows.proofs.routes.PrefixListed.texts_are_listed.Goals as goal

pub returns : goal.returns
returns c = record { pieces = prefix_listed }
