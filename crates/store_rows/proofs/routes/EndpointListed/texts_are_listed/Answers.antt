use Rattle.store_rows.proofs.RouteTexts.{endpoint_listed}
use Rattle.store_rows.proofs.routes.EndpointListed.texts_are_listed.Goals as goal

pub returns : goal.returns
returns c = record { pieces = endpoint_listed }
