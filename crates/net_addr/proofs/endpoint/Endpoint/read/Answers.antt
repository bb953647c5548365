use Rattle.net_addr.proofs.EndpointLemmas.{endpoint_means}
use Rattle.net_addr.proofs.endpoint.Endpoint.read.Goals as goal

pub returns-clause-meaning : goal.returns-clause-meaning
returns-clause-meaning c = endpoint_means c.args.text.now c.endpoint_of_text.result c.endpoint_of_text.ensures.value
