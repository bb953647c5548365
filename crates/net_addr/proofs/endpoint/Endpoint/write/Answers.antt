use Rattle.std.proofs.lemmas.Result.{IfOk-weaker}
use Rattle.net_addr.proofs.EndpointLemmas.{endpoint_again}
use Rattle.net_addr.proofs.endpoint.Endpoint.write.Goals as goal

pub returns-clause-read_again : goal.returns-clause-read_again
returns-clause-read_again c =
    IfOk-weaker c.endpoint_text.result _ _ (λ text is. endpoint_again c.args.self.now c.endpoint_text.ensures.in_family c.endpoint_text.ensures.port text is) c.endpoint_text.ensures.value
