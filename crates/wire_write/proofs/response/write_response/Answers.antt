use Rattle.wire_write.proofs.JoinedLemmas.{whole_tokens}
use Rattle.wire_write.proofs.TokenLemmas.{recast, then}
use Rattle.wire_write.proofs.response.write_response.Goals as goal

pub returns : goal.returns
returns c = record { adds = recast (whole_tokens c.args.response.now) (then c.in_ok-write_first.ensures.adds c.in_ok-write_peers.ensures.adds) }
