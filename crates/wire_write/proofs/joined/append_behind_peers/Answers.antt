use Rattle.wire_write.specs.Joined.{behind_peers}
use Rattle.wire_write.proofs.TokenLemmas.{printed, then}
use Rattle.wire_write.proofs.joined.append_behind_peers.Goals as goal

pub returns : goal.returns
unfolding behind_peers
returns c =
    let wrote = then c.in_ok-end_array.ensures.adds c.in_ok-write_changed.ensures.adds in
    record { value = printed c.new-out.ensures.before c.new-out.ensures.tokens wrote c.into_inner.ensures.items }
