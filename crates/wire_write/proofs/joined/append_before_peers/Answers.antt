use Rattle.wire_write.specs.Joined.{before_peers}
use Rattle.wire_write.proofs.TokenLemmas.{printed, then}
use Rattle.wire_write.proofs.joined.append_before_peers.Goals as goal

pub returns : goal.returns
unfolding before_peers
returns c =
    let wrote = then c.in_ok-write_first.ensures.adds (then c.in_ok-write_name.ensures.adds c.in_ok-begin_array.ensures.adds) in
    record { value = printed c.new-out.ensures.before c.new-out.ensures.tokens wrote c.into_inner.ensures.items }
