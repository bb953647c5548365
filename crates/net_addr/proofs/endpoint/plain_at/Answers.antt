use Rattle.std.proofs.Common.{take, sym, ◌∙◌}
use Rattle.net_addr.proofs.PartLemmas.{quad_below}
use Rattle.net_addr.proofs.endpoint.plain_at.Goals as goal

pub new-addr-requires : goal.new-addr-requires
new-addr-requires c =
    record { in_family = quad_below (take c.args.at c.args.text.now) c.in_ok-bits.bits (sym c.quad_of_text.ensures.value ∙ c.in_ok-bits.was) }
