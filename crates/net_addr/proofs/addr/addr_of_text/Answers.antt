use Rattle.std.proofs.Common.{sym, ◌∙◌}
use Rattle.net_addr.proofs.PartLemmas.{quad_below}
use Rattle.net_addr.proofs.addr.addr_of_text.Goals as goal

pub new-requires-else-has_colon : goal.new-requires-else-has_colon
new-requires-else-has_colon c =
    record { in_family = quad_below c.args.text.now c.in_ok-bits-2.bits (sym c.quad_of_text.ensures.value ∙ c.in_ok-bits-2.was) }
