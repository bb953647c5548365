use Rattle.std.proofs.Common.{sym, ◌∙◌, arith}
use Rattle.net_addr.proofs.PartLemmas.{part_fits}
use Rattle.net_addr.proofs.parts.with_part.Goals as goal

pub overflow_cast-part : goal.overflow_cast-part
overflow_cast-part c =
    let small = part_fits c.args.notation c.args.text.now c.in_ok-part.part (sym c.part_of.ensures.value ∙ c.in_ok-part.was) in
    omega arith
