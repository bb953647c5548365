use Rattle.std.proofs.Common.{[], ◌∷◌}
use Rattle.operator_commands.proofs.Exchanges.{wrote_both}
use Rattle.operator_commands.proofs.telling.write_line.Goals as goal

pub returns : goal.returns
returns g c = record {
  wrote = wrote_both _ _ _ _ _ _ c.args.body.now (10 ∷ []) _ c.in_ok-write_all.ensures.wrote c.write_all-2.ensures.wrote;
}
