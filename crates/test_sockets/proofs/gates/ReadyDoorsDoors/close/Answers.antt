use Rattle.std.proofs.Common.{◌-◌, ◌+◌, ◌^◌, min, ap, refl, sym}
use Rattle.test_sockets.proofs.Zeros.{no_faults}
use Rattle.test_sockets.proofs.gates.ReadyDoorsDoors.close.Goals as goal

pub returns-clause-faults : goal.returns-clause-faults
returns-clause-faults g c = ap (λ n. min (0 + n) (2 ^ 64 - 1)) (sym (no_faults _ (λ x. refl) c.args.doors.items))
