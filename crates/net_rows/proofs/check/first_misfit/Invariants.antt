use Rattle.std.proofs.Common.{◌≡◌, [], take, drop}
use Rattle.net_rows.specs.Damage.{first_misfit}
use Rattle.net_rows.proofs.check.first_misfit.Given as goal

-- what is left leads to the same end
abbrev pub invariant-loop-i : goal.invariant-loop-i
invariant-loop-i g l =
    first_misfit g.T.HasId.id (g.T.TableRow.fits l.rows) (take l.i l.all) (drop l.i l.all) ≡ first_misfit g.T.HasId.id (g.T.TableRow.fits l.rows) [] l.all
