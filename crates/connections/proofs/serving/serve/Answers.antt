use Rattle.std.proofs.Common.{◌≡◌, arith, refl, [], ◌-◌, ◌==◌, false}
use Rattle.std.proofs.lemmas.Bool.Decides.{nat_tests}
use Rattle.io_edge.proofs.Told.{left_nothing}
use Rattle.connections.proofs.ServeLemmas.{serves_none, serves_more}
use Rattle.exit_status.specs.declared.closed.Closed.TheVariants.{NoMemory}
use Rattle.connections.proofs.serving.serve.Goals as goal

pub returns-in_default : goal.returns-in_default
returns-in_default g c = record { serves = serves_none _ c.args.front.now c.args.more NoMemory _ [] [] _ _ _ refl (left_nothing _) (omega arith) ([], refl) }

pub loop-left-preserved : goal.loop-left-preserved
loop-left-preserved g c =
    let goes = c.in-Ok-serve_one.ensures.goes in
    let more : (c.loop-left.left == 1) ≡ false = goes.unfinished in
    let some = c.loop-left.invariant.some in
    record {
      some = grind (arith, nat_tests);
      rest = λ closed new t serves. c.loop-left.invariant.rest closed new t (serves_more _ c.args.front.now c.args.more closed (c.loop-left.left - 1) c.loop-left.left (c.loop-left.left == 1) _ _ _ _ new _ _ t refl some refl goes serves);
    }
