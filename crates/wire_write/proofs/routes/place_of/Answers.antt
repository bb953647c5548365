use Rattle.std.proofs.Common.{◌∙◌, arith, length}
use Rattle.wire_write.specs.Routes.{behind}
use Rattle.wire_write.proofs.RouteLemmas.{behind_long, compared, goes_before, goes_last, goes_on, goes_there}
use Rattle.wire_write.proofs.routes.place_of.Goals as goal

pub returns-in-Less-clause-absent : goal.returns-in-Less-clause-absent
returns-in-Less-clause-absent c = goes_before c.args.route.now c.loop-i.i (behind c.args.routes.now) c.index-routes-i.result.now (omega (arith, behind_long c.args.routes.now)) (compared c.args.route.now c.args.routes.now c.loop-i.i c.index-routes-i.result c.as_str.result.now c.as_str-in-loop-i.result.now c.cmp.result c.as_str.ensures.value c.as_str-in-loop-i.ensures.value c.cmp.ensures ∙ c.in-Less.is) c.loop-i.invariant

pub returns-in-Equal-clause-there : goal.returns-in-Equal-clause-there
returns-in-Equal-clause-there c = goes_there c.args.route.now c.loop-i.i (behind c.args.routes.now) c.index-routes-i.result.now (omega (arith, behind_long c.args.routes.now)) (compared c.args.route.now c.args.routes.now c.loop-i.i c.index-routes-i.result c.as_str.result.now c.as_str-in-loop-i.result.now c.cmp.result c.as_str.ensures.value c.as_str-in-loop-i.ensures.value c.cmp.ensures ∙ c.in-Equal.is) c.loop-i.invariant

pub loop-i-preserved : goal.loop-i-preserved
loop-i-preserved c = goes_on c.args.route.now c.loop-i.i (behind c.args.routes.now) c.index-routes-i.result.now (omega (arith, behind_long c.args.routes.now)) (compared c.args.route.now c.args.routes.now c.loop-i.i c.index-routes-i.result c.as_str.result.now c.as_str-in-loop-i.result.now c.cmp.result c.as_str.ensures.value c.as_str-in-loop-i.ensures.value c.cmp.ensures ∙ c.in-Greater.is) c.loop-i.invariant

pub returns-clause-absent : goal.returns-clause-absent
returns-clause-absent c = goes_last c.args.route.now c.loop-i.i (length c.args.routes.now) (behind c.args.routes.now) (omega arith) (omega (arith, behind_long c.args.routes.now)) c.loop-i.invariant
