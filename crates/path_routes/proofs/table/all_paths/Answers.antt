use Rattle.std.proofs.Common.{◌∙◌, sym}
use Rattle.path_routes.proofs.TableLemmas.{first_free, first_with, next_free, rest_free, rest_with}
use Rattle.path_routes.proofs.table.all_paths.Goals as goal

pub loop-path-init : goal.loop-path-init
loop-path-init c = record { rest = first_with c.new-router.result c.new-router.ensures; free = first_free c.new-router.result c.new-router.ensures }

pub enter-requires : goal.enter-requires
enter-requires c = record { free = search (next_free, c.loop-path-test.true, c.loop-path.invariant.free) }

pub loop-path-preserved : goal.loop-path-preserved
loop-path-preserved c =
    rw c.in_ok-enter.ensures.ok
    record {
      rest = sym (search (rest_with, c.loop-path-test.true)) ∙ c.loop-path.invariant.rest;
      free = search (rest_free, c.loop-path-test.true, c.loop-path.invariant.free);
    }
