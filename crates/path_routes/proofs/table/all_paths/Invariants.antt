use Rattle.std.proofs.Common.{◌≡◌, drop, map, true}
use Rattle.path_routes.specs.Table.{table, with_paths}
use Rattle.path_routes.proofs.TableLemmas.{are_free, shown}
use Rattle.path_routes.proofs.table.all_paths.Given as goal

abbrev pub invariant-loop-path : goal.invariant-loop-path
invariant-loop-path l = record {
  rest : with_paths l.router (drop l.path-index (map shown l.path-items)) ≡ table;
  free : are_free l.router (drop l.path-index (map shown l.path-items)) ≡ true;
}
