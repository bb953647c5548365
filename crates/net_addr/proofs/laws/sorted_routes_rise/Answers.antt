use Rattle.tail_base.proofs.SortedLemmas.{sorted_once_any, sorted_once_rises}
use Rattle.net_addr.specs.Routes.{route_cmp}
use Rattle.net_addr.proofs.RouteLemmas.{route_cmp_same, route_cmp_total}
use Rattle.net_addr.proofs.laws.sorted_routes_rise.Goals as goal

pub returns : goal.returns
returns c = record {
  rise = sorted_once_rises route_cmp route_cmp_total;
  same = sorted_once_any route_cmp route_cmp_same;
}
