-- Routes in order: by family, IPv4 first, then by base, then by length.
use Rattle.std.specs.Prelude.{List}
use Rattle.std.specs.declared.cmp.Ordering.{Ordering}
use Rattle.std.specs.Ordering.{bool_cmp, nat_cmp, ordering_then}
use Rattle.tail_base.specs.Sorted.{sorted_once}
use Rattle.net_addr.specs.Bits.{Block}

-- how two routes compare
abbrev pub route_cmp : Block → Block → Ordering
route_cmp p q = ordering_then (bool_cmp p.base.v6 q.base.v6) (ordering_then (nat_cmp p.base.bits q.base.bits) (nat_cmp p.len q.len))

-- the routes in order, each once
abbrev pub sorted_routes : List Block → List Block
sorted_routes routes = sorted_once route_cmp routes
