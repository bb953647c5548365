use Rattle.std.proofs.Common.{drop}
use Rattle.json.specs.Written.{Written}
use Rattle.wire_write.specs.Routes.{behind, route_members}
use Rattle.wire_write.specs.Tokens.{Adds, closing_tokens}
use Rattle.wire_write.proofs.routes.write_members.Given as goal

-- what closes the rest from here closes them all
abbrev pub invariant-loop-route : goal.invariant-loop-route
invariant-loop-route l = (w : Written) → Adds (closing_tokens (route_members (behind (drop l.route-index l.routes)))) l.out w → Adds (closing_tokens (route_members (behind l.routes))) l.fn.out w
