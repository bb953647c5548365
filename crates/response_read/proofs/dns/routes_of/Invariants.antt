use Rattle.std.proofs.Common.{◌≡◌, []}
use Rattle.serde_json.specs.View.{members_view}
use Rattle.response_read.specs.Dns.{routes_behind}
use Rattle.response_read.proofs.dns.routes_of.Given as goal

-- what is read so far, before what is left to read
abbrev pub invariant-loop-suffix : goal.invariant-loop-suffix
invariant-loop-suffix l = routes_behind l.routes (members_view l.suffix-iterator) ≡ routes_behind [] (members_view l.members.entries)
