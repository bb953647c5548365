-- What a machine sees, and nothing else.
use Rattle.std.specs.Prelude.{◌==◌, ◌||◌, filter}
use Rattle.peer_view.specs.Seen.{Node, Seen, sees}

-- The same with the machine and those that it sees as the only live ones.
abbrev pub only_seen : Seen → Node → Seen
only_seen w m = record w { nodes = filter (λ q. q.row.id == m.row.id || sees w m q) w.nodes }
