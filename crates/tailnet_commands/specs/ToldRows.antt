-- What a run of `pipe` says of the rows that its opener told before, where the opener tells rows at the end.
use Rattle.std.specs.Prelude.{ℕ, Option, List, IsSome}
use Rattle.io_edge.specs.Edge.{IsWhereTold}
use Rattle.net_rows.specs.declared.change.Kind.{Kind}
use Rattle.exit_status.specs.declared.closed.Closed.{Closed}
use Rattle.exit_status.specs.declared.ended.Ended.TheVariants as ended
use Rattle.tailnet_commands.specs.Outside.{Outside}
use Rattle.tailnet_commands.specs.Pipe.{Piped}
use Rattle.tailnet_commands.specs.Run.{IsUnopened}

-- a connection was served from them on
abbrev pub ServesToldRows : Type 0
ServesToldRows = (closing : Closed) (name : List ℕ) (seed : Option (List ℕ)) (old new : Outside) → IsSome new.rows
    → (p : Piped (ended.Closed closing) name seed old new) → IsWhereTold p.talk.rows old.rows

-- damage is theirs
abbrev pub RefusesToldRows : Type 0
RefusesToldRows = (kind : Kind) (id : ℕ) (name : List ℕ) (seed : Option (List ℕ)) (old new : Outside) → IsSome new.rows
    → Piped (ended.Damaged kind id) name seed old new → IsUnopened kind id old.rows
