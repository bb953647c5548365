-- Whether one more row may be added.
use Rattle.std.specs.Prelude.{Bool, false, length, nat_lt, ◌&&◌}
use Rattle.net_rows.specs.declared.limits.TheConstants.{COUNTER_LIMIT, USER_LIMIT, KEY_LIMIT, PENDING_LIMIT, MACHINE_LIMIT}
use Rattle.net_rows.specs.Rows.{Rows}
use Rattle.net_rows.specs.declared.change.Kind.{Kind}
use Rattle.net_rows.specs.declared.change.Kind.TheVariants as kind

-- The rows of the kind are below their limit, and its counter is below the greatest.
abbrev pub has_room : Rows → Kind → Bool
has_room t kind.User = nat_lt (length t.users) USER_LIMIT && nat_lt t.next.user COUNTER_LIMIT
has_room t kind.Key = nat_lt (length t.keys) KEY_LIMIT && nat_lt t.next.key COUNTER_LIMIT
has_room t kind.Pending = nat_lt (length t.pending) PENDING_LIMIT && nat_lt t.next.pending COUNTER_LIMIT
has_room t kind.Machine = nat_lt (length t.machines) MACHINE_LIMIT && nat_lt t.next.machine COUNTER_LIMIT
has_room t kind.Meta = false
has_room t kind.Extras = false
has_room t kind.Policy = false
