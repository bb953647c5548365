-- What a machine serves.
use Rattle.std.specs.Prelude.{◌&&◌, ◌||◌, ◌++◌, ℕ, Bool, List, [], Option, if◌then◌else◌}
use Rattle.net_addr.specs.Bits.{Address, Block}
use Rattle.net_rows.specs.Damage.{address_eq}
use Rattle.net_rows.specs.declared.machine.Machine.{Machine}
use Rattle.policy_rows.specs.Internet.{is_internet}
use Rattle.policy_rows.specs.declared.policy.Policy.{Policy}
use Rattle.range_sets.specs.Sets.{some_holds}
use Rattle.policy_sites.specs.Approvals.{approved_of, is_exit}
use Rattle.policy_sites.specs.Exits.{exit_routes}

-- What is served with two addresses, with approved routes, and, by an exit node, the internet.
abbrev pub serves_with : Address → Address → List Block → Bool → Address → Bool
serves_with v4 v6 approved exit addr =
    address_eq v4 addr || address_eq v6 addr || some_holds approved addr || exit && is_internet addr

-- What a machine serves: its own addresses, its approved routes, and as an exit node the internet.
abbrev pub machine_serves : Option Policy → List ℕ → Machine → Address → Bool
machine_serves policy login m addr = serves_with m.v4 m.v6 (approved_of policy login m) (is_exit policy login m) addr

-- the exit routes of an exit node, and none of another machine
abbrev pub exits_if : Bool → List Block
exits_if exit = if exit then exit_routes else []

-- What operators are shown of it: the approved routes, and behind them both exit routes of an exit node.
abbrev pub served_routes : Option Policy → List ℕ → Machine → List Block
served_routes policy login m = approved_of policy login m ++ exits_if (is_exit policy login m)
