-- Rows as an operator is shown them.
use Rattle.std.specs.Prelude.{ℕ, Bool, false, List, [], Option, Some, None}
use Rattle.net_rows.specs.Rows.{user_with}
use Rattle.net_rows.specs.declared.key.AuthKey.{AuthKey}
use Rattle.net_rows.specs.declared.machine.Machine.{Machine}
use Rattle.net_rows.specs.declared.user.User.{User}
use Rattle.policy_sites.specs.Owners.{machine_login}
use Rattle.policy_sites.specs.Serving.{served_routes}
use Rattle.desk_state.specs.State.{State, is_live, is_live_with, is_online, presence_of}
use Rattle.desk_state.specs.declared.lines.KeyLine.{KeyLine}
use Rattle.desk_state.specs.declared.lines.NodeLine.{NodeLine}
use Rattle.desk_state.specs.declared.presence.Presence.TheVariants.{OfflineSince}

abbrev pub login_in : Option User → List ℕ
login_in (Some user) = user.login
login_in None = []

-- the login of the user of an id
abbrev pub login_of : List User → ℕ → List ℕ
login_of users id = login_in (user_with users id)

abbrev pub key_line : List User → AuthKey → KeyLine
key_line users k = record { row = k; login = login_of users k.user }

-- a machine, live and online or not, with what it serves under the policy in force
abbrev pub line_of : State → Machine → Bool → Bool → NodeLine
line_of s m live online = record {
  row = m;
  login = login_of s.rows.users m.user;
  live = live;
  online = online;
  served = served_routes s.policy (machine_login s.rows.users m) m;
}

-- a machine as it is
abbrev pub node_line : State → Machine → NodeLine
node_line s m = line_of s m (is_live s m) (is_online (presence_of s.presence m.id))

-- a machine that is offline from now on
abbrev pub offline_line : State → Machine → NodeLine
offline_line s m = line_of s m (is_live_with s (Some (OfflineSince s.now)) m) false
