-- Whose machine it is.
use Rattle.std.specs.Prelude.{ℕ, List, [], Option, Some, None}
use Rattle.net_rows.specs.Rows.{user_with}
use Rattle.net_rows.specs.declared.machine.Machine.{Machine}
use Rattle.net_rows.specs.declared.user.User.{User}

-- the login of a user; tables without the user, which no rule allows, give an empty one
abbrev pub login_or_empty : Option User → List ℕ
login_or_empty None = []
login_or_empty (Some user) = user.login

-- the login of the machine's user
abbrev pub machine_login : List User → Machine → List ℕ
machine_login users m = login_or_empty (user_with users m.user)
