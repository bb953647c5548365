-- Users by login.
use Rattle.std.specs.Prelude.{ℕ, List, Option, Result}
use Rattle.std.specs.List.{find}
use Rattle.std.specs.Str.{bytes_eq}
use Rattle.tail_base.specs.Logins.{login_of}
use Rattle.net_rows.specs.declared.rows.Rows.{Rows}
use Rattle.net_rows.specs.declared.user.User.{User}
use Rattle.tail_base.specs.Steps.{◌>>=◌, or_fault}
use Rattle.desk_state.specs.declared.refusal.Refusal.{Refusal}
use Rattle.desk_state.specs.declared.refusal.Refusal.TheVariants.{UnknownUser}

-- the user of a login
abbrev pub user_of : List User → List ℕ → Option User
user_of users login = find (λ u. bytes_eq u.login login) users

-- the user whose login a text spells, in either case
abbrev pub user_named : Rows → List ℕ → Result User Refusal
user_named rows text = do
  login ← or_fault UnknownUser (login_of text)
  or_fault UnknownUser (user_of rows.users login)
