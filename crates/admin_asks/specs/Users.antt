-- Operators make, list and remove users.
use Rattle.std.specs.Prelude.{◌+◌, ℕ, Bool, List, [], ◌∷◌, ◌++◌, map, filter, Result, Ok, codes, ◌==◌, not, if◌then◌else◌}
use Rattle.std.specs.List.{list_any}
use Rattle.std.specs.Str.{bytes_eq}
use Rattle.tail_base.specs.Logins.{login_of}
use Rattle.tail_base.specs.Steps.{◌>>=◌, or_fault, refuse_if}
use Rattle.net_rows.specs.Room.{has_room}
use Rattle.net_rows.specs.declared.change.Change.{Change}
use Rattle.net_rows.specs.declared.change.Kind.TheVariants as kind
use Rattle.net_rows.specs.declared.change.Row.TheVariants as row
use Rattle.net_rows.specs.declared.change.RowKey.{RowKey}
use Rattle.net_rows.specs.declared.change.RowKey.TheVariants as gone
use Rattle.net_rows.specs.declared.key.AuthKey.{AuthKey}
use Rattle.net_rows.specs.declared.machine.Machine.{Machine}
use Rattle.net_rows.specs.declared.rows.Rows.{Rows}
use Rattle.net_rows.specs.declared.user.User.{User}
use Rattle.desk_state.specs.Decisions.{only, changing}
use Rattle.desk_state.specs.State.{State}
use Rattle.desk_state.specs.Users.{user_named}
use Rattle.desk_state.specs.declared.decision.Decision.{Decision}
use Rattle.desk_state.specs.declared.refusal.Refusal.{Refusal}
use Rattle.desk_state.specs.declared.refusal.Refusal.TheVariants.{BadName, NameTaken, Full, UserHasMachines}
use Rattle.desk_state.specs.declared.refusal.Scarce.TheVariants as scarce
use Rattle.admin_asks.specs.declared.operator_answer.OperatorAnswer.{OperatorAnswer}
use Rattle.admin_asks.specs.declared.operator_answer.OperatorAnswer.TheVariants as answer

-- the name has an `@`
abbrev pub has_at : List ℕ → Bool
has_at name = list_any (λ b. b == 64) name

-- a name without `@` gets one at its end
abbrev pub with_at : List ℕ → List ℕ
with_at name = if has_at name then name else name ++ codes "@"

-- a user has the login
abbrev pub is_login_taken : List User → List ℕ → Bool
is_login_taken users login = list_any (λ u. bytes_eq u.login login) users

-- the user with the next id
abbrev pub new_user : Rows → List ℕ → User
new_user t login = record { id = t.next.user; login = login }

-- the user is put, and the next id is one more
abbrev pub user_change : Rows → User → Change
user_change t user = record {
  puts = row.User user ∷ [];
  gone = [];
  next = record t.next { user = t.next.user + 1 };
}

-- the user is made, and is the answer
abbrev pub added_user : Rows → List ℕ → Decision OperatorAnswer
added_user t login = changing (user_change t (new_user t login)) (answer.User (new_user t login))

-- a name has to spell a login that no user has, and there has to be room
abbrev pub add_user : State → List ℕ → Result (Decision OperatorAnswer) Refusal
add_user s name = do
  login ← or_fault BadName (login_of (with_at name))
  free ← refuse_if (is_login_taken s.rows.users login) NameTaken
  room ← refuse_if (not (has_room s.rows kind.User)) (Full scarce.User)
  Ok (added_user s.rows login)

-- the users by id
abbrev pub users : State → Result (Decision OperatorAnswer) Refusal
users s = Ok (only (answer.Users s.rows.users))

-- a machine is the user's
abbrev pub has_machine : List Machine → ℕ → Bool
has_machine machines user = list_any (λ m. m.user == user) machines

-- the keys of the user go
abbrev pub keys_gone : List AuthKey → ℕ → List RowKey
keys_gone keys user = map (λ (k : AuthKey). gone.Key k.id) (filter (λ k. k.user == user) keys)

-- the user goes, after the user's keys
abbrev pub user_gone : Rows → User → Change
user_gone t user = record {
  puts = [];
  gone = keys_gone t.keys user.id ++ gone.User user.id ∷ [];
  next = t.next;
}

-- a user without machines goes, and the user's keys
abbrev pub drop_user : State → List ℕ → Result (Decision OperatorAnswer) Refusal
drop_user s login = do
  user ← user_named s.rows login
  idle ← refuse_if (has_machine s.rows.machines user.id) UserHasMachines
  Ok (changing (user_gone s.rows user) answer.Gone)
