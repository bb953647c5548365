-- Users as operators are shown them: keys in byte order, without spaces.
use Rattle.std.specs.Prelude.{ℕ, List, codes}
use Rattle.serde_json.specs.Data.{Data, string, object, no_members, member}
use Rattle.serde_json.specs.Written.{compact_text}
use Rattle.net_rows.specs.declared.user.User.{User}
use Rattle.wire_write.specs.Parts.{number_data, array_data}

-- a user
unfoldable pub user_data : User → Data
user_data u = object (
    member (codes "id") (number_data u.id) (
    member (codes "login") (string u.login) no_members))

abbrev pub user_text : User → List ℕ
user_text u = compact_text (user_data u)

-- users in their order
unfoldable pub users_data : List User → Data
users_data us = object (member (codes "users") (array_data user_data us) no_members)

abbrev pub users_text : List User → List ℕ
users_text us = compact_text (users_data us)
