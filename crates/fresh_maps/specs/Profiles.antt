-- Users as others are shown them (`tailcfg.UserProfile`).
use Rattle.std.specs.Prelude.{ℕ, Bool, List, [], ◌∷◌, ◌++◌, Option, None, Some, ◌==◌, map, filter, codes, if◌then◌else◌}
use Rattle.std.specs.List.{before_first, list_any}
use Rattle.net_rows.specs.Rows.{user_with}
use Rattle.net_rows.specs.declared.user.User.{User}
use Rattle.tailcfg.specs.declared.node_row.NodeRow.{NodeRow}
use Rattle.tailcfg.specs.declared.profile.Profile.{Profile}
use Rattle.peer_view.specs.declared.node.TheConstants.{TAGGED_OWNER}

-- the login before its `@`
abbrev pub display_of : List ℕ → List ℕ
display_of login = before_first (λ b. b == 64) login

-- the profile of a user
abbrev pub user_profile : User → Profile
user_profile user = record { id = user.id; login = user.login; display = display_of user.login }

-- the profile of a user of an id; tables without the user, which no rule allows, give an empty one
abbrev pub profile_in : ℕ → Option User → Profile
profile_in id None = record { id = id; login = []; display = [] }
profile_in id (Some user) = record { id = id; login = user.login; display = display_of user.login }

abbrev pub profile_of : List User → ℕ → Profile
profile_of users id = profile_in id (user_with users id)

-- the profile that tagged machines are shown with
abbrev pub tagged_profile : Profile
tagged_profile = record { id = TAGGED_OWNER; login = codes "tagged-devices"; display = codes "Tagged Devices" }

-- one of the nodes belongs to that user
abbrev pub owns_any : List NodeRow → ℕ → Bool
owns_any nodes id = list_any (λ n. n.user == id) nodes

-- the owners of the nodes by ascending id, which is that of the users; the tagged owner's is above all of them
abbrev pub owners_of : List User → List NodeRow → List Profile
owners_of users nodes =
    map user_profile (filter (λ u. owns_any nodes u.id) users) ++ (if owns_any nodes TAGGED_OWNER then tagged_profile ∷ [] else [])
