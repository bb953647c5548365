-- Answers to a registration (`tailcfg.RegisterResponse`) as JSON, keys in byte order, without spaces.
use Rattle.std.specs.Prelude.{ℕ, List, [], ◌++◌, Bool, true, false, codes}
use Rattle.serde_json.specs.Data.{Data, string, boolean, object, no_members, member}
use Rattle.serde_json.specs.Written.{compact_text}
use Rattle.tailcfg.specs.declared.profile.Profile.{Profile}
use Rattle.wire_write.specs.Parts.{number_data}

-- the user for whom the machine is registered (`tailcfg.Login`)
abbrev pub login_data : Profile → Data
login_data p = object (member (codes "ID") (number_data p.id) (member (codes "LoginName") (string p.login) no_members))

-- that user, as shown (`tailcfg.User`)
abbrev pub user_data : Profile → Data
user_data p = object (member (codes "DisplayName") (string p.display) (member (codes "ID") (number_data p.id) no_members))

-- an answer: the URL, the user, whether the machine is admitted, whether its node key has expired
unfoldable pub answer_data : List ℕ → Profile → Bool → Bool → Data
answer_data url p authorized expired = object (
    member (codes "AuthURL") (string url) (
    member (codes "Error") (string []) (
    member (codes "Login") (login_data p) (
    member (codes "MachineAuthorized") (boolean authorized) (
    member (codes "NodeKeyExpired") (boolean expired) (
    member (codes "User") (user_data p) no_members))))))

-- the machine is registered for the user of this profile
abbrev pub registered_text : Profile → Bool → List ℕ
registered_text p expired = compact_text (answer_data [] p true expired)

-- nobody
abbrev pub nobody : Profile
nobody = record { id = 0; login = []; display = [] }

-- where an operator is told which machine waits
abbrev pub login_url : List ℕ → List ℕ → List ℕ
login_url server pending = server ++ codes "/register/" ++ pending

-- the machine waits for an operator
abbrev pub login_at_text : List ℕ → List ℕ → List ℕ
login_at_text server pending = compact_text (answer_data (login_url server pending) nobody false false)
