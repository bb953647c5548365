-- The request of each command.
use Rattle.std.specs.Prelude.{ℕ, Bool, ◌||◌, ◌==◌, List, ◌++◌, Option, Some, None, codes}
use Rattle.std.specs.Char.{is_ascii_alphanumeric}
use Rattle.std.specs.Fmt.{decimal}
use Rattle.percent_encoding.specs.Percent.{percent_encode}
use Rattle.serde_json.specs.Data.{Data, string, object, no_members}
use Rattle.serde_json.specs.Written.{compact_text}
use Rattle.command_words.specs.declared.invocation.OperatorCommand.{OperatorCommand}
use Rattle.command_words.specs.declared.invocation.OperatorCommand.TheVariants as command
use Rattle.operator_requests.specs.Bodies.{admission_body, key_body, list_data, only_member}
use Rattle.operator_requests.specs.declared.paths.TheConstants.{LOGIN_ESCAPED}
use Rattle.operator_requests.specs.declared.request.AskMethod.{AskMethod}
use Rattle.operator_requests.specs.declared.request.AskMethod.TheVariants as method
use Rattle.operator_requests.specs.declared.request.OperatorRequest.{OperatorRequest}

abbrev pub method_name : AskMethod → List ℕ
method_name method.Get = codes "GET"
method_name method.Post = codes "POST"
method_name method.Put = codes "PUT"
method_name method.Delete = codes "DELETE"

abbrev pub get_of : List ℕ → OperatorRequest
get_of path = record { method = method.Get; path = path; body = None }

abbrev pub delete_of : List ℕ → OperatorRequest
delete_of path = record { method = method.Delete; path = path; body = None }

abbrev pub post_of : List ℕ → Data → OperatorRequest
post_of path d = record { method = method.Post; path = path; body = Some (compact_text d) }

abbrev pub put_of : List ℕ → List ℕ → OperatorRequest
put_of path file = record { method = method.Put; path = path; body = Some file }

-- a byte of a login that stands in a path as it is: a letter, a digit, `.`, `_`, `+`, `-` or `@`
abbrev pub is_login_byte : ℕ → Bool
is_login_byte b = is_ascii_alphanumeric b || b == 46 || b == 95 || b == 43 || b == 45 || b == 64

-- The path of a user. A login's bytes other than letters, digits, `.`, `_`, `+`, `-` and `@` are percent-encoded.
abbrev pub user_path : List ℕ → List ℕ
user_path login = codes "/api/v1/user/" ++ percent_encode LOGIN_ESCAPED login

abbrev pub key_path : ℕ → List ℕ
key_path id = codes "/api/v1/preauthkey/" ++ decimal id

-- the path of a machine, and what is asked of it
abbrev pub node_path : ℕ → List ℕ → List ℕ
node_path id part = codes "/api/v1/node/" ++ decimal id ++ part

-- the request of a command, with the bytes of its file, if it has one
unfoldable pub command_request : OperatorCommand → List ℕ → OperatorRequest
command_request command.UserList file = get_of (codes "/api/v1/user")
command_request (command.UserAdd name) file = post_of (codes "/api/v1/user") (only_member (codes "name") (string name))
command_request (command.UserDel login) file = delete_of (user_path login)
command_request command.KeyList file = get_of (codes "/api/v1/preauthkey")
command_request (command.KeyAdd login reusable ephemeral expiry tags) file =
    post_of (codes "/api/v1/preauthkey") (key_body login reusable ephemeral expiry tags)
command_request (command.KeyExpire id) file = delete_of (key_path id)
command_request command.NodeList file = get_of (codes "/api/v1/node")
command_request (command.NodeDel id) file = delete_of (node_path id (codes ""))
command_request (command.NodeExpire id) file = post_of (node_path id (codes "/expire")) (object no_members)
command_request (command.NodeRename id name) file = post_of (node_path id (codes "/rename")) (only_member (codes "name") (string name))
command_request (command.NodeTags id list) file = post_of (node_path id (codes "/tags")) (only_member (codes "tags") (list_data list))
command_request (command.NodeRoutes id list) file = post_of (node_path id (codes "/routes")) (only_member (codes "routes") (list_data list))
command_request command.PendingList file = get_of (codes "/api/v1/register")
command_request (command.PendingAdmit pending login) file = post_of (codes "/api/v1/register") (admission_body pending login)
command_request command.PolicyGet file = get_of (codes "/api/v1/policy")
command_request (command.PolicySet name) file = put_of (codes "/api/v1/policy") file
command_request command.DnsGet file = get_of (codes "/api/v1/dns")
command_request (command.DnsSet name) file = put_of (codes "/api/v1/dns") file
command_request command.Sweep file = post_of (codes "/api/v1/sweep") (object no_members)

-- the name of the file that a command sends, if it sends one
abbrev pub file_of : OperatorCommand → Option (List ℕ)
file_of (command.PolicySet name) = Some name
file_of (command.DnsSet name) = Some name
file_of command.UserList = None
file_of (command.UserAdd name) = None
file_of (command.UserDel login) = None
file_of command.KeyList = None
file_of (command.KeyAdd login reusable ephemeral expiry tags) = None
file_of (command.KeyExpire id) = None
file_of command.NodeList = None
file_of (command.NodeDel id) = None
file_of (command.NodeExpire id) = None
file_of (command.NodeRename id name) = None
file_of (command.NodeTags id list) = None
file_of (command.NodeRoutes id list) = None
file_of command.PendingList = None
file_of (command.PendingAdmit pending login) = None
file_of command.PolicyGet = None
file_of command.DnsGet = None
file_of command.Sweep = None
