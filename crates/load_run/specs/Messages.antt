-- The bytes of requests.
use Rattle.std.specs.Prelude.{ℕ, ◌+◌, ◌^◌, List, ◌++◌, length, codes, decimal, Option, None, Some}
use Rattle.std.specs.Int.{to_be_bytes, w64}
use Rattle.hex.specs.Hex.{encode_lower}
use Rattle.load_run.specs.declared.known.MachineMemory.{MachineMemory}
use Rattle.load_run.specs.declared.task.PolicyChoice.{PolicyChoice}
use Rattle.load_run.specs.declared.task.PolicyChoice.TheVariants as choice
use Rattle.load_run.specs.declared.task.Task.{Task}
use Rattle.load_run.specs.declared.task.TaskKind.{TaskKind}
use Rattle.load_run.specs.declared.task.TaskKind.TheVariants as kind

-- a head and the 64 digits of a key: the number, its first byte the highest
unfoldable pub numbered_key : List ℕ → ℕ → List ℕ
numbered_key head number = head ++ codes "000000000000000000000000000000000000000000000000" ++ encode_lower (to_be_bytes w64 number)

-- the line that names a machine by its key, which is its number
abbrev pub machine_line : ℕ → List ℕ
machine_line machine = numbered_key (codes "Ts-Machine-Key: mkey:") machine

-- its node key
abbrev pub node_key_of : ℕ → List ℕ
node_key_of machine = numbered_key (codes "nodekey:") (machine + 2 ^ 32)

-- a request of these parts
unfoldable pub message : List ℕ → List ℕ → List ℕ → List ℕ → List ℕ
message method path line body =
    method ++ codes " " ++ path ++ codes " HTTP/1.1\r\nHost: load\r\n" ++ line ++ codes "\r\nContent-Length: " ++ decimal (length body)
    ++ codes "\r\n\r\n" ++ body

abbrev pub machine_message : ℕ → List ℕ → List ℕ → List ℕ
machine_message machine path body = message (codes "POST") path (machine_line machine) body

abbrev pub operator_message : List ℕ → List ℕ → List ℕ → List ℕ
operator_message method path body = message method path (codes "Authorization: Bearer secret") body

-- a registration with the key `k1`
unfoldable pub register_body : List ℕ → List ℕ
register_body node = codes "{\"Auth\":{\"AuthKey\":\"k1\"},\"Hostinfo\":{\"Hostname\":\"load\"},\"NodeKey\":\"" ++ node ++ codes "\"}"

abbrev pub register_message : ℕ → List ℕ
register_message machine = machine_message machine (codes "/machine/register") (register_body (node_key_of machine))

-- an update with one endpoint
unfoldable pub point_body : ℕ → List ℕ → List ℕ
point_body last node =
    codes "{\"Endpoints\":[\"192.0.2." ++ decimal last ++ codes ":41641\"],\"NodeKey\":\"" ++ node
    ++ codes "\",\"OmitPeers\":true,\"ReadOnly\":false,\"Stream\":false}"

abbrev pub point_message : ℕ → ℕ → List ℕ
point_message machine last = machine_message machine (codes "/machine/map") (point_body last (node_key_of machine))

-- an update without endpoints and with one route
unfoldable pub announce_body : ℕ → List ℕ → List ℕ
announce_body second node =
    codes "{\"Endpoints\":[],\"Hostinfo\":{\"RoutableIPs\":[\"10." ++ decimal second ++ codes ".0.0/16\"]},\"NodeKey\":\"" ++ node
    ++ codes "\",\"OmitPeers\":true,\"ReadOnly\":false,\"Stream\":false}"

abbrev pub announce_message : ℕ → ℕ → List ℕ
announce_message machine second = machine_message machine (codes "/machine/map") (announce_body second (node_key_of machine))

-- a poll with the last handle and number
unfoldable pub poll_body : List ℕ → ℕ → List ℕ → List ℕ
poll_body handle seq node =
    codes "{\"MapSessionHandle\":\"" ++ handle ++ codes "\",\"MapSessionSeq\":" ++ decimal seq ++ codes ",\"NodeKey\":\"" ++ node
    ++ codes "\",\"OmitPeers\":false,\"Stream\":true}"

abbrev pub poll_message : ℕ → MachineMemory → List ℕ
poll_message machine known = machine_message machine (codes "/machine/map") (poll_body known.handle known.seq (node_key_of machine))

abbrev pub policy_text : PolicyChoice → List ℕ
policy_text choice.Open = codes "{}"
policy_text choice.Closed = codes "{\"acls\":[]}"
policy_text choice.First = codes "{\"acls\":[{\"action\":\"accept\",\"src\":[\"100.64.0.1\"],\"dst\":[\"*:*\"]}]}"

abbrev pub save_message : PolicyChoice → List ℕ
save_message chosen = operator_message (codes "PUT") (codes "/api/v1/policy") (policy_text chosen)

-- one route, or none
abbrev pub routes_body : Option ℕ → List ℕ
routes_body None = codes "{\"routes\":[]}"
routes_body (Some second) = codes "{\"routes\":[\"10." ++ decimal second ++ codes ".0.0/16\"]}"

abbrev pub approve_message : ℕ → Option ℕ → List ℕ
approve_message machine route = operator_message (codes "POST") (codes "/api/v1/node/" ++ decimal machine ++ codes "/routes") (routes_body route)

abbrev pub rename_message : ℕ → ℕ → List ℕ
rename_message machine number = operator_message (codes "POST") (codes "/api/v1/node/" ++ decimal machine ++ codes "/rename")
    (codes "{\"name\":\"n" ++ decimal number ++ codes "\"}")

-- the request of a kind, of a machine that knows so much
abbrev pub kind_message : ℕ → TaskKind → MachineMemory → List ℕ
kind_message machine kind.Register known = register_message machine
kind_message machine (kind.Point last) known = point_message machine last
kind_message machine kind.Poll known = poll_message machine known
kind_message machine (kind.Save chosen) known = save_message chosen
kind_message machine (kind.Announce second) known = announce_message machine second
kind_message machine kind.Approve known = approve_message machine known.route
kind_message machine (kind.Rename number) known = rename_message machine number

unfoldable pub task_message : Task → MachineMemory → List ℕ
task_message task known = kind_message task.machine task.kind known
