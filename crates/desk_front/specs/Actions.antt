-- What a request does, by its path and its method.
use Rattle.std.specs.Prelude.{ℕ, List, Option, Some, None, codes, if◌then◌else◌}
use Rattle.std.specs.Option.{option_or}
use Rattle.std.specs.Str.{bytes_eq}
use Rattle.path_routes.specs.declared.route.Route.{Route}
use Rattle.path_routes.specs.declared.route.Route.TheVariants as route
use Rattle.desk_front.specs.declared.action.Action.{Action}
use Rattle.desk_front.specs.declared.action.Action.TheVariants.{Machine, Operator}
use Rattle.desk_front.specs.declared.action.MachineAction.TheVariants as machine
use Rattle.desk_front.specs.declared.action.OperatorAction.TheVariants as operator

-- the action, if the method is that one, byte for byte
abbrev pub if_method : List ℕ → List ℕ → Action → Option Action
if_method method name a = if bytes_eq method name then Some a else None

-- what a method does at a path
abbrev pub action_of : Route → List ℕ → Option Action
action_of route.Register method = if_method method (codes "POST") (Machine machine.Register)
action_of route.Map method = if_method method (codes "POST") (Machine machine.Map)
action_of route.Users method =
    option_or (if_method method (codes "GET") (Operator operator.Users))
    (if_method method (codes "POST") (Operator operator.AddUser))
action_of route.User method = if_method method (codes "DELETE") (Operator operator.DropUser)
action_of route.Keys method =
    option_or (if_method method (codes "GET") (Operator operator.Keys))
    (if_method method (codes "POST") (Operator operator.AddKey))
action_of route.Key method = if_method method (codes "DELETE") (Operator operator.ExpireKey)
action_of route.Nodes method = if_method method (codes "GET") (Operator operator.Nodes)
action_of route.Node method = if_method method (codes "DELETE") (Operator operator.DropNode)
action_of route.NodeExpire method = if_method method (codes "POST") (Operator operator.ExpireNode)
action_of route.NodeRename method = if_method method (codes "POST") (Operator operator.Rename)
action_of route.NodeTags method = if_method method (codes "POST") (Operator operator.SetTags)
action_of route.NodeRoutes method = if_method method (codes "POST") (Operator operator.SetRoutes)
action_of route.Waiting method =
    option_or (if_method method (codes "GET") (Operator operator.Waiting))
    (if_method method (codes "POST") (Operator operator.Admit))
action_of route.Policy method =
    option_or (if_method method (codes "GET") (Operator operator.Policy))
    (if_method method (codes "PUT") (Operator operator.SavePolicy))
action_of route.Dns method =
    option_or (if_method method (codes "GET") (Operator operator.Extras))
    (if_method method (codes "PUT") (Operator operator.SetExtras))
action_of route.Sweep method = if_method method (codes "POST") (Operator operator.Sweep)
