-- What a request wants: the path first, then the method, then the machine's key or the operator's
-- token, then the body.
use Rattle.std.specs.Prelude.{Option, None, Some, codes, if◌then◌else◌}
use Rattle.http_front.specs.declared.request.Request.{Request}
use Rattle.server_settings.specs.declared.fields.ServerFields.{ServerFields}
use Rattle.path_routes.specs.Finds.{found_in, owner_in}
use Rattle.path_routes.specs.declared.found.Found.{Found}
use Rattle.desk_front.specs.Actions.{action_of}
use Rattle.desk_front.specs.AdminWants.{admin_wants, is_authorized}
use Rattle.desk_front.specs.Faults.{fault_answer}
use Rattle.desk_front.specs.MachineWants.{header_key, machine_wants}
use Rattle.desk_front.specs.declared.action.Action.{Action}
use Rattle.desk_front.specs.declared.action.Action.TheVariants.{Machine, Operator}
use Rattle.desk_front.specs.declared.action.OperatorAction.{OperatorAction}
use Rattle.desk_front.specs.declared.front_settings.FrontSettings.{FrontSettings}
use Rattle.desk_front.specs.declared.want.Wanted.{Wanted}

-- what the front is told by settings
abbrev pub front_settings : ServerFields → FrontSettings
front_settings settings = record { token = settings.token; server_url = settings.server_url }

-- an operator has to give the token
abbrev pub operator_wants : FrontSettings → Request → Found → OperatorAction → Wanted
operator_wants settings r found a =
    if is_authorized settings.token r.token then
    admin_wants a found.id (owner_in r.path found) r.body
    else fault_answer 401 (codes "BadToken")

-- who asks: a machine with its key, or an operator
abbrev pub caller_wants : FrontSettings → Request → Found → Action → Wanted
caller_wants settings r found (Machine a) = machine_wants a (header_key r.machine) r.body
caller_wants settings r found (Operator a) = operator_wants settings r found a

-- the path takes the method, or doesn't
abbrev pub method_wants : FrontSettings → Request → Found → Option Action → Wanted
method_wants settings r found None = fault_answer 405 (codes "BadMethod")
method_wants settings r found (Some a) = caller_wants settings r found a

-- the path leads somewhere, or doesn't
abbrev pub path_wants : FrontSettings → Request → Option Found → Wanted
path_wants settings r None = fault_answer 404 (codes "NoPath")
path_wants settings r (Some found) = method_wants settings r found (action_of found.route r.method)

-- what a request wants of the desk, or its fixed answer
unfoldable pub wanted_of : FrontSettings → Request → Wanted
wanted_of settings r = path_wants settings r (found_in r.path)
