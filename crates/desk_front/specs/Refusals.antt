-- The answers to refusals, and to asks that were lost.
use Rattle.std.specs.Prelude.{ℕ, List, ◌++◌, Bool, codes, decimal, if◌then◌else◌}
use Rattle.wire_admin.specs.Refused.{refused_text}
use Rattle.desk_state.specs.declared.refusal.Refusal.{Refusal}
use Rattle.desk_state.specs.declared.refusal.Refusal.TheVariants.{UnknownUser, NameTaken, BadName, UnknownMachine, KeyUnknown, KeyExpired, KeyUsed, TagNotOwned, TagUndefined, NodeKeyTaken, RouteNotAdvertised, RouteOverlaps, PolicyRefused, NotLive, Full, AddressesSpent, UserHasMachines, PendingUnknown, EntropyFault}
use Rattle.desk_state.specs.declared.refusal.Scarce.{Scarce}
use Rattle.desk_state.specs.declared.refusal.Scarce.TheVariants as scarce
use Rattle.tailnet_desk.specs.declared.reply.Loss.{Loss}
use Rattle.tailnet_desk.specs.declared.reply.Loss.TheVariants as loss
use Rattle.desk_front.specs.Faults.{error_body}

abbrev pub scarce_name : Scarce → List ℕ
scarce_name scarce.User = codes "User"
scarce_name scarce.Key = codes "Key"
scarce_name scarce.Pending = codes "Pending"
scarce_name scarce.Machine = codes "Machine"
scarce_name scarce.Session = codes "Session"

-- a machine that isn't known is unauthorized; an operator asks for what isn't there
abbrev pub missing_status : Bool → ℕ
missing_status is_machine = if is_machine then 401 else 404

-- the status of a refusal, to a machine or to an operator
abbrev pub refusal_status : Bool → Refusal → ℕ
refusal_status is_machine UnknownMachine = missing_status is_machine
refusal_status is_machine KeyUnknown = missing_status is_machine
refusal_status is_machine KeyExpired = 401
refusal_status is_machine KeyUsed = 401
refusal_status is_machine NotLive = 401
refusal_status is_machine TagNotOwned = 403
refusal_status is_machine TagUndefined = 403
refusal_status is_machine UnknownUser = 404
refusal_status is_machine PendingUnknown = 404
refusal_status is_machine NameTaken = 409
refusal_status is_machine BadName = 409
refusal_status is_machine NodeKeyTaken = 409
refusal_status is_machine RouteNotAdvertised = 409
refusal_status is_machine RouteOverlaps = 409
refusal_status is_machine UserHasMachines = 409
refusal_status is_machine (PolicyRefused code place) = 422
refusal_status is_machine EntropyFault = 500
refusal_status is_machine (Full kind) = 507
refusal_status is_machine (AddressesSpent family) = 507

-- the body that names it
abbrev pub refusal_body : Refusal → List ℕ
refusal_body UnknownUser = error_body (codes "UnknownUser")
refusal_body NameTaken = error_body (codes "NameTaken")
refusal_body BadName = error_body (codes "BadName")
refusal_body UnknownMachine = error_body (codes "UnknownMachine")
refusal_body KeyUnknown = error_body (codes "KeyUnknown")
refusal_body KeyExpired = error_body (codes "KeyExpired")
refusal_body KeyUsed = error_body (codes "KeyUsed")
refusal_body TagNotOwned = error_body (codes "TagNotOwned")
refusal_body TagUndefined = error_body (codes "TagUndefined")
refusal_body NodeKeyTaken = error_body (codes "NodeKeyTaken")
refusal_body RouteNotAdvertised = error_body (codes "RouteNotAdvertised")
refusal_body RouteOverlaps = error_body (codes "RouteOverlaps")
refusal_body (PolicyRefused code place) = refused_text code place
refusal_body NotLive = error_body (codes "NotLive")
refusal_body (Full kind) =
    codes "{\"error\":\"Full\",\"what\":\"" ++ scarce_name kind ++ codes "\"}"
refusal_body (AddressesSpent family) =
    codes "{\"error\":\"AddressesSpent\",\"family\":" ++ decimal family ++ codes "}"
refusal_body UserHasMachines = error_body (codes "UserHasMachines")
refusal_body PendingUnknown = error_body (codes "PendingUnknown")
refusal_body EntropyFault = error_body (codes "EntropyFault")

-- the status of a loss
abbrev pub loss_status : Loss → ℕ
loss_status loss.NoMemory = 503
loss_status loss.KeeperFault = 500

-- the body that names it
abbrev pub loss_body : Loss → List ℕ
loss_body loss.NoMemory = error_body (codes "NoMemory")
loss_body loss.KeeperFault = error_body (codes "KeeperFault")
