-- How long the lists are that an operator's ask hands in.
use Rattle.std.specs.Prelude.{◌≤◌, length}
use Rattle.tailcfg.specs.declared.limits.TheConstants.{ASKED_TAG_LIMIT, ROUTE_LIMIT}
use Rattle.net_rows.specs.declared.limits.TheConstants.{EXTRA_LIMIT, TAG_LIMIT}
use Rattle.admin_asks.specs.declared.operator_ask.OperatorAsk.{OperatorAsk}
use Rattle.admin_asks.specs.declared.operator_ask.OperatorAsk.TheVariants as ask

-- Tags, routes and extra records are within the limits of rows.
abbrev pub IsShortOperatorAsk : OperatorAsk → Type 0
IsShortOperatorAsk (ask.AddUser name) = Unit {0}
IsShortOperatorAsk ask.Users = Unit {0}
IsShortOperatorAsk (ask.DropUser login) = Unit {0}
IsShortOperatorAsk (ask.AddKey form) = length form.tags ≤ ASKED_TAG_LIMIT
IsShortOperatorAsk ask.Keys = Unit {0}
IsShortOperatorAsk (ask.ExpireKey id) = Unit {0}
IsShortOperatorAsk ask.Nodes = Unit {0}
IsShortOperatorAsk ask.Waiting = Unit {0}
IsShortOperatorAsk (ask.Admit pending login) = Unit {0}
IsShortOperatorAsk (ask.ExpireNode id expiry) = Unit {0}
IsShortOperatorAsk (ask.Rename id name) = Unit {0}
IsShortOperatorAsk (ask.SetTags id tags) = length tags ≤ TAG_LIMIT
IsShortOperatorAsk (ask.SetRoutes id routes) = length routes ≤ ROUTE_LIMIT
IsShortOperatorAsk (ask.DropNode id) = Unit {0}
IsShortOperatorAsk ask.Extras = Unit {0}
IsShortOperatorAsk (ask.SetExtras given) = length given ≤ EXTRA_LIMIT
IsShortOperatorAsk ask.Sweep = Unit {0}
