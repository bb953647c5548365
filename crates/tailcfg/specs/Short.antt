-- How long what a machine sends may be.
use Rattle.std.specs.Prelude.{◌≤◌, length, IfSome}
use Rattle.tailcfg.specs.declared.limits.TheConstants.{ASKED_TAG_LIMIT, ENDPOINT_LIMIT, HOST_LIMIT, ROUTE_LIMIT}
use Rattle.tailcfg.specs.declared.host_update.HostUpdate.{HostUpdate}
use Rattle.tailcfg.specs.declared.register.Register.{Register}
use Rattle.tailcfg.specs.declared.update.Update.{Update}

-- a registration within the limits of rows
pub record IsShortForm (r : Register) : Type 0 where
  pub host : length r.host ≤ HOST_LIMIT
  pub routes : length r.routes ≤ ROUTE_LIMIT
  pub tags : length r.tags ≤ ASKED_TAG_LIMIT

-- what is known of a host, within the limits of rows
pub record IsShortHost (h : HostUpdate) : Type 0 where
  pub name : IfSome h.name (λ text. length text ≤ HOST_LIMIT)
  pub routes : length h.routes ≤ ROUTE_LIMIT

-- what a machine tells of itself, within the limits of rows
pub record IsShortUpdate (u : Update) : Type 0 where
  pub endpoints : length u.endpoints ≤ ENDPOINT_LIMIT
  pub host : IfSome u.host IsShortHost
