-- Which nodes the server writes.
use Rattle.std.specs.Prelude.{◌≢◌, ℤ, IfSome}
use Rattle.net_addr.specs.Moments.{first_moment}
use Rattle.tailcfg.specs.declared.node_row.NodeRow.{NodeRow}
use Rattle.response_values.specs.Nodes.{IsTypedNode}

-- not the first moment, since Go's zero time is written where there is none
abbrev pub IsLaterMoment : ℤ → Type 0
IsLaterMoment t = t ≢ first_moment

-- The key doesn't end at the first moment. A live machine's ends later than now, so that none that is shown ends there.
abbrev pub EndsLater : NodeRow → Type 0
EndsLater r = IfSome r.expiry IsLaterMoment

-- the fields have values of their types, and the key ends later
abbrev pub IsWrittenNode : NodeRow → Type 0
IsWrittenNode r = IsTypedNode r × EndsLater r
