-- What holds of the responses that drains are replied, beside the types of their fields.
use Rattle.std.specs.Prelude.{IfSome, List, ⊤}
use Rattle.std.specs.List.{AllByRecursion}
use Rattle.net_addr.specs.Moments.{IsMoment}
use Rattle.tailcfg.specs.declared.response.Response.{Response}
use Rattle.wire_laws.specs.Dns.{DoSuffixesRise}
use Rattle.wire_laws.specs.Nodes.{EndsLater}
use Rattle.tailnet_desk.specs.Chains.{Turned}
use Rattle.tailnet_desk.specs.declared.entry.Event.{Event}
use Rattle.tailnet_desk.specs.declared.entry.Event.TheVariants as event
use Rattle.tailnet_desk.specs.declared.reply.Reply.{Reply}
use Rattle.tailnet_laws.specs.Followed.{frames_in}

-- No node's key ends at the first moment, and the suffixes of DNS routes rise.
pub record IsOrderly (r : Response) : Type 0 where
  pub node : IfSome r.node EndsLater
  pub peers : AllByRecursion EndsLater r.peers
  pub changed : AllByRecursion EndsLater r.changed
  pub dns : IfSome r.dns DoSuffixesRise

abbrev pub AreOrderly : List Response → Type 0
AreOrderly rs = AllByRecursion IsOrderly rs

-- so it is of what a drain at a moment is replied
abbrev pub IsReplyOrderly : Event → Reply → Type 0
IsReplyOrderly (event.Ask x moment words) reply = ⊤
IsReplyOrderly (event.Attach mk node handle seq moment words) reply = ⊤
IsReplyOrderly (event.Drain mk handle moment) reply = IsMoment moment → AreOrderly (frames_in reply)
IsReplyOrderly (event.Detach mk handle moment) reply = ⊤

abbrev pub IsTurnOrderly : Turned → Type 0
IsTurnOrderly t = IsReplyOrderly t.event t.reply
