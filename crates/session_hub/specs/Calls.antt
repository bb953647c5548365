-- Which event a call is, and what it may be replied.
use Rattle.std.specs.Prelude.{◌≡◌}
use Rattle.session_hub.specs.declared.call.Call.{Call}
use Rattle.session_hub.specs.declared.call.Call.TheVariants as call
use Rattle.tailnet_desk.specs.Turns.{IsAttachReply, IsDrainReply}
use Rattle.tailnet_desk.specs.declared.entry.Event.{Event}
use Rattle.tailnet_desk.specs.declared.entry.Event.TheVariants as event
use Rattle.tailnet_desk.specs.declared.reply.Reply.{Reply}
use Rattle.tailnet_desk.specs.declared.reply.Reply.TheVariants.{Detached}

abbrev pub event_of : Call → Event
event_of (call.Ask alloc ask moment words) = event.Ask ask.now moment words
event_of (call.Attach alloc machine node handle seq moment words) = event.Attach machine.now node.now handle.now seq moment words
event_of (call.Drain alloc machine handle moment) = event.Drain machine.now handle.now moment
event_of (call.Detach machine handle moment) = event.Detach machine.now handle.now moment

-- an event of this kind may be replied so
abbrev pub IsReplyTo : Event → Reply → Type 0
IsReplyTo (event.Ask ask moment words) reply = Unit {0}
IsReplyTo (event.Attach machine node handle seq moment words) reply = IsAttachReply reply
IsReplyTo (event.Drain machine handle moment) reply = IsDrainReply reply
IsReplyTo (event.Detach machine handle moment) reply = reply ≡ Detached
