use Rattle.connections.proofs.Heard.{heard, heard_before_last, heard_before_refusal, nothing_heard, unbroken}
use Rattle.connections.proofs.law.answers_are_heard.Goals as goal

pub returns : goal.returns
returns c = record { whole = heard; unbroken = unbroken; before_refusal = heard_before_refusal; drained = heard_before_last; nothing = nothing_heard }
