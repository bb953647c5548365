-- The bytes of a reply: its status and its body.
use Rattle.std.specs.Prelude.{ℕ, List, [], None, Bool, true, false}
use Rattle.http_front.specs.AnswerBytes.{answer}
use Rattle.machine_asks.specs.declared.ask.MachineAsk.TheVariants as machine
use Rattle.tailnet_desk.specs.declared.ask.Ask.{Ask}
use Rattle.tailnet_desk.specs.declared.ask.Ask.TheVariants as ask
use Rattle.tailnet_desk.specs.declared.reply.Reply.{Reply}
use Rattle.tailnet_desk.specs.declared.reply.Reply.TheVariants.{Attached, Detached, Done, Ended, Frames, Lost, Refused}
use Rattle.desk_front.specs.Bodies.{answer_body}
use Rattle.desk_front.specs.Refusals.{loss_body, loss_status, refusal_body, refusal_status}
use Rattle.desk_front.specs.declared.front_settings.FrontSettings.{FrontSettings}
use Rattle.desk_front.specs.declared.poll.Poll.{Poll}

-- a machine asks it, and not an operator or the program
abbrev pub is_machine_ask : Ask → Bool
is_machine_ask (ask.Seed text) = false
is_machine_ask (ask.Machine x) = true
is_machine_ask (ask.Operator x) = false
is_machine_ask (ask.Policy x) = false

abbrev pub reply_status : Bool → Reply → ℕ
reply_status is_machine (Done a) = 200
reply_status is_machine (Attached handle seq resumed may_wait) = 200
reply_status is_machine (Frames responses) = 200
reply_status is_machine Ended = 200
reply_status is_machine Detached = 200
reply_status is_machine (Refused refusal) = refusal_status is_machine refusal
reply_status is_machine (Lost loss) = loss_status loss

-- (no ask is replied what polls are)
abbrev pub reply_body : List ℕ → Reply → List ℕ
reply_body url (Done a) = answer_body url a
reply_body url (Attached handle seq resumed may_wait) = []
reply_body url (Frames responses) = []
reply_body url Ended = []
reply_body url Detached = []
reply_body url (Refused refusal) = refusal_body refusal
reply_body url (Lost loss) = loss_body loss

-- the bytes of a reply to an ask, after which the connection ends or goes on
unfoldable pub reply_bytes : FrontSettings → Ask → Reply → Bool → List ℕ
reply_bytes settings ask reply close =
    answer (reply_status (is_machine_ask ask) reply) (reply_body settings.server_url reply) close

-- the ask for the whole map of the machine that polls, as which a poll's refusal is answered
abbrev pub map_ask_of : Poll → Ask
map_ask_of p = ask.Machine (machine.OneMap p.machine p.node None)
