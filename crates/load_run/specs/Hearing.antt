-- What replies tell a load.
use Rattle.std.specs.Prelude.{◌≡◌, ℕ, ◌+◌, ◌-◌, ◌^◌, min, Bool, true, false, List, [], ◌∷◌, Option, None, Some}
use Rattle.tailcfg.specs.declared.response.Response.{Response}
use Rattle.machine_asks.specs.declared.answer.MachineAnswer.{MachineAnswer}
use Rattle.machine_asks.specs.declared.answer.MachineAnswer.TheVariants as machine
use Rattle.tailnet_desk.specs.Chains.{Turned}
use Rattle.tailnet_desk.specs.declared.reply.Answer.{Answer}
use Rattle.tailnet_desk.specs.declared.reply.Answer.TheVariants as answer
use Rattle.tailnet_desk.specs.declared.reply.Loss.TheVariants.{NoMemory, KeeperFault}
use Rattle.tailnet_desk.specs.declared.reply.Reply.{Reply}
use Rattle.tailnet_desk.specs.declared.reply.Reply.TheVariants.{Done, Attached, Frames, Ended, Detached, Refused, Lost}
use Rattle.load_run.specs.declared.heard.Heard.{Heard}

-- one frame more; the count stands still at its type's end
abbrev pub one_frame_more : ℕ → ℕ
one_frame_more n = min (n + 1) (2 ^ 64 - 1)

-- a frame with a number is counted, and its number is the last
abbrev pub hear_seq : Heard → Option ℕ → Heard
hear_seq h None = h
hear_seq h (Some seq) = record h { seq = seq; frames = one_frame_more h.frames }

abbrev pub hear_response : Heard → Response → Heard
hear_response h r = hear_seq h r.seq

abbrev pub hear_responses : Heard → List Response → Heard
hear_responses h [] = h
hear_responses h (r ∷ rs) = hear_responses (hear_response h r) rs

-- a poll was attached: its session has this handle and this number
abbrev pub hear_attached : Heard → List ℕ → ℕ → Heard
hear_attached h handle seq = record h { handle = handle; seq = seq }

-- a map that is no stream is a frame
abbrev pub hear_machine : Heard → MachineAnswer → Heard
hear_machine h (machine.Map view) = record h { frames = one_frame_more h.frames }
hear_machine h (machine.Registered profile expired) = h
hear_machine h (machine.LoginAt pending) = h
hear_machine h machine.Updated = h

abbrev pub hear_answer : Heard → Answer → Heard
hear_answer h (answer.Machine a) = hear_machine h a
hear_answer h answer.Seeded = h
hear_answer h (answer.Operator a) = h
hear_answer h (answer.Policy a) = h

-- what is heard of a reply
abbrev pub hear : Heard → Reply → Heard
hear h (Done a) = hear_answer h a
hear h (Attached handle seq resumed may_wait) = hear_attached h handle seq
hear h (Frames responses) = hear_responses h responses
hear h Ended = h
hear h Detached = h
hear h (Refused refusal) = h
hear h (Lost NoMemory) = record h { starved = true }
hear h (Lost KeeperFault) = h

-- where no memory was refused, that was heard
pub record IsHeard (old : Heard) (reply : Reply) (new : Heard) : Type 0 where
  pub still : new.starved ≡ false → old.starved ≡ false
  pub heard : new.starved ≡ false → new ≡ hear old reply

-- what is heard of turns
abbrev pub hear_turns : Heard → List Turned → Heard
hear_turns h [] = h
hear_turns h (t ∷ ts) = hear_turns (hear h t.reply) ts

-- none of the replies is lack of memory
abbrev pub HadMemory : List Turned → Type 0
HadMemory [] = Unit {0}
HadMemory (t ∷ ts) = (t.reply ≡ Lost NoMemory → ⊥) × HadMemory ts
