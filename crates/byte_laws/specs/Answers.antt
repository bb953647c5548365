-- The answers to polls, and what reads them.
use Rattle.std.specs.Prelude.{◌≡◌, false, List, [], ◌∷◌, ◌++◌, map}
use Rattle.tailcfg.specs.declared.response.Response.{Response}
use Rattle.fresh_maps.specs.Frames.{frame_of}
use Rattle.http_front.specs.Streams.{stream_of}
use Rattle.wire_laws.specs.Frames.{AreFramed}
use Rattle.tailnet_desk.specs.Chains.{Turned}
use Rattle.tailnet_desk.specs.declared.reply.Reply.{Reply}
use Rattle.tailnet_desk.specs.declared.reply.Reply.TheVariants.{Attached, Detached, Done, Ended, Frames, Lost, Refused}
use Rattle.desk_front.specs.Wanted.{wanted_of}
use Rattle.desk_front.specs.declared.front_settings.FrontSettings.{FrontSettings}
use Rattle.desk_front.specs.declared.poll.Poll.{Poll}
use Rattle.desk_front.specs.declared.want.Wanted.TheVariants as wants
use Rattle.connections.specs.Carried.{further_responses, greetings}
use Rattle.connections.specs.Exchanges.{Exchange}

-- the responses of a poll's turns behind its attach: the greeting, where its session went on, and what drains were replied
abbrev pub responses_behind_attach : Reply → List Turned → List Response
responses_behind_attach (Done answer) later = []
responses_behind_attach (Attached handle seq resumed may_wait) later = greetings handle resumed ++ further_responses later
responses_behind_attach (Frames responses) later = []
responses_behind_attach Ended later = []
responses_behind_attach Detached later = []
responses_behind_attach (Refused refusal) later = []
responses_behind_attach (Lost loss) later = []

abbrev pub poll_responses : List Turned → List Response
poll_responses [] = []
poll_responses (attach ∷ later) = responses_behind_attach attach.reply later

-- a stream begins with what the first drain was replied, unless memory ran out
abbrev pub BeginsStream : Reply → Type 0
BeginsStream (Done answer) = ⊥
BeginsStream (Attached handle seq resumed may_wait) = ⊥
BeginsStream (Frames responses) = Unit {0}
BeginsStream Ended = Unit {0}
BeginsStream Detached = ⊥
BeginsStream (Refused refusal) = ⊥
BeginsStream (Lost loss) = ⊥

abbrev pub BeginsWith : List Turned → Type 0
BeginsWith [] = ⊥
BeginsWith (drain ∷ later) = BeginsStream drain.reply

-- the poll is attached, and answered with a stream
abbrev pub IsStreamedBehind : Reply → List Turned → Type 0
IsStreamedBehind (Done answer) later = ⊥
IsStreamedBehind (Attached handle seq resumed may_wait) later = BeginsWith later
IsStreamedBehind (Frames responses) later = ⊥
IsStreamedBehind Ended later = ⊥
IsStreamedBehind Detached later = ⊥
IsStreamedBehind (Refused refusal) later = ⊥
IsStreamedBehind (Lost loss) later = ⊥

abbrev pub IsStreamed : List Turned → Type 0
IsStreamed [] = ⊥
IsStreamed (attach ∷ later) = IsStreamedBehind attach.reply later

-- Where the request is a poll that is answered with a stream, and the writing doesn't break off, the bytes of the answer
-- are the stream of its responses, and of no other responses that the server writes.
pub record IsAnswerReadBack (given : FrontSettings) (x : Exchange) : Type 0 where
  pub carries : (p : Poll) → wanted_of given x.request ≡ wants.Poll p → x.broken ≡ false → IsStreamed x.turns
      → x.bytes ≡ stream_of (map frame_of (poll_responses x.turns))
  pub tells : (p : Poll) → wanted_of given x.request ≡ wants.Poll p → x.broken ≡ false → IsStreamed x.turns
      → (read : List Response) → AreFramed read → x.bytes ≡ stream_of (map frame_of read) → read ≡ poll_responses x.turns
