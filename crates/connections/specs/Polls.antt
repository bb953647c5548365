-- A poll: its turns, and the bytes of its answer.
use Rattle.std.specs.Prelude.{◌≡◌, ◌<◌, ◌-◌, ◌⊎◌, ℕ, ℤ, Bool, true, Option, List, [], ◌∷◌, ◌++◌, map, if◌then◌else◌}
use Rattle.net_addr.specs.Moments.{IsMoment}
use Rattle.tail_base.specs.declared.key.MachineKey.{MachineKey}
use Rattle.tailcfg.specs.declared.response.Response.{Response}
use Rattle.response_values.specs.Responses.{AreTypedResponses}
use Rattle.fresh_maps.specs.Frames.{frame_of}
use Rattle.map_delta.specs.Delta.{greeting}
use Rattle.http_front.specs.Streams.{chunk_of, chunks_of, last_chunk, stream_head}
use Rattle.tailnet_desk.specs.Chains.{Turned}
use Rattle.tailnet_desk.specs.declared.entry.Event.TheVariants as event
use Rattle.tailnet_desk.specs.declared.reply.Reply.{Reply}
use Rattle.tailnet_desk.specs.declared.reply.Reply.TheVariants.{Attached, Detached, Done, Ended, Frames, Lost, Refused}
use Rattle.desk_front.specs.Replies.{map_ask_of, reply_bytes}
use Rattle.desk_front.specs.declared.front_settings.FrontSettings.{FrontSettings}
use Rattle.desk_front.specs.declared.poll.Poll.{Poll}
use Rattle.connections.specs.Carried.{AreAllMade}
use Rattle.tailnet_laws.specs.Followed.{frames_in}

-- the turn attaches the poll
pub record IsAttachOf (p : Poll) (t : Turned) : Type 0 where
  pub moment : ℤ
  pub words : Option (List ℕ)
  pub event_is : t.event ≡ event.Attach p.machine p.node p.handle p.seq moment words

-- The turn drains the session of this handle, at a moment, and the responses that it was replied have values of their types.
pub record IsDrainOf (machine : MachineKey) (handle : List ℕ) (t : Turned) : Type 0 where
  pub moment : ℤ
  pub in_years : IsMoment moment
  pub event_is : t.event ≡ event.Drain machine handle moment
  pub typed : AreTypedResponses (frames_in t.reply)

-- the turn detaches it
pub record IsDetachOf (machine : MachineKey) (handle : List ℕ) (t : Turned) : Type 0 where
  pub moment : ℤ
  pub event_is : t.event ≡ event.Detach machine handle moment
  pub reply_is : t.reply ≡ Detached

-- ---- bytes

-- a chunk for the frame of each response
abbrev pub chunks_for : List Response → List ℕ
chunks_for responses = chunks_of (map frame_of responses)

-- the chunks of what a drain was replied
abbrev pub drained_bytes : Reply → List ℕ
drained_bytes (Done answer) = []
drained_bytes (Attached handle seq resumed may_wait) = []
drained_bytes (Frames responses) = chunks_for responses
drained_bytes Ended = []
drained_bytes Detached = []
drained_bytes (Refused refusal) = []
drained_bytes (Lost loss) = []

abbrev pub further_bytes : List Turned → List ℕ
further_bytes [] = []
further_bytes (t ∷ ts) = drained_bytes t.reply ++ further_bytes ts

-- a client whose session goes on is greeted
abbrev pub greeting_bytes : List ℕ → Bool → List ℕ
greeting_bytes handle resumed = if resumed then chunk_of (frame_of (greeting handle)) else []

-- the head of the answer, and the greeting
abbrev pub stream_opening : List ℕ → Bool → List ℕ
stream_opening handle resumed = stream_head ++ greeting_bytes handle resumed

-- The bytes by what the first drain was replied, but for what ends them: a stream; or, where memory ran out, an answer.
abbrev pub stream_front : FrontSettings → Bool → Poll → List ℕ → Bool → Reply → List Turned → List ℕ
stream_front given close p handle resumed (Done answer) further = []
stream_front given close p handle resumed (Attached other seq again may_wait) further = []
stream_front given close p handle resumed (Frames responses) further =
    (stream_opening handle resumed ++ chunks_for responses) ++ further_bytes further
stream_front given close p handle resumed Ended further = stream_opening handle resumed
stream_front given close p handle resumed Detached further = []
stream_front given close p handle resumed (Refused refusal) further = []
stream_front given close p handle resumed (Lost loss) further = reply_bytes given (map_ask_of p) (Lost loss) close

-- a stream ends with the last chunk
abbrev pub stream_ending : Reply → List ℕ
stream_ending (Done answer) = []
stream_ending (Attached handle seq resumed may_wait) = []
stream_ending (Frames responses) = last_chunk
stream_ending Ended = last_chunk
stream_ending Detached = []
stream_ending (Refused refusal) = []
stream_ending (Lost loss) = []

-- ---- what was written whole before the last drain

-- an element and others, but for the last of all
abbrev pub all_but_last : {A : Type 0} → A → List A → List A
all_but_last x [] = []
all_but_last x (y ∷ ys) = x ∷ all_but_last y ys

abbrev pub without_last : {A : Type 0} → List A → List A
without_last [] = []
without_last (x ∷ xs) = all_but_last x xs

-- the bytes before those of the last further drain, if there is one
abbrev pub before_last : List ℕ → Bool → Reply → List Turned → List ℕ
before_last handle resumed first [] = []
before_last handle resumed first (t ∷ ts) = (stream_opening handle resumed ++ drained_bytes first) ++ further_bytes (without_last (t ∷ ts))

-- the same from the turns behind an attach: a drain, further ones, and a detach
abbrev pub heard_drains : List ℕ → Bool → List Turned → List ℕ
heard_drains handle resumed [] = []
heard_drains handle resumed (drain ∷ rest) = before_last handle resumed drain.reply (without_last rest)

abbrev pub heard_behind : Reply → List Turned → List ℕ
heard_behind (Done answer) later = []
heard_behind (Attached handle seq resumed may_wait) later = heard_drains handle resumed later
heard_behind (Frames responses) later = []
heard_behind Ended later = []
heard_behind Detached later = []
heard_behind (Refused refusal) later = []
heard_behind (Lost loss) later = []

-- of the turns of a request: nothing, but of a poll that drained again
abbrev pub heard_of : List Turned → List ℕ
heard_of [] = []
heard_of (t ∷ later) = heard_behind t.reply later

-- ---- turns

-- what follows a further drain: after frames more of them; nothing where the session has ended, or where memory ran out,
-- by which the writing breaks off
abbrev pub IsBehindDrain : Bool → Reply → List Turned → Type 0 → Type 0
IsBehindDrain broken (Done answer) ts more_of_them = ⊥
IsBehindDrain broken (Attached handle seq resumed may_wait) ts more_of_them = ⊥
IsBehindDrain broken (Frames responses) ts more_of_them = more_of_them
IsBehindDrain broken Ended ts more_of_them = ts ≡ []
IsBehindDrain broken Detached ts more_of_them = ⊥
IsBehindDrain broken (Refused refusal) ts more_of_them = ⊥
IsBehindDrain broken (Lost loss) ts more_of_them = (ts ≡ []) × (broken ≡ true)

-- so many further drains, and fewer only where one was answered no frames, or the writing broke off
abbrev pub AreFurther : MachineKey → List ℕ → ℕ → Bool → List Turned → Type 0
AreFurther machine handle more broken [] = (more ≡ 0) ⊎ (broken ≡ true)
AreFurther machine handle more broken (t ∷ ts) =
    (0 < more) × IsDrainOf machine handle t × IsBehindDrain broken t.reply ts (AreFurther machine handle (more - 1) broken ts)

-- what follows the first drain: further ones after frames alone
abbrev pub AreBehind : MachineKey → List ℕ → ℕ → Bool → Reply → List Turned → Type 0
AreBehind machine handle more broken (Done answer) further = ⊥
AreBehind machine handle more broken (Attached other seq resumed may_wait) further = ⊥
AreBehind machine handle more broken (Frames responses) further = AreFurther machine handle more broken further
AreBehind machine handle more broken Ended further = further ≡ []
AreBehind machine handle more broken Detached further = ⊥
AreBehind machine handle more broken (Refused refusal) further = ⊥
AreBehind machine handle more broken (Lost loss) further = further ≡ []

-- What follows an attach: a drain, further ones, and a detach, whatever came between.
pub record IsStream (given : FrontSettings) (more : ℕ) (close : Bool) (p : Poll) (handle : List ℕ) (resumed : Bool) (later : List Turned) (bytes : List ℕ) (broken : Bool) : Type 0 where
  pub drain : Turned
  pub further : List Turned
  pub detach : Turned
  pub later_are : later ≡ drain ∷ (further ++ detach ∷ [])
  pub drain_is : IsDrainOf p.machine handle drain
  pub further_are : AreBehind p.machine handle more broken drain.reply further
  pub detach_is : IsDetachOf p.machine handle detach
  pub bytes_are : bytes ≡ stream_front given close p handle resumed drain.reply further ++ stream_ending drain.reply
  -- each frame was made, but those of the last drain where the writing broke off
  pub made : AreAllMade broken handle resumed drain.reply further

-- What follows by what the attach was replied. A refusal is answered as that of a whole map. Only a poll that may wait
-- has further drains.
abbrev pub IsPollOf : FrontSettings → ℕ → Bool → Poll → Reply → List Turned → List ℕ → Bool → Type 0
IsPollOf given more close p (Done answer) later bytes broken = ⊥
IsPollOf given more close p (Attached handle seq resumed may_wait) later bytes broken =
    IsStream given (if may_wait then more else 0) close p handle resumed later bytes broken
IsPollOf given more close p (Frames responses) later bytes broken = ⊥
IsPollOf given more close p Ended later bytes broken = ⊥
IsPollOf given more close p Detached later bytes broken = ⊥
IsPollOf given more close p (Refused refusal) later bytes broken =
    (later ≡ []) × (bytes ≡ reply_bytes given (map_ask_of p) (Refused refusal) close)
IsPollOf given more close p (Lost loss) later bytes broken =
    (later ≡ []) × (bytes ≡ reply_bytes given (map_ask_of p) (Lost loss) close)

-- A poll is one attach, with the handle and the number that its client has, and what follows.
pub record IsPoll (given : FrontSettings) (more : ℕ) (close : Bool) (p : Poll) (turns : List Turned) (bytes : List ℕ) (broken : Bool) : Type 0 where
  pub attach : Turned
  pub later : List Turned
  pub turns_are : turns ≡ attach ∷ later
  pub attach_is : IsAttachOf p attach
  pub follows : IsPollOf given more close p attach.reply later bytes broken
