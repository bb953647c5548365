-- The bytes of a stream carry its responses.
use Rattle.std.proofs.Common.{◌≡◌, ◌-◌, ◌∙◌, ℕ, Bool, true, false, List, [], ◌∷◌, ◌++◌, map, inl, inr, refl, sym, ap, subst, append_assoc}
use Rattle.std.specs.List.{AllByRecursion}
use Rattle.std.proofs.lemmas.List.{append-nil}
use Rattle.tail_base.specs.declared.key.MachineKey.{MachineKey}
use Rattle.tailcfg.specs.declared.response.Response.{Response}
use Rattle.response_values.specs.Responses.{AreTypedResponses}
use Rattle.fresh_maps.specs.Frames.{frame_of}
use Rattle.map_delta.specs.Delta.{greeting}
use Rattle.http_front.specs.Streams.{chunk_of, last_chunk, stream_head, stream_of}
use Rattle.wire_laws.specs.Frames.{AreFramed}
use Rattle.tailnet_desk.specs.Chains.{Turned}
use Rattle.tailnet_desk.specs.declared.entry.Event.{Event}
use Rattle.tailnet_desk.specs.declared.reply.Reply.{Reply}
use Rattle.tailnet_desk.specs.declared.reply.Reply.TheVariants.{Attached, Detached, Done, Ended, Frames, Lost, Refused}
use Rattle.connections.specs.Carried.{AreFurtherMade, AreMade, AreSized, further_responses, greetings}
use Rattle.connections.specs.Polls.{AreFurther, IsBehindDrain, IsDrainOf, chunks_for, drained_bytes, further_bytes, greeting_bytes, stream_opening}
use Rattle.byte_laws.specs.Orderly.{AreOrderly, IsReplyOrderly, IsTurnOrderly}
use Rattle.byte_laws.proofs.Lists.{all_append}
use Rattle.tailnet_laws.specs.Followed.{frames_in}

-- ---- bytes

chunks_both : (rs ss : List Response) → chunks_for (rs ++ ss) ≡ chunks_for rs ++ chunks_for ss
chunks_both [] ss = refl
chunks_both (r ∷ rs) ss = ap (λ bytes. chunk_of (frame_of r) ++ bytes) (chunks_both rs ss) ∙ sym (append_assoc (chunk_of (frame_of r)) (chunks_for rs) (chunks_for ss))

drained_carried : (reply : Reply) → drained_bytes reply ≡ chunks_for (frames_in reply)
drained_carried (Done answer) = refl
drained_carried (Attached handle seq resumed may_wait) = refl
drained_carried (Frames responses) = refl
drained_carried Ended = refl
drained_carried Detached = refl
drained_carried (Refused refusal) = refl
drained_carried (Lost loss) = refl

further_carried : (ts : List Turned) → further_bytes ts ≡ chunks_for (further_responses ts)
further_carried [] = refl
further_carried (t ∷ ts) =
    ap (λ bytes. bytes ++ further_bytes ts) (drained_carried t.reply) ∙ ap (λ bytes. chunks_for (frames_in t.reply) ++ bytes) (further_carried ts)
    ∙ sym (chunks_both (frames_in t.reply) (further_responses ts))

greeting_carried : (handle : List ℕ) (resumed : Bool) → greeting_bytes handle resumed ≡ chunks_for (greetings handle resumed)
greeting_carried handle true = sym (append-nil (chunk_of (frame_of (greeting handle))))
greeting_carried handle false = refl

-- the head, the greeting, the chunks of responses, and the last chunk are a whole stream
pub stream_carried : (handle : List ℕ) (resumed : Bool) (rs : List Response)
    → (stream_opening handle resumed ++ chunks_for rs) ++ last_chunk ≡ stream_of (map frame_of (greetings handle resumed ++ rs))
stream_carried handle resumed rs =
    let g = greeting_bytes handle resumed in
    let both : g ++ chunks_for rs ≡ chunks_for (greetings handle resumed ++ rs) =
    ap (λ bytes. bytes ++ chunks_for rs) (greeting_carried handle resumed) ∙ sym (chunks_both (greetings handle resumed) rs) in
    ap (λ bytes. bytes ++ last_chunk) (append_assoc stream_head g (chunks_for rs)) ∙ append_assoc stream_head (g ++ chunks_for rs) last_chunk
    ∙ ap (λ bytes. stream_head ++ (bytes ++ last_chunk)) both

-- so it is where the first drain was replied frames, and further drains followed
pub frames_carried : (handle : List ℕ) (resumed : Bool) (rs : List Response) (further : List Turned)
    → ((stream_opening handle resumed ++ chunks_for rs) ++ further_bytes further) ++ last_chunk ≡ stream_of (map frame_of (greetings handle resumed ++ (rs ++ further_responses further)))
frames_carried handle resumed rs further =
    let opening = stream_opening handle resumed in
    let all : (opening ++ chunks_for rs) ++ further_bytes further ≡ opening ++ chunks_for (rs ++ further_responses further) =
    append_assoc opening (chunks_for rs) (further_bytes further)
    ∙ ap (λ bytes. opening ++ (chunks_for rs ++ bytes)) (further_carried further)
    ∙ ap (λ bytes. opening ++ bytes) (sym (chunks_both rs (further_responses further))) in
    ap (λ bytes. bytes ++ last_chunk) all ∙ stream_carried handle resumed (rs ++ further_responses further)

-- and where the session had ended
pub end_carried : (handle : List ℕ) (resumed : Bool) → stream_opening handle resumed ++ last_chunk ≡ stream_of (map frame_of (greetings handle resumed ++ []))
end_carried handle resumed = ap (λ bytes. bytes ++ last_chunk) (sym (append-nil (stream_opening handle resumed))) ∙ stream_carried handle resumed []

-- ---- what drains are replied, and a detach

further_both : (ts us : List Turned) → further_responses (ts ++ us) ≡ further_responses ts ++ further_responses us
further_both [] us = refl
further_both (t ∷ ts) us =
    ap (λ rs. frames_in t.reply ++ rs) (further_both ts us) ∙ sym (append_assoc (frames_in t.reply) (further_responses ts) (further_responses us))

pub detached_nothing : (ts : List Turned) (detach : Turned) → detach.reply ≡ Detached → further_responses (ts ++ detach ∷ []) ≡ further_responses ts
detached_nothing ts detach is =
    further_both ts (detach ∷ []) ∙ ap (λ (r : Reply). further_responses ts ++ (frames_in r ++ [])) is ∙ append-nil (further_responses ts)

-- ---- they are such as the server writes

pub framed : (rs : List Response) → AreTypedResponses rs → AreOrderly rs → AreSized rs → AreFramed rs
framed [] typed orderly sized = tt
framed (r ∷ rs) typed orderly sized = (
  record {
    written = record { typed = typed.0; node = orderly.0.node; peers = orderly.0.peers; changed = orderly.0.changed; dns = orderly.0.dns };
    sized = sized.0;
  },
  framed rs typed.1 orderly.1 sized.1,
)

pub greetings_typed : (handle : List ℕ) (resumed : Bool) → AreTypedResponses (greetings handle resumed)
greetings_typed handle true = (record { seq = tt; node = tt; filter = tt; dns = tt; peers = tt; changed = tt; removed = tt; patches = tt; profiles = tt }, tt)
greetings_typed handle false = tt

pub greetings_orderly : (handle : List ℕ) (resumed : Bool) → AreOrderly (greetings handle resumed)
greetings_orderly handle true = (record { node = tt; peers = tt; changed = tt; dns = tt }, tt)
greetings_orderly handle false = tt

-- what was made, where the writing didn't break off
pub sized_of : (broken : Bool) (rs : List Response) (ts : List Turned) → broken ≡ false → AreMade broken rs ts → AreSized rs
sized_of broken rs ts whole (inl h) = absurd (let clash : true ≡ false = sym h.0 ∙ whole in cc)
sized_of broken rs ts whole (inr sized) = sized

pub turn_orderly : (machine : MachineKey) (handle : List ℕ) (t : Turned) → IsDrainOf machine handle t → IsTurnOrderly t → AreOrderly (frames_in t.reply)
turn_orderly machine handle t d orderly = subst (λ (e : Event). IsReplyOrderly e t.reply) d.event_is orderly d.in_years

none_framed : (ts : List Turned) → ts ≡ [] → AreFramed (further_responses ts)
none_framed ts none = subst (λ (us : List Turned). AreFramed (further_responses us)) (sym none) tt

behind_framed : (broken : Bool) (reply : Reply) (ts : List Turned) (rest : Type 0) → (rest → AreFramed (further_responses ts)) → IsBehindDrain broken reply ts rest → AreFramed (further_responses ts)
behind_framed broken (Done answer) ts rest f h = absurd h
behind_framed broken (Attached handle seq resumed may_wait) ts rest f h = absurd h
behind_framed broken (Frames responses) ts rest f h = f h
behind_framed broken Ended ts rest f h = none_framed ts h
behind_framed broken Detached ts rest f h = absurd h
behind_framed broken (Refused refusal) ts rest f h = absurd h
behind_framed broken (Lost loss) ts rest f h = none_framed ts h.0

pub further_framed : (machine : MachineKey) (handle : List ℕ) (more : ℕ) (broken : Bool) (ts : List Turned) → broken ≡ false → AreFurther machine handle more broken ts
    → AreFurtherMade broken ts → AllByRecursion IsTurnOrderly ts → AreFramed (further_responses ts)
further_framed machine handle more broken [] whole are made orderly = tt
further_framed machine handle more broken (t ∷ ts) whole are made orderly =
    all_append _ (frames_in t.reply) (further_responses ts)
    (framed (frames_in t.reply) are.1.typed (turn_orderly machine handle t are.1 orderly.0) (sized_of broken (frames_in t.reply) ts whole made.0))
    (behind_framed broken t.reply ts (AreFurther machine handle (more - 1) broken ts) (λ rest. further_framed machine handle (more - 1) broken ts whole rest made.1 orderly.1) are.2)
