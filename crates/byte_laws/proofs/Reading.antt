-- The answers to polls are read back.
use Rattle.std.proofs.Common.{◌≡◌, ◌∙◌, ℕ, Bool, false, List, [], ◌∷◌, ◌++◌, ◌||◌, map, inl, inr, sym, ap, subst, append_assoc, if◌then◌else◌}
use Rattle.std.specs.List.{AllByRecursion}
use Rattle.tailcfg.specs.declared.response.Response.{Response}
use Rattle.response_values.specs.Responses.{AreTypedResponses}
use Rattle.fresh_maps.specs.Frames.{frame_of}
use Rattle.http_front.specs.Streams.{stream_of}
use Rattle.wire_laws.specs.Frames.{AreFramed}
use Rattle.wire_laws.proofs.FrameLemmas.{streams_tell}
use Rattle.tailnet_desk.specs.Chains.{Turned}
use Rattle.tailnet_desk.specs.declared.reply.Reply.{Reply}
use Rattle.tailnet_desk.specs.declared.reply.Reply.TheVariants.{Attached, Detached, Done, Ended, Frames, Lost, Refused}
use Rattle.desk_front.specs.Wanted.{wanted_of}
use Rattle.desk_front.specs.declared.front_settings.FrontSettings.{FrontSettings}
use Rattle.desk_front.specs.declared.poll.Poll.{Poll}
use Rattle.desk_front.specs.declared.want.Wanted.{Wanted}
use Rattle.desk_front.specs.declared.want.Wanted.TheVariants as wants
use Rattle.connections.specs.Carried.{AreAllMade, further_responses, greetings}
use Rattle.connections.specs.Exchanges.{Exchange, IsAnswered, IsExchange}
use Rattle.connections.specs.Polls.{AreBehind, AreFurther, IsPoll, IsPollOf, IsStream, stream_ending, stream_front}
use Rattle.byte_laws.specs.Answers.{BeginsStream, BeginsWith, IsAnswerReadBack, IsStreamed, IsStreamedBehind, poll_responses, responses_behind_attach}
use Rattle.byte_laws.specs.Orderly.{AreOrderly, IsTurnOrderly}
use Rattle.byte_laws.proofs.Carrying.{detached_nothing, end_carried, frames_carried, framed, further_framed, greetings_orderly, greetings_typed, sized_of, turn_orderly}
use Rattle.byte_laws.proofs.Lists.{all_append, all_front}
use Rattle.tailnet_laws.specs.Followed.{frames_in}

-- What a stream carries: its bytes are those of the responses, and the server writes such.
pub record Carries (bytes : List ℕ) (rs : List Response) : Type 0 where
  pub carried : bytes ≡ stream_of (map frame_of rs)
  pub framed : AreFramed rs

-- ---- behind the attach

module _ (given : FrontSettings) (more : ℕ) (close : Bool) (p : Poll) (handle : List ℕ) (resumed : Bool) (broken : Bool) where
  -- the first drain was replied frames
  frames_carry : (rs : List Response) (further : List Turned) → broken ≡ false → AreFurther p.machine handle more broken further
      → AreAllMade broken handle resumed (Frames rs) further → AreTypedResponses rs → AreOrderly rs → AllByRecursion IsTurnOrderly further
      → Carries (stream_front given close p handle resumed (Frames rs) further ++ stream_ending (Frames rs)) (greetings handle resumed ++ (rs ++ further_responses further))
  frames_carry rs further whole are made typed orderly more_orderly =
      let g = greetings handle resumed in
      let first : AreFramed (g ++ rs) = framed (g ++ rs) (all_append _ g rs (greetings_typed handle resumed) typed) (all_append _ g rs (greetings_orderly handle resumed) orderly)
      (sized_of broken (g ++ rs) further whole made.0) in
      let rest : AreFramed (further_responses further) = further_framed p.machine handle more broken further whole are made.1 more_orderly in
      record {
        carried = frames_carried handle resumed rs further;
        framed = subst AreFramed (append_assoc g rs (further_responses further)) (all_append _ (g ++ rs) (further_responses further) first rest);
      }

  -- it was replied that the session had ended
  end_carries : (further : List Turned) → broken ≡ false → further ≡ [] → AreAllMade broken handle resumed Ended further
      → Carries (stream_front given close p handle resumed Ended further ++ stream_ending Ended) (greetings handle resumed ++ further_responses further)
  end_carries further whole none made =
      let g = greetings handle resumed in
      let nothing : further_responses further ≡ [] = ap further_responses none in
      let first : AreFramed g = framed g (greetings_typed handle resumed) (greetings_orderly handle resumed) (sized_of broken g further whole made.0) in
      record {
        carried = end_carried handle resumed ∙ ap (λ (rs : List Response). stream_of (map frame_of (g ++ rs))) (sym nothing);
        framed = all_append _ g (further_responses further) first (subst AreFramed (sym nothing) tt);
      }

  drained_carries : (reply : Reply) (further : List Turned) → BeginsStream reply → broken ≡ false → AreBehind p.machine handle more broken reply further
      → AreAllMade broken handle resumed reply further → AreTypedResponses (frames_in reply) → AreOrderly (frames_in reply) → AllByRecursion IsTurnOrderly further
      → Carries (stream_front given close p handle resumed reply further ++ stream_ending reply) (greetings handle resumed ++ (frames_in reply ++ further_responses further))
  drained_carries (Done answer) further begins whole are made typed orderly more_orderly = absurd begins
  drained_carries (Attached other seq again may_wait) further begins whole are made typed orderly more_orderly = absurd begins
  drained_carries (Frames rs) further begins whole are made typed orderly more_orderly = frames_carry rs further whole are made typed orderly more_orderly
  drained_carries Ended further begins whole are made typed orderly more_orderly = end_carries further whole are made
  drained_carries Detached further begins whole are made typed orderly more_orderly = absurd begins
  drained_carries (Refused refusal) further begins whole are made typed orderly more_orderly = absurd begins
  drained_carries (Lost loss) further begins whole are made typed orderly more_orderly = absurd begins

  pub stream_carries : (later : List Turned) (bytes : List ℕ) → IsStream given more close p handle resumed later bytes broken → BeginsWith later → broken ≡ false
      → AllByRecursion IsTurnOrderly later → Carries bytes (greetings handle resumed ++ further_responses later)
  stream_carries later bytes x begins whole orderly =
      let g = greetings handle resumed in
      let begun : BeginsStream x.drain.reply = subst BeginsWith x.later_are begins in
      let all : AllByRecursion IsTurnOrderly (x.drain ∷ (x.further ++ x.detach ∷ [])) = subst (AllByRecursion IsTurnOrderly) x.later_are orderly in
      let is : further_responses later ≡ frames_in x.drain.reply ++ further_responses x.further =
      ap further_responses x.later_are ∙ ap (λ (rs : List Response). frames_in x.drain.reply ++ rs) (detached_nothing x.further x.detach x.detach_is.reply_is) in
      let made = drained_carries x.drain.reply x.further begun whole x.further_are x.made x.drain_is.typed (turn_orderly p.machine handle x.drain x.drain_is all.0)
      (all_front IsTurnOrderly x.further (x.detach ∷ []) all.1) in
      subst (λ (rs : List Response). Carries bytes (g ++ rs)) (sym is)
      (subst (λ (written : List ℕ). Carries written (g ++ (frames_in x.drain.reply ++ further_responses x.further))) (sym x.bytes_are) made)

-- ---- from the attach on

module _ (given : FrontSettings) (more : ℕ) (close : Bool) (p : Poll) (broken : Bool) where
  attached_carries : (reply : Reply) (later : List Turned) (bytes : List ℕ) → IsPollOf given more close p reply later bytes broken → IsStreamedBehind reply later → broken ≡ false
      → AllByRecursion IsTurnOrderly later → Carries bytes (responses_behind_attach reply later)
  attached_carries (Done answer) later bytes follows begins whole orderly = absurd begins
  attached_carries (Attached handle seq resumed may_wait) later bytes follows begins whole orderly =
      stream_carries given (if may_wait then more else 0) close p handle resumed broken later bytes follows begins whole orderly
  attached_carries (Frames responses) later bytes follows begins whole orderly = absurd begins
  attached_carries Ended later bytes follows begins whole orderly = absurd begins
  attached_carries Detached later bytes follows begins whole orderly = absurd begins
  attached_carries (Refused refusal) later bytes follows begins whole orderly = absurd begins
  attached_carries (Lost loss) later bytes follows begins whole orderly = absurd begins

  poll_carries : (turns : List Turned) (bytes : List ℕ) → IsPoll given more close p turns bytes broken → IsStreamed turns → broken ≡ false → AllByRecursion IsTurnOrderly turns
      → Carries bytes (poll_responses turns)
  poll_carries turns bytes x streamed whole orderly =
      let begun : IsStreamedBehind x.attach.reply x.later = subst IsStreamed x.turns_are streamed in
      let all : AllByRecursion IsTurnOrderly (x.attach ∷ x.later) = subst (AllByRecursion IsTurnOrderly) x.turns_are orderly in
      subst (λ (ts : List Turned). Carries bytes (poll_responses ts)) (sym x.turns_are) (attached_carries x.attach.reply x.later bytes x.follows begun whole all.1)

-- ---- exchanges

pub exchange_carries : (given : FrontSettings) (more : ℕ) (last : Bool) (x : Exchange) (p : Poll) → IsExchange given more last x → AllByRecursion IsTurnOrderly x.turns
    → wanted_of given x.request ≡ wants.Poll p → x.broken ≡ false → IsStreamed x.turns → Carries x.bytes (poll_responses x.turns)
exchange_carries given more last x p (inl unanswered) orderly wanted whole streamed = absurd (subst IsStreamed unanswered.0 streamed)
exchange_carries given more last x p (inr answered) orderly wanted whole streamed =
    let close = x.request.close || last in
    let poll : IsAnswered given more close (wants.Poll p) x.turns x.bytes x.ended x.broken =
    subst (λ (w : Wanted). IsAnswered given more close w x.turns x.bytes x.ended x.broken) wanted answered in
    poll_carries given more close p x.broken x.turns x.bytes poll.0 streamed whole orderly

pub answer_read_back : (given : FrontSettings) (more : ℕ) (last : Bool) (x : Exchange) → IsExchange given more last x → AllByRecursion IsTurnOrderly x.turns → IsAnswerReadBack given x
answer_read_back given more last x is orderly = record {
  carries = λ p wanted whole streamed. (exchange_carries given more last x p is orderly wanted whole streamed).carried;
  tells = λ p wanted whole streamed read written same.
      let h = exchange_carries given more last x p is orderly wanted whole streamed in
      streams_tell read (poll_responses x.turns) written h.framed (sym same ∙ h.carried);
}
