-- What a client folds of the bytes that it reads.
use Rattle.std.proofs.Common.{◌≡◌, ◌-◌, ◌∙◌, ℕ, Bool, true, false, List, [], ◌∷◌, ◌++◌, ◌||◌, map, Option, inl, inr, refl, sym, ap, subst, if◌then◌else◌}
use Rattle.std.specs.List.{AllByRecursion}
use Rattle.std.specs.Str.{bytes_eq}
use Rattle.tail_base.specs.declared.key.MachineKey.{MachineKey}
use Rattle.tail_base.proofs.Bools.{bytes_eq-from}
use Rattle.tailcfg.specs.declared.response.Response.{Response}
use Rattle.fresh_maps.specs.declared.view.View.{View}
use Rattle.map_delta.specs.Delta.{greeting}
use Rattle.map_delta.specs.Fold.{fold, fold_all}
use Rattle.tailnet_desk.specs.Chains.{Turned, turned_of}
use Rattle.tailnet_desk.specs.declared.entry.Entry.{Entry}
use Rattle.tailnet_desk.specs.declared.entry.Event.{Event}
use Rattle.tailnet_desk.specs.declared.reply.Reply.{Reply}
use Rattle.tailnet_desk.specs.declared.reply.Reply.TheVariants.{Attached, Detached, Done, Ended, Frames, Lost, Refused}
use Rattle.tailnet_laws.specs.Followed.{frames_in, sent_under, views_after, views_at}
use Rattle.desk_front.specs.Wanted.{wanted_of}
use Rattle.desk_front.specs.declared.front_settings.FrontSettings.{FrontSettings}
use Rattle.desk_front.specs.declared.poll.Poll.{Poll}
use Rattle.desk_front.specs.declared.want.Wanted.{Wanted}
use Rattle.desk_front.specs.declared.want.Wanted.TheVariants as wants
use Rattle.connections.specs.Carried.{further_responses, greetings}
use Rattle.connections.specs.Exchanges.{Exchange, IsAnswered, IsExchange}
use Rattle.connections.specs.Polls.{AreBehind, AreFurther, IsBehindDrain, IsDetachOf, IsDrainOf, IsPoll, IsPollOf, IsStream}
use Rattle.byte_laws.specs.Answers.{poll_responses, responses_behind_attach}
use Rattle.byte_laws.specs.Folding.{BeginsUnder, ClientsFoldWhatTheyRead, IsAttachedAs}
use Rattle.byte_laws.proofs.Lists.{all_append}
use Rattle.byte_laws.proofs.Reading.{answer_read_back}

-- ---- what is sent under a handle

-- what the turn was replied is sent under the handle
abbrev IsSentUnder : List ℕ → Turned → Type 0
IsSentUnder handle t = sent_under handle t.event (frames_in t.reply) ≡ frames_in t.reply

own_handle : (handle : List ℕ) (rs : List Response) → (if bytes_eq handle handle then rs else []) ≡ rs
own_handle handle rs = ap (λ (b : Bool). if b then rs else []) (bytes_eq-from handle handle refl)

drain_sent : (machine : MachineKey) (handle : List ℕ) (t : Turned) → IsDrainOf machine handle t → IsSentUnder handle t
drain_sent machine handle t d =
    ap (λ (e : Event). sent_under handle e (frames_in t.reply)) d.event_is ∙ own_handle handle (frames_in t.reply)

detach_sent : (machine : MachineKey) (handle : List ℕ) (t : Turned) → IsDetachOf machine handle t → IsSentUnder handle t
detach_sent machine handle t d = ap (λ (e : Event). sent_under handle e (frames_in t.reply)) d.event_is ∙ sym (ap frames_in d.reply_is)

-- ---- folding

fold_both : (view : Option View) (rs ss : List Response) → fold_all view (rs ++ ss) ≡ fold_all (fold_all view rs) ss
fold_both view [] ss = refl
fold_both view (r ∷ rs) ss = fold_both (fold view r) rs ss

views_folded : (handle : List ℕ) (es : List Entry) (views : List ℕ → Option View) → AllByRecursion (IsSentUnder handle) (map turned_of es)
    → views_at views es handle ≡ fold_all (views handle) (further_responses (map turned_of es))
views_folded handle [] views sent = refl
views_folded handle (e ∷ es) views sent =
    let later = further_responses (map turned_of es) in
    views_folded handle es (views_after views e) sent.1
    ∙ ap (λ (rs : List Response). fold_all (fold_all (views handle) rs) later) sent.0
    ∙ sym (fold_both (views handle) (frames_in e.reply) later)

-- ---- the turns of a poll

none_sent : (handle : List ℕ) (ts : List Turned) → ts ≡ [] → AllByRecursion (IsSentUnder handle) ts
none_sent handle ts none = subst (AllByRecursion (IsSentUnder handle)) (sym none) tt

behind_sent : (handle : List ℕ) (broken : Bool) (reply : Reply) (ts : List Turned) (rest : Type 0) → (rest → AllByRecursion (IsSentUnder handle) ts) → IsBehindDrain broken reply ts rest
    → AllByRecursion (IsSentUnder handle) ts
behind_sent handle broken (Done answer) ts rest f h = absurd h
behind_sent handle broken (Attached other seq resumed may_wait) ts rest f h = absurd h
behind_sent handle broken (Frames responses) ts rest f h = f h
behind_sent handle broken Ended ts rest f h = none_sent handle ts h
behind_sent handle broken Detached ts rest f h = absurd h
behind_sent handle broken (Refused refusal) ts rest f h = absurd h
behind_sent handle broken (Lost loss) ts rest f h = none_sent handle ts h.0

further_sent : (machine : MachineKey) (handle : List ℕ) (more : ℕ) (broken : Bool) (ts : List Turned) → AreFurther machine handle more broken ts → AllByRecursion (IsSentUnder handle) ts
further_sent machine handle more broken [] are = tt
further_sent machine handle more broken (t ∷ ts) are = (
  drain_sent machine handle t are.1,
  behind_sent handle broken t.reply ts (AreFurther machine handle (more - 1) broken ts) (λ rest. further_sent machine handle (more - 1) broken ts rest) are.2,
)

drained_sent : (machine : MachineKey) (handle : List ℕ) (more : ℕ) (broken : Bool) (reply : Reply) (further : List Turned) → AreBehind machine handle more broken reply further
    → AllByRecursion (IsSentUnder handle) further
drained_sent machine handle more broken (Done answer) further are = absurd are
drained_sent machine handle more broken (Attached other seq resumed may_wait) further are = absurd are
drained_sent machine handle more broken (Frames responses) further are = further_sent machine handle more broken further are
drained_sent machine handle more broken Ended further are = none_sent handle further are
drained_sent machine handle more broken Detached further are = absurd are
drained_sent machine handle more broken (Refused refusal) further are = absurd are
drained_sent machine handle more broken (Lost loss) further are = none_sent handle further are

stream_sent : (given : FrontSettings) (more : ℕ) (close : Bool) (p : Poll) (handle : List ℕ) (resumed : Bool) (later : List Turned) (bytes : List ℕ) (broken : Bool)
    → IsStream given more close p handle resumed later bytes broken → AllByRecursion (IsSentUnder handle) later
stream_sent given more close p handle resumed later bytes broken x =
    subst (AllByRecursion (IsSentUnder handle)) (sym x.later_are) (
      drain_sent p.machine handle x.drain x.drain_is,
      all_append (IsSentUnder handle) x.further (x.detach ∷ []) (drained_sent p.machine handle more broken x.drain.reply x.further x.further_are)
          (detach_sent p.machine handle x.detach x.detach_is, tt),
    )

-- What is known of a poll that is attached under a handle: what its turns behind the attach were replied is sent under
-- that handle, and is what its responses are behind the greeting.
record IsSentAll (handle : List ℕ) (resumed : Bool) (reply : Reply) (later : List Turned) : Type 0 where
  none : frames_in reply ≡ []
  sent : AllByRecursion (IsSentUnder handle) later
  are : responses_behind_attach reply later ≡ greetings handle resumed ++ further_responses later

attached_sent : (given : FrontSettings) (more : ℕ) (close : Bool) (p : Poll) (handle : List ℕ) (resumed : Bool) (reply : Reply) (later : List Turned) (bytes : List ℕ) (broken : Bool)
    → IsPollOf given more close p reply later bytes broken → IsAttachedAs handle resumed reply → IsSentAll handle resumed reply later
attached_sent given more close p handle resumed (Done answer) later bytes broken follows under = absurd under
attached_sent given more close p handle resumed (Attached other seq again may_wait) later bytes broken follows under = record {
  none = refl;
  sent = subst (λ (h : List ℕ). AllByRecursion (IsSentUnder h) later) under.0 (stream_sent given (if may_wait then more else 0) close p other again later bytes broken follows);
  are = ap (λ (h : List ℕ). greetings h again ++ further_responses later) under.0 ∙ ap (λ (b : Bool). greetings handle b ++ further_responses later) under.1;
}
attached_sent given more close p handle resumed (Frames responses) later bytes broken follows under = absurd under
attached_sent given more close p handle resumed Ended later bytes broken follows under = absurd under
attached_sent given more close p handle resumed Detached later bytes broken follows under = absurd under
attached_sent given more close p handle resumed (Refused refusal) later bytes broken follows under = absurd under
attached_sent given more close p handle resumed (Lost loss) later bytes broken follows under = absurd under

-- so it is of all turns of the poll: its attach sends nothing
record IsSentByTurns (handle : List ℕ) (resumed : Bool) (turns : List Turned) : Type 0 where
  sent : AllByRecursion (IsSentUnder handle) turns
  are : poll_responses turns ≡ greetings handle resumed ++ further_responses turns

poll_sent : (given : FrontSettings) (more : ℕ) (close : Bool) (p : Poll) (handle : List ℕ) (resumed : Bool) (turns : List Turned) (bytes : List ℕ) (broken : Bool)
    → IsPoll given more close p turns bytes broken → BeginsUnder handle resumed turns → IsSentByTurns handle resumed turns
poll_sent given more close p handle resumed turns bytes broken x begins =
    let under : IsAttachedAs handle resumed x.attach.reply = subst (BeginsUnder handle resumed) x.turns_are begins in
    let h = attached_sent given more close p handle resumed x.attach.reply x.later bytes broken x.follows under in
    let first : IsSentUnder handle x.attach = ap (λ (e : Event). sent_under handle e (frames_in x.attach.reply)) x.attach_is.event_is ∙ sym h.none in
    subst (IsSentByTurns handle resumed) (sym x.turns_are) (record {
      sent = (first, h.sent);
      are = h.are ∙ ap (λ (rs : List Response). greetings handle resumed ++ (rs ++ further_responses x.later)) (sym h.none);
    })

exchange_sent : (given : FrontSettings) (more : ℕ) (last : Bool) (x : Exchange) (p : Poll) (handle : List ℕ) (resumed : Bool) → IsExchange given more last x → wanted_of given x.request ≡ wants.Poll p
    → BeginsUnder handle resumed x.turns → IsSentByTurns handle resumed x.turns
exchange_sent given more last x p handle resumed (inl unanswered) wanted begins = absurd (subst (BeginsUnder handle resumed) unanswered.0 begins)
exchange_sent given more last x p handle resumed (inr answered) wanted begins =
    let close = x.request.close || last in
    let poll : IsAnswered given more close (wants.Poll p) x.turns x.bytes x.ended x.broken =
    subst (λ (w : Wanted). IsAnswered given more close w x.turns x.bytes x.ended x.broken) wanted answered in
    poll_sent given more close p handle resumed x.turns x.bytes x.broken poll.0 begins

-- behind the same greeting
behind_greetings : (handle : List ℕ) (resumed : Bool) (rs ss : List Response) → greetings handle resumed ++ rs ≡ greetings handle resumed ++ ss → rs ≡ ss
behind_greetings handle true rs ss e = let same : (greeting handle ∷ rs) ≡ greeting handle ∷ ss = e in cc
behind_greetings handle false rs ss e = e

pub folds : ClientsFoldWhatTheyRead
folds given more last x p handle resumed es views read is orderly wanted whole streamed begins entries written same =
    let h = exchange_sent given more last x p handle resumed is wanted begins in
    let told = (answer_read_back given more last x is orderly).tells p wanted whole streamed (greetings handle resumed ++ read) written same in
    let read_is : read ≡ further_responses x.turns = behind_greetings handle resumed read (further_responses x.turns) (told ∙ h.are) in
    let sent : AllByRecursion (IsSentUnder handle) (map turned_of es) = subst (AllByRecursion (IsSentUnder handle)) (sym entries) h.sent in
    views_folded handle es views sent
    ∙ ap (λ (ts : List Turned). fold_all (views handle) (further_responses ts)) entries
    ∙ ap (fold_all (views handle)) (sym read_is)
