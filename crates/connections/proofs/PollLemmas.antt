-- A poll, turn by turn.
use Rattle.std.proofs.Common.{◌≡◌, ◌<◌, ◌≤◌, ◌-◌, ◌∙◌, ℕ, ℤ, Bool, true, false, Option, None, Some, List, [], ◌∷◌, ◌++◌, Result, Ok, Err, inl, inr, refl, sym, ap, subst, arith, if◌then◌else◌}
use Rattle.std.proofs.lemmas.List.{append-nil}
use Rattle.std.specs.Prelude.{OnOk}
use Rattle.response_values.specs.Responses.{AreTypedResponses}
use Rattle.net_addr.specs.Moments.{IsMoment, clamped}
use Rattle.io_edge.specs.Stream as stream
use Rattle.tail_base.specs.declared.key.MachineKey.{MachineKey}
use Rattle.tailcfg.specs.declared.response.Response.{Response}
use Rattle.tailnet_desk.specs.Chains.{Chain, Turned}
use Rattle.tailnet_desk.specs.declared.entry.Event.{Event}
use Rattle.tailnet_desk.specs.declared.entry.Event.TheVariants as event
use Rattle.tailnet_desk.specs.declared.reply.Loss.{Loss}
use Rattle.tailnet_desk.specs.declared.reply.Reply.{Reply}
use Rattle.tailnet_desk.specs.declared.reply.Reply.TheVariants.{Attached, Detached, Done, Ended, Frames, Lost, Refused}
use Rattle.tailnet_desk.proofs.Histories.{Chain-append}
use Rattle.desk_front.specs.Replies.{map_ask_of, reply_bytes}
use Rattle.desk_front.specs.declared.front_settings.FrontSettings.{FrontSettings}
use Rattle.desk_front.specs.declared.poll.Poll.{Poll}
use Rattle.exit_status.specs.Pieces.{IsPrefix, Sent}
use Rattle.exit_status.specs.declared.closed.Closed.{Closed}
use Rattle.connections.specs.Carried.{AreAllMade, AreFurtherMade, AreMade, AreSized, first_responses, greetings}
use Rattle.connections.specs.Exchanges.{breaks}
use Rattle.connections.specs.Polled.{AttachAnswered, Completed, DrainedSent, Followed, FurtherSent, GoesOn, IsPollAnswered, NextSent, TurnedOnce}
use Rattle.connections.specs.Polls.{AreBehind, AreFurther, IsAttachOf, IsBehindDrain, IsDetachOf, IsDrainOf, IsPollOf, all_but_last, before_last, chunks_for, drained_bytes, further_bytes, heard_behind, heard_drains, heard_of, stream_ending, stream_front, stream_opening, without_last}
use Rattle.connections.specs.Tellings.{Drew, Giving, TurnsTook, taking}
use Rattle.connections.proofs.AnswerLemmas.{clamped_told, heard_alone, same_number, took_none}
use Rattle.connections.proofs.SentLemmas.{broke, heard_completed, heard_then, made_or_broken, sent_broken, sent_completed, sent_nothing, sent_then, still_breaks}
use Rattle.connections.proofs.Tellings.{took-append}
use Rattle.tailnet_laws.specs.Followed.{frames_in}

-- ---- what was heard

last_left_out : {A : Type 0} (y : A) (ys : List A) (x : A) → all_but_last y (ys ++ x ∷ []) ≡ y ∷ ys
last_left_out y [] x = refl
last_left_out y (z ∷ zs) x = ap (λ l. y ∷ l) (last_left_out z zs x)

without_added : {A : Type 0} (xs : List A) (x : A) → without_last (xs ++ x ∷ []) ≡ xs
without_added [] x = refl
without_added (y ∷ ys) x = last_left_out y ys x

-- of nothing nothing
heard_nothing : (written : List ℕ) → IsPrefix [] written
heard_nothing written = (written, refl)

-- one further drain went out whole, and then others
heard_next : {T : Type 0} (on : Bool) (outcome : Result T Closed) (o mid new : Option (List ℕ)) (n m k : ℕ) (t : Turned) (ts : List Turned)
    (a : Sent (Ok on) o mid n m (drained_bytes t.reply)) (b : Sent outcome mid new m k (further_bytes ts)) → IsPrefix (further_bytes (without_last ts)) b.written
    → IsPrefix (further_bytes (without_last (t ∷ ts))) (sent_then on outcome o mid new n m k (drained_bytes t.reply) (further_bytes ts) a b).written
heard_next on outcome o mid new n m k t [] a b heard = heard_nothing _
heard_next on outcome o mid new n m k t (u ∷ us) a b heard =
    heard_then on outcome o mid new n m k (drained_bytes t.reply) (further_bytes (u ∷ us)) (further_bytes (without_last (u ∷ us))) a b heard

-- the first drain went out whole, and then others
heard_first : {T U : Type 0} (handle : List ℕ) (resumed : Bool) (responses : List Response) (done : U) (outcome : Result T Closed) (o mid new : Option (List ℕ)) (n m k : ℕ) (ts : List Turned)
    (a : Sent (Ok done) o mid n m (stream_opening handle resumed ++ chunks_for responses)) (b : Sent outcome mid new m k (further_bytes ts)) → IsPrefix (further_bytes (without_last ts)) b.written
    → IsPrefix (before_last handle resumed (Frames responses) ts) (sent_then done outcome o mid new n m k (stream_opening handle resumed ++ chunks_for responses) (further_bytes ts) a b).written
heard_first handle resumed responses done outcome o mid new n m k [] a b heard = heard_nothing _
heard_first handle resumed responses done outcome o mid new n m k (t ∷ ts) a b heard =
    heard_then done outcome o mid new n m k (stream_opening handle resumed ++ chunks_for responses) (further_bytes (t ∷ ts)) (further_bytes (without_last (t ∷ ts))) a b heard

-- ---- one turn

clamped_in_years : (n : ℤ) → IsMoment (clamped n)
clamped_in_years n = grind arith

took_attach : (p : Poll) (m moment : ℤ) (words : Option (List ℕ)) (reply : Reply) (old new : Giving) → moment ≡ clamped m
    → Drew true words old.words new.words old.word_faults new.word_faults → stream.Took old.answers new.answers m
    → TurnsTook old new (record { event = event.Attach p.machine p.node p.handle p.seq moment words; reply = reply } ∷ [])
took_attach p m moment None reply old new at d t = record {
  moments = (rw at (clamped_told m _ t.first), tt);
  clock = t.rest;
  words = (tt, tt);
  entropy = same_number new.words old.words d.0;
  word_faults = omega (arith, d.1, d.2);
}
took_attach p m moment (Some word) reply old new at d t = record {
  moments = (rw at (clamped_told m _ t.first), tt);
  clock = t.rest;
  words = (d.0.first, tt);
  entropy = d.0.rest;
  word_faults = omega (arith, d.1);
}

took_drain : (machine : MachineKey) (handle : List ℕ) (m moment : ℤ) (reply : Reply) (old new : Giving) → moment ≡ clamped m → ((k : ℕ) → new.words k ≡ old.words k)
    → old.word_faults ≤ new.word_faults → stream.Took old.answers new.answers m
    → TurnsTook old new (record { event = event.Drain machine handle moment; reply = reply } ∷ [])
took_drain machine handle m moment reply old new at w f t = record {
  moments = (rw at (clamped_told m _ t.first), tt);
  clock = t.rest;
  words = (tt, tt);
  entropy = same_number new.words old.words w;
  word_faults = omega (arith, f);
}

took_detach : (machine : MachineKey) (handle : List ℕ) (m moment : ℤ) (reply : Reply) (old new : Giving) → moment ≡ clamped m → ((k : ℕ) → new.words k ≡ old.words k)
    → old.word_faults ≤ new.word_faults → stream.Took old.answers new.answers m
    → TurnsTook old new (record { event = event.Detach machine handle moment; reply = reply } ∷ [])
took_detach machine handle m moment reply old new at w f t = record {
  moments = (rw at (clamped_told m _ t.first), tt);
  clock = t.rest;
  words = (tt, tt);
  entropy = same_number new.words old.words w;
  word_faults = omega (arith, f);
}

-- what was taken doesn't depend on what was written
took_apart : (h h' k k' : Option (List ℕ)) (n n' l l' : ℕ) (a a' : ℕ → Option ℤ) (w w' : ℕ → Option (List ℕ)) (f f' : ℕ) (ts : List Turned)
    → TurnsTook (taking h n a w f) (taking h' n' a' w' f') ts → TurnsTook (taking k l a w f) (taking k' l' a' w' f') ts
took_apart h h' k k' n n' l l' a a' w w' f f' ts t = record { moments = t.moments; clock = t.clock; words = t.words; entropy = t.entropy; word_faults = t.word_faults }

-- nor what was taken from there on
took_from : (h k : Option (List ℕ)) (n l : ℕ) (a : ℕ → Option ℤ) (w : ℕ → Option (List ℕ)) (f : ℕ) (new : Giving) (ts : List Turned)
    → TurnsTook (taking k l a w f) new ts → TurnsTook (taking h n a w f) new ts
took_from h k n l a w f new ts t = record { moments = t.moments; clock = t.clock; words = t.words; entropy = t.entropy; word_faults = t.word_faults }

module _ {S : Type 0} (turn : S → Event → Reply → S → Type 0) where
  pub attached_once : (p : Poll) (m moment : ℤ) (words : Option (List ℕ)) (reply : Reply) (old new : Giving) (s t : S) → moment ≡ clamped m
      → Drew true words old.words new.words old.word_faults new.word_faults → stream.Took old.answers new.answers m
      → turn s (event.Attach p.machine p.node p.handle p.seq moment words) reply t → TurnedOnce turn (IsAttachOf p) reply old new s t
  attached_once p m moment words reply old new s t at drew took leads = record {
    turned = record { event = event.Attach p.machine p.node p.handle p.seq moment words; reply = reply };
    fits = record { moment = moment; words = words; event_is = refl };
    reply_is = refl;
    leads = leads;
    took = took_attach p m moment words reply old new at drew took;
  }

  pub drained_once : (machine : MachineKey) (handle : List ℕ) (m moment : ℤ) (reply : Reply) (old new : Giving) (s t : S) → moment ≡ clamped m
      → AreTypedResponses (frames_in reply) → ((k : ℕ) → new.words k ≡ old.words k) → old.word_faults ≤ new.word_faults → stream.Took old.answers new.answers m
      → turn s (event.Drain machine handle moment) reply t → TurnedOnce turn (IsDrainOf machine handle) reply old new s t
  drained_once machine handle m moment reply old new s t at typed words faults took leads = record {
    turned = record { event = event.Drain machine handle moment; reply = reply };
    fits = record { moment = moment; in_years = subst IsMoment (sym at) (clamped_in_years m); event_is = refl; typed = typed };
    reply_is = refl;
    leads = leads;
    took = took_drain machine handle m moment reply old new at words faults took;
  }

  pub detached_once : (machine : MachineKey) (handle : List ℕ) (m moment : ℤ) (old new : Giving) (s t : S) → moment ≡ clamped m
      → ((k : ℕ) → new.words k ≡ old.words k) → old.word_faults ≤ new.word_faults → stream.Took old.answers new.answers m
      → turn s (event.Detach machine handle moment) Detached t → TurnedOnce turn (IsDetachOf machine handle) Detached old new s t
  detached_once machine handle m moment old new s t at words faults took leads = record {
    turned = record { event = event.Detach machine handle moment; reply = Detached };
    fits = record { moment = moment; event_is = refl; reply_is = refl };
    reply_is = refl;
    leads = leads;
    took = took_detach machine handle m moment Detached old new at words faults took;
  }

  -- ---- further drains

  pub next_sent : (outcome : Result Bool Closed) (machine : MachineKey) (handle : List ℕ) (reply : Reply) (h k : Option (List ℕ)) (n l : ℕ) (a b : ℕ → Option ℤ)
      (w : ℕ → Option (List ℕ)) (f : ℕ) (s t : S) → TurnedOnce turn (IsDrainOf machine handle) reply (taking h n a w f) (taking h n b w f) s t
      → Sent outcome h k n l (drained_bytes reply) → GoesOn outcome reply → OnOk outcome (AreSized (frames_in reply))
      → NextSent turn outcome machine handle (taking h n a w f) (taking k l b w f) s t
  next_sent outcome machine handle reply h k n l a b w f s t once sent goes_on made = record {
    drain = once.turned;
    drain_is = once.fits;
    goes_on = subst (λ (r : Reply). GoesOn outcome r) (sym once.reply_is) goes_on;
    leads = once.leads;
    took = took_apart h h h k n n n l a b w w f f (once.turned ∷ []) once.took;
    sent = subst (λ (r : Reply). Sent outcome h k n l (drained_bytes r)) (sym once.reply_is) sent;
    made = subst (λ (r : Reply). OnOk outcome (AreSized (frames_in r))) (sym once.reply_is) made;
  }

  -- none is left
  pub further_none : {T : Type 0} (done : T) (machine : MachineKey) (handle : List ℕ) (more : ℕ) (g : Giving) (s : S) → more ≡ 0
      → FurtherSent turn (Ok done) machine handle more g g s s
  further_none done machine handle more g s none = record {
    further = [];
    are = inl none;
    chain = refl;
    took = took_none g g (λ k. refl) (λ k. refl) (omega arith);
    sent = sent_nothing done g.held g.write_faults;
    heard = heard_nothing _;
    made = tt;
  }

  -- behind a drain that was answered frames, more follow
  behind_frames : (broken : Bool) (on : Bool) (reply : Reply) (ts : List Turned) (rest : Type 0) → on ≡ true → GoesOn (Ok on) reply → rest → IsBehindDrain broken reply ts rest
  behind_frames broken on (Done answer) ts rest holds goes r = absurd goes
  behind_frames broken on (Attached handle seq resumed may_wait) ts rest holds goes r = absurd goes
  behind_frames broken on (Frames responses) ts rest holds goes r = r
  behind_frames broken on Ended ts rest holds goes r = absurd (let clash : true ≡ false = sym holds ∙ goes in cc)
  behind_frames broken on Detached ts rest holds goes r = absurd goes
  behind_frames broken on (Refused refusal) ts rest holds goes r = absurd goes
  behind_frames broken on (Lost loss) ts rest holds goes r = absurd goes

  -- behind one that was answered the end, none
  behind_end : (broken : Bool) (on : Bool) (reply : Reply) (rest : Type 0) → on ≡ false → GoesOn (Ok on) reply → IsBehindDrain broken reply [] rest
  behind_end broken on (Done answer) rest fails goes = absurd goes
  behind_end broken on (Attached handle seq resumed may_wait) rest fails goes = absurd goes
  behind_end broken on (Frames responses) rest fails goes = absurd (let clash : true ≡ false = sym goes ∙ fails in cc)
  behind_end broken on Ended rest fails goes = refl
  behind_end broken on Detached rest fails goes = absurd goes
  behind_end broken on (Refused refusal) rest fails goes = absurd goes
  behind_end broken on (Lost loss) rest fails goes = absurd goes

  -- behind one by which the writing broke off, none
  behind_break : (broken : Bool) (e : Closed) (reply : Reply) (rest : Type 0) → broken ≡ true → rest → GoesOn (Err e) reply → IsBehindDrain broken reply [] rest
  behind_break broken e (Done answer) rest holds r goes = absurd goes
  behind_break broken e (Attached handle seq resumed may_wait) rest holds r goes = absurd goes
  behind_break broken e (Frames responses) rest holds r goes = r
  behind_break broken e Ended rest holds r goes = absurd goes
  behind_break broken e Detached rest holds r goes = absurd goes
  behind_break broken e (Refused refusal) rest holds r goes = absurd goes
  behind_break broken e (Lost loss) rest holds r goes = (refl, holds)

  -- before them there was a wait, by which nothing was written
  pub further_waited : {T U : Type 0} (seen : U) (outcome : Result T Closed) (machine : MachineKey) (handle : List ℕ) (more : ℕ) (h k : Option (List ℕ)) (n l : ℕ)
      (a : ℕ → Option ℤ) (w : ℕ → Option (List ℕ)) (f : ℕ) (new : Giving) (s t : S) → Sent (Ok seen) h k n l []
      → FurtherSent turn outcome machine handle more (taking k l a w f) new s t → FurtherSent turn outcome machine handle more (taking h n a w f) new s t
  further_waited seen outcome machine handle more h k n l a w f new s t wait rest = record {
    further = rest.further;
    are = rest.are;
    chain = rest.chain;
    took = took_from h k n l a w f new rest.further rest.took;
    sent = sent_then seen outcome h k new.held n l new.write_faults [] (further_bytes rest.further) wait rest.sent;
    heard = heard_then seen outcome h k new.held n l new.write_faults [] (further_bytes rest.further) (further_bytes (without_last rest.further)) wait rest.sent rest.heard;
    made = rest.made;
  }

  further_gone : {T U : Type 0} (e : Closed) (machine : MachineKey) (handle : List ℕ) (more : ℕ) (h k : Option (List ℕ)) (n l : ℕ) (a : ℕ → Option ℤ)
      (w : ℕ → Option (List ℕ)) (f : ℕ) (s : S) → Sent {T = U} (Err e) h k n l []
      → FurtherSent {T = T} turn (Err e) machine handle more (taking h n a w f) (taking k l a w f) s s
  further_gone {T} {U} e machine handle more h k n l a w f s wait =
      let sent : Sent {T = T} (Err e) h k n l [] = sent_broken {T = U} {U = T} e h k n l [] [] wait in
      record {
        further = [];
        are = inr (broke T e sent.written [] n l sent.is);
        chain = refl;
        took = took_none (taking h n a w f) (taking k l a w f) (λ i. refl) (λ i. refl) (omega arith);
        sent = sent;
        heard = heard_nothing _;
        made = tt;
      }

  -- the client left while the poll waited
  pub further_left : {T U : Type 0} (outcome : Result T Closed) (e : Closed) (machine : MachineKey) (handle : List ℕ) (more : ℕ) (h k : Option (List ℕ)) (n l : ℕ)
      (a : ℕ → Option ℤ) (w : ℕ → Option (List ℕ)) (f : ℕ) (s : S) → outcome ≡ Err e → Sent {T = U} (Err e) h k n l []
      → FurtherSent turn outcome machine handle more (taking h n a w f) (taking k l a w f) s s
  further_left {T} {U} outcome e machine handle more h k n l a w f s is wait =
      subst (λ (r : Result T Closed). FurtherSent turn r machine handle more (taking h n a w f) (taking k l a w f) s s) (sym is)
      (further_gone {T = T} {U = U} e machine handle more h k n l a w f s wait)

  pub further_more : {T : Type 0} (on : Bool) (outcome : Result T Closed) (machine : MachineKey) (handle : List ℕ) (more left : ℕ) (old mid new : Giving) (s u t : S)
      → left ≡ more - 1 → 0 < more → on ≡ true → NextSent turn (Ok on) machine handle old mid s u → FurtherSent turn outcome machine handle left mid new u t
      → FurtherSent turn outcome machine handle more old new s t
  further_more on outcome machine handle more left old mid new s u t is some holds next rest = record {
    further = next.drain ∷ rest.further;
    are = (
      some,
      next.drain_is,
      behind_frames (breaks outcome) on next.drain.reply rest.further (AreFurther machine handle (more - 1) (breaks outcome) rest.further) holds next.goes_on
          (subst (λ (n : ℕ). AreFurther machine handle n (breaks outcome) rest.further) is rest.are),
    );
    chain = (u, next.leads, rest.chain);
    took = took-append old mid new (next.drain ∷ []) rest.further next.took rest.took;
    sent = sent_then on outcome old.held mid.held new.held old.write_faults mid.write_faults new.write_faults (drained_bytes next.drain.reply) (further_bytes rest.further)
        next.sent rest.sent;
    heard = heard_next on outcome old.held mid.held new.held old.write_faults mid.write_faults new.write_faults next.drain rest.further next.sent rest.sent rest.heard;
    made = (inr next.made, rest.made);
  }

  ended_sent : {T : Type 0} (on : Bool) (done : T) (o new : Option (List ℕ)) (n k : ℕ) (bytes : List ℕ) → Sent (Ok on) o new n k bytes → Sent (Ok done) o new n k (bytes ++ [])
  ended_sent on done o new n k bytes a =
      rw (append-nil bytes) (record { written = a.written; front = a.front; to_sink = a.to_sink; later = a.later; is = a.is })

  pub further_last : {T : Type 0} (on : Bool) (done : T) (machine : MachineKey) (handle : List ℕ) (more : ℕ) (old new : Giving) (s t : S)
      → 0 < more → on ≡ false → NextSent turn (Ok on) machine handle old new s t → FurtherSent turn (Ok done) machine handle more old new s t
  further_last on done machine handle more old new s t some fails next = record {
    further = next.drain ∷ [];
    are = (some, next.drain_is, behind_end false on next.drain.reply (AreFurther machine handle (more - 1) false []) fails next.goes_on);
    chain = (t, next.leads, refl);
    took = next.took;
    sent = ended_sent on done old.held new.held old.write_faults new.write_faults (drained_bytes next.drain.reply) next.sent;
    heard = heard_nothing _;
    made = (inr next.made, tt);
  }

  further_broken : {T : Type 0} (e : Closed) (machine : MachineKey) (handle : List ℕ) (more : ℕ) (old new : Giving) (s t : S)
      → 0 < more → NextSent turn (Err e) machine handle old new s t → FurtherSent {T = T} turn (Err e) machine handle more old new s t
  further_broken {T} e machine handle more old new s t some next =
      let sent : Sent {T = T} (Err e) old.held new.held old.write_faults new.write_faults (drained_bytes next.drain.reply ++ []) =
      sent_broken {T = Bool} {U = T} e old.held new.held old.write_faults new.write_faults (drained_bytes next.drain.reply) [] next.sent in
      let holds : breaks {T = T} (Err e) ≡ true = broke T e sent.written (drained_bytes next.drain.reply ++ []) old.write_faults new.write_faults sent.is in
      record {
        further = next.drain ∷ [];
        are = (
          some,
          next.drain_is,
          behind_break (breaks {T = T} (Err e)) e next.drain.reply (AreFurther machine handle (more - 1) (breaks {T = T} (Err e)) []) holds (inr holds) next.goes_on,
        );
        chain = (t, next.leads, refl);
        took = next.took;
        sent = sent;
        heard = heard_nothing _;
        made = (inl (holds, refl), tt);
      }

  pub further_failed : {T : Type 0} (outcome : Result T Closed) (e : Closed) (machine : MachineKey) (handle : List ℕ) (more : ℕ) (old new : Giving) (s t : S)
      → outcome ≡ Err e → 0 < more → NextSent turn (Err e) machine handle old new s t → FurtherSent turn outcome machine handle more old new s t
  further_failed {T} outcome e machine handle more old new s t is some next =
      subst (λ (r : Result T Closed). FurtherSent turn r machine handle more old new s t) (sym is) (further_broken {T = T} e machine handle more old new s t some next)

  -- ---- the first drain

  module _ (given : FrontSettings) (more : ℕ) (close : Bool) (p : Poll) (handle : List ℕ) (resumed : Bool) where
    -- frames went out, and further drains followed
    pub frames_then : {T : Type 0} (done : T) (outcome : Result T Closed) (responses : List Response) (h k l : Option (List ℕ)) (n m j : ℕ) (a b : ℕ → Option ℤ)
        (w : ℕ → Option (List ℕ)) (f : ℕ) (s t : S) → Sent (Ok done) h k n m (stream_opening handle resumed ++ chunks_for responses) → AreSized (greetings handle resumed ++ responses)
        → FurtherSent turn outcome p.machine handle more (taking k m a w f) (taking l j b w f) s t
        → DrainedSent turn given more outcome close p handle resumed (Frames responses) (taking h n a w f) (taking l j b w f) s t
    frames_then done outcome responses h k l n m j a b w f s t first sized rest = record {
      further = rest.further;
      are = rest.are;
      chain = rest.chain;
      took = took_apart k l h l m j n j a b w w f f rest.further rest.took;
      sent = sent_then done outcome h k l n m j (stream_opening handle resumed ++ chunks_for responses) (further_bytes rest.further) first rest.sent;
      heard = heard_first handle resumed responses done outcome h k l n m j rest.further first rest.sent rest.heard;
      made = (inr sized, rest.made);
    }

    -- they broke off
    pub frames_broken : {T : Type 0} (e : Closed) (responses : List Response) (h k : Option (List ℕ)) (n m : ℕ) (a : ℕ → Option ℤ) (w : ℕ → Option (List ℕ)) (f : ℕ) (s : S)
        → Sent {T = T} (Err e) h k n m (stream_opening handle resumed ++ chunks_for responses)
        → DrainedSent {T = T} turn given more (Err e) close p handle resumed (Frames responses) (taking h n a w f) (taking k m a w f) s s
    frames_broken {T} e responses h k n m a w f s first = record {
      further = [];
      are = inr (broke T e first.written (stream_opening handle resumed ++ chunks_for responses) n m first.is);
      chain = refl;
      took = took_none (taking h n a w f) (taking k m a w f) (λ i. refl) (λ i. refl) (omega arith);
      sent = sent_broken {T = T} {U = T} e h k n m (stream_opening handle resumed ++ chunks_for responses) [] first;
      heard = heard_nothing _;
      made = (inl (broke T e first.written (stream_opening handle resumed ++ chunks_for responses) n m first.is, refl), tt);
    }

    -- the session has ended
    pub ended_then : {T : Type 0} (outcome : Result T Closed) (h k : Option (List ℕ)) (n m : ℕ) (a : ℕ → Option ℤ) (w : ℕ → Option (List ℕ)) (f : ℕ) (s : S)
        → Sent outcome h k n m (stream_opening handle resumed) → OnOk outcome (AreSized (greetings handle resumed))
        → DrainedSent turn given more outcome close p handle resumed Ended (taking h n a w f) (taking k m a w f) s s
    ended_then outcome h k n m a w f s sent sized = record {
      further = [];
      are = refl;
      chain = refl;
      took = took_none (taking h n a w f) (taking k m a w f) (λ i. refl) (λ i. refl) (omega arith);
      sent = sent;
      heard = heard_nothing _;
      made = (made_or_broken outcome (greetings handle resumed) sent.written (stream_opening handle resumed) n m sent.is sized, tt);
    }

    -- memory ran out
    pub lost_then : {T : Type 0} (outcome : Result T Closed) (loss : Loss) (h k : Option (List ℕ)) (n m : ℕ) (a : ℕ → Option ℤ) (w : ℕ → Option (List ℕ)) (f : ℕ) (s : S)
        → Sent outcome h k n m (reply_bytes given (map_ask_of p) (Lost loss) close)
        → DrainedSent turn given more outcome close p handle resumed (Lost loss) (taking h n a w f) (taking k m a w f) s s
    lost_then outcome loss h k n m a w f s sent = record {
      further = [];
      are = refl;
      chain = refl;
      took = took_none (taking h n a w f) (taking k m a w f) (λ i. refl) (λ i. refl) (omega arith);
      sent = sent;
      heard = heard_nothing _;
      made = (inr tt, tt);
    }

    -- ---- from the first drain to the detach

    weaker : (b c : Bool) (reply : Reply) (ts : List Turned) (P Q : Type 0) → (b ≡ true → c ≡ true) → (P → Q) → IsBehindDrain b reply ts P → IsBehindDrain c reply ts Q
    weaker b c (Done answer) ts P Q h f q = q
    weaker b c (Attached other seq again may_wait) ts P Q h f q = q
    weaker b c (Frames responses) ts P Q h f q = f q
    weaker b c Ended ts P Q h f q = q
    weaker b c Detached ts P Q h f q = q
    weaker b c (Refused refusal) ts P Q h f q = q
    weaker b c (Lost loss) ts P Q h f q = (q.0, h q.1)

    further_still : (b c : Bool) (left : ℕ) (ts : List Turned) → (b ≡ true → c ≡ true) → AreFurther p.machine handle left b ts → AreFurther p.machine handle left c ts
    further_still b c left [] h (inl none) = inl none
    further_still b c left [] h (inr holds) = inr (h holds)
    further_still b c left (t ∷ ts) h are = (
      are.0,
      are.1,
      weaker b c t.reply ts (AreFurther p.machine handle (left - 1) b ts) (AreFurther p.machine handle (left - 1) c ts) h (further_still b c (left - 1) ts h) are.2,
    )

    behind_still : (b c : Bool) (reply : Reply) (ts : List Turned) → (b ≡ true → c ≡ true) → AreBehind p.machine handle more b reply ts → AreBehind p.machine handle more c reply ts
    behind_still b c (Done answer) ts h q = q
    behind_still b c (Attached other seq again may_wait) ts h q = q
    behind_still b c (Frames responses) ts h q = further_still b c more ts h q
    behind_still b c Ended ts h q = q
    behind_still b c Detached ts h q = q
    behind_still b c (Refused refusal) ts h q = q
    behind_still b c (Lost loss) ts h q = q

    made_in : (b c : Bool) (rs : List Response) (ts : List Turned) → (b ≡ true → c ≡ true) → AreMade b rs ts → AreMade c rs ts
    made_in b c rs ts h (inl broken) = inl (h broken.0, broken.1)
    made_in b c rs ts h (inr sized) = inr sized

    further_made : (b c : Bool) (ts : List Turned) → (b ≡ true → c ≡ true) → AreFurtherMade b ts → AreFurtherMade c ts
    further_made b c [] h made = tt
    further_made b c (t ∷ ts) h made = (made_in b c (frames_in t.reply) ts h made.0, further_made b c ts h made.1)

    all_made : (b c : Bool) (reply : Reply) (ts : List Turned) → (b ≡ true → c ≡ true) → AreAllMade b handle resumed reply ts → AreAllMade c handle resumed reply ts
    all_made b c reply ts h made = (made_in b c (first_responses handle resumed reply) ts h made.0, further_made b c ts h made.1)

    pub followed_all : {T : Type 0} (sent outcome : Result T Closed) (reply : Reply) (h k l : Option (List ℕ)) (n m j : ℕ) (a b c d : ℕ → Option ℤ)
        (w : ℕ → Option (List ℕ)) (f : ℕ) (s u v t : S)
        → TurnedOnce turn (IsDrainOf p.machine handle) reply (taking h n a w f) (taking h n b w f) s u
        → DrainedSent turn given more sent close p handle resumed reply (taking h n b w f) (taking k m c w f) u v
        → TurnedOnce turn (IsDetachOf p.machine handle) Detached (taking k m c w f) (taking k m d w f) v t
        → Completed sent outcome k l m j (stream_ending reply)
        → Followed turn given more outcome close p handle resumed (taking h n a w f) (taking l j d w f) s t
    followed_all sent outcome reply h k l n m j a b c d w f s u v t drain drained detach completed =
        let ts = drained.further in
        let g0 = taking h n a w f in
        let g1 = taking h n b w f in
        let g2 = taking k m c w f in
        let g3 = taking k m d w f in
        let later = drain.turned ∷ (ts ++ detach.turned ∷ []) in
        let tail : Chain turn u (ts ++ detach.turned ∷ []) t = Chain-append turn u ts (detach.turned ∷ []) v t drained.chain (t, detach.leads, refl) in
        let took : TurnsTook g0 g3 later = took-append g0 g1 g3 (drain.turned ∷ []) (ts ++ detach.turned ∷ []) drain.took
        (took-append g1 g2 g3 ts (detach.turned ∷ []) drained.took detach.took) in
        let is = sym drain.reply_is in
        let still : breaks sent ≡ true → breaks outcome ≡ true = still_breaks sent outcome k l m j (stream_ending reply) completed in
        let front : List ℕ = stream_front given close p handle resumed reply ts in
        let whole : heard_drains handle resumed later ≡ before_last handle resumed reply ts =
        ap (λ (r : Reply). before_last handle resumed r (without_last (ts ++ detach.turned ∷ []))) drain.reply_is
        ∙ ap (λ (us : List Turned). before_last handle resumed reply us) (without_added ts detach.turned) in
        record {
          later = later;
          bytes = stream_front given close p handle resumed reply ts ++ stream_ending reply;
          stream = record {
            drain = drain.turned;
            further = ts;
            detach = detach.turned;
            later_are = refl;
            drain_is = drain.fits;
            further_are = subst (λ (r : Reply). AreBehind p.machine handle more (breaks outcome) r ts) is
                (behind_still (breaks sent) (breaks outcome) reply ts still drained.are);
            detach_is = detach.fits;
            bytes_are = ap (λ (r : Reply). stream_front given close p handle resumed r ts ++ stream_ending r) is;
            made = subst (λ (r : Reply). AreAllMade (breaks outcome) handle resumed r ts) is (all_made (breaks sent) (breaks outcome) reply ts still drained.made);
          };
          chain = (u, drain.leads, tail);
          took = took_apart h k h l n m n j a d w w f f later took;
          sent = sent_completed sent outcome h k l n m j (stream_front given close p handle resumed reply ts) (stream_ending reply) drained.sent completed;
          heard = subst (λ (part : List ℕ). IsPrefix part (sent_completed sent outcome h k l n m j front (stream_ending reply) drained.sent completed).written) (sym whole)
              (heard_completed sent outcome h k l n m j front (stream_ending reply) (before_last handle resumed reply ts) drained.sent completed drained.heard);
        }

  -- ---- from the attach on

  module _ (given : FrontSettings) (more : ℕ) (close : Bool) (p : Poll) where
    -- the session goes on or began
    pub answered_on : {T : Type 0} (outcome : Result T Closed) (reply : Reply) (handle : List ℕ) (seq : ℕ) (resumed may_wait : Bool) (old new : Giving) (s t : S)
        → reply ≡ Attached handle seq resumed may_wait
        → Followed turn given (if may_wait then more else 0) outcome close p handle resumed old new s t
        → AttachAnswered turn given more outcome close p reply old new s t
    answered_on outcome reply handle seq resumed may_wait old new s t is followed = record {
      later = followed.later;
      bytes = followed.bytes;
      follows = subst (λ (r : Reply). IsPollOf given more close p r followed.later followed.bytes (breaks outcome)) (sym is) followed.stream;
      chain = followed.chain;
      took = followed.took;
      sent = followed.sent;
      heard = subst (λ (r : Reply). IsPrefix (heard_behind r followed.later) followed.sent.written) (sym is) followed.heard;
    }

    -- the attach was refused or lost, and nothing follows
    pub answered_alone : {T : Type 0} (outcome : Result T Closed) (reply : Reply) (h k : Option (List ℕ)) (n m : ℕ) (a : ℕ → Option ℤ) (w : ℕ → Option (List ℕ)) (f : ℕ) (s : S)
        → IsPollOf given more close p reply [] (reply_bytes given (map_ask_of p) reply close) (breaks outcome)
        → Sent outcome h k n m (reply_bytes given (map_ask_of p) reply close)
        → AttachAnswered turn given more outcome close p reply (taking h n a w f) (taking k m a w f) s s
    answered_alone outcome reply h k n m a w f s follows sent = record {
      later = [];
      bytes = reply_bytes given (map_ask_of p) reply close;
      follows = follows;
      chain = refl;
      took = took_none (taking h n a w f) (taking k m a w f) (λ i. refl) (λ i. refl) (omega arith);
      sent = sent;
      heard = heard_alone reply sent.written;
    }

    pub polled : {T : Type 0} (outcome : Result T Closed) (reply : Reply) (h k : Option (List ℕ)) (n m : ℕ) (a b c : ℕ → Option ℤ)
        (w x : ℕ → Option (List ℕ)) (f g : ℕ) (s u t : S)
        → TurnedOnce turn (IsAttachOf p) reply (taking h n a w f) (taking h n b x g) s u
        → AttachAnswered turn given more outcome close p reply (taking h n b x g) (taking k m c x g) u t
        → IsPollAnswered turn given more outcome p close (taking h n a w f) (taking k m c x g) s t
    polled outcome reply h k n m a b c w x f g s u t attach answered = record {
      turns = attach.turned ∷ answered.later;
      bytes = answered.bytes;
      poll = record {
        attach = attach.turned;
        later = answered.later;
        turns_are = refl;
        attach_is = attach.fits;
        follows = subst (λ (r : Reply). IsPollOf given more close p r answered.later answered.bytes (breaks outcome)) (sym attach.reply_is) answered.follows;
      };
      chain = (u, attach.leads, answered.chain);
      took = took-append (taking h n a w f) (taking h n b x g) (taking k m c x g) (attach.turned ∷ []) answered.later attach.took answered.took;
      sent = answered.sent;
      heard = subst (λ (r : Reply). IsPrefix (heard_behind r answered.later) answered.sent.written) (sym attach.reply_is) answered.heard;
    }
