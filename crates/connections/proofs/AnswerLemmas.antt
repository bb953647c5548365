-- One request and its answer.
use Rattle.std.proofs.Common.{◌≡◌, ◌≤◌, ◌+◌, ℕ, ℤ, Bool, true, false, ◌||◌, ◌==◌, Option, None, Some, List, [], ◌∷◌, inl, inr, refl, ap, sym, subst, ◌∙◌, arith, Result, Ok, Err, add-zero, codes, if◌then◌else◌}
use Rattle.std.specs.Option.{option_map}
use Rattle.net_addr.specs.Moments.{clamped}
use Rattle.io_edge.specs.Edge.{IsWhereTold}
use Rattle.io_edge.specs.Stream as stream
use Rattle.http_front.specs.AnswerBytes.{answer}
use Rattle.http_front.specs.declared.request.Request.{Request}
use Rattle.tailnet_desk.specs.Asks.{ask_draws}
use Rattle.tailnet_desk.specs.Chains.{Turned}
use Rattle.tailnet_desk.specs.declared.ask.Ask.{Ask}
use Rattle.tailnet_desk.specs.declared.entry.Event.{Event}
use Rattle.tailnet_desk.specs.declared.entry.Event.TheVariants as event
use Rattle.tailnet_desk.specs.declared.reply.Reply.{Reply}
use Rattle.tailnet_desk.specs.declared.reply.Reply.TheVariants.{Attached, Detached, Done, Ended, Frames, Lost, Refused}
use Rattle.desk_front.specs.Replies.{reply_bytes}
use Rattle.desk_front.specs.Wanted.{wanted_of}
use Rattle.desk_front.specs.declared.want.Wanted.TheVariants as wants
use Rattle.desk_front.specs.declared.front_settings.FrontSettings.{FrontSettings}
use Rattle.desk_front.specs.declared.poll.Poll.{Poll}
use Rattle.connections.specs.Tellings.{Giving, TurnsTook, Drew}
use Rattle.connections.specs.Asked.{IsAskAnswered, Follows}
use Rattle.connections.specs.Polled.{IsPollAnswered}
use Rattle.connections.specs.Polls.{IsPoll, heard_behind, heard_of}
use Rattle.connections.specs.Exchanges.{Answered, IsExchange, IsOutcome, breaks, ended_by}
use Rattle.exit_status.specs.Pieces.{IsPrefix, Sent, IsSent}
use Rattle.exit_status.specs.declared.closed.Closed.{Closed}
use Rattle.exit_status.specs.declared.closed.Closed.TheVariants.{End, Early, ReadFault, WriteFault, NoMemory}

abbrev pub same_number : {A : Type 0} (new old : ℕ → A) → ((k : ℕ) → new k ≡ old k) → (k : ℕ) → new k ≡ old (k + 0)
same_number new old h k = h k ∙ ap old (sym (add-zero k))

pub took_none : (old new : Giving) → ((k : ℕ) → new.answers k ≡ old.answers k) → ((k : ℕ) → new.words k ≡ old.words k) → old.word_faults ≤ new.word_faults → TurnsTook old new []
took_none old new a w f = record { moments = tt; clock = same_number new.answers old.answers a; words = tt; entropy = same_number new.words old.words w; word_faults = omega arith }

-- the moment that the clock answered, brought to the nearest moment
pub clamped_told : (m : ℤ) (o : Option ℤ) → IsWhereTold m o → IsWhereTold (clamped m) (option_map clamped o)
clamped_told m None h = tt
clamped_told m (Some n) h = ap clamped h

-- the test of whether words are due, at each of its answers
took_when : (due : Bool) (ask : Ask) (m : ℤ) (moment : ℤ) (words : Option (List ℕ)) (reply : Reply) (old new : Giving) → ask_draws ask ≡ due → moment ≡ clamped m
    → Drew due words old.words new.words old.word_faults new.word_faults → stream.Took old.answers new.answers m
    → TurnsTook old new (record { event = event.Ask ask moment words; reply = reply } ∷ [])
took_when false ask m moment None reply old new e at d t = record {
  moments = (rw at (clamped_told m _ t.first), tt);
  clock = t.rest;
  words = (tt, tt);
  entropy = same_number new.words old.words d.0;
  word_faults = rw e (omega (arith, d.1));
}
took_when false ask m moment (Some word) reply old new e at d t = absurd d
took_when true ask m moment None reply old new e at d t = record {
  moments = (rw at (clamped_told m _ t.first), tt);
  clock = t.rest;
  words = (tt, tt);
  entropy = same_number new.words old.words d.0;
  word_faults = rw e (omega (arith, d.1, d.2));
}
took_when true ask m moment (Some word) reply old new e at d t = record {
  moments = (rw at (clamped_told m _ t.first), tt);
  clock = t.rest;
  words = (d.0.first, tt);
  entropy = d.0.rest;
  word_faults = omega (arith, d.1);
}

drew_none : (due : Bool) (words : Option (List ℕ)) (old new : ℕ → Option (List ℕ)) (n m : ℕ) → Drew due words old new n m → due ≡ false → words ≡ None
drew_none false None old new n m d e = refl
drew_none false (Some word) old new n m d e = absurd d
drew_none true words old new n m d e = absurd (cc)

-- an ask was one turn
pub asked_once : {T S : Type 0} (turn : S → Event → Reply → S → Type 0) (given : FrontSettings) (outcome : Result T Closed) (ask : Ask) (close : Bool) (m moment : ℤ) (words : Option (List ℕ)) (reply : Reply) (old new : Giving) (s t : S)
    → moment ≡ clamped m → Drew (ask_draws ask) words old.words new.words old.word_faults new.word_faults → stream.Took old.answers new.answers m
    → turn s (event.Ask ask moment words) reply t
    → Sent outcome old.held new.held old.write_faults new.write_faults (reply_bytes given ask reply close) → IsAskAnswered turn given outcome ask close old new s t
asked_once turn given outcome ask close m moment words reply old new s t at drew took leads sent = record {
  turned = record { event = event.Ask ask moment words; reply = reply };
  asks = record {
    moment = moment;
    words = words;
    event_is = refl;
    undrawn = drew_none (ask_draws ask) words old.words new.words old.word_faults new.word_faults drew;
  };
  leads = leads;
  took = took_when (ask_draws ask) ask m moment words reply old new refl at drew took;
  sent = sent;
}

-- the connection ends exactly where it is to close
abbrev pub IsClosing : {T : Type 0} → Bool → Result T Closed → Type 0
IsClosing close (Ok done) = close ≡ false
IsClosing close (Err e) = (close ≡ true) × (e ≡ End)

-- after an answer that was written whole, the connection goes on or ends
sent_closing : (T : Type 0) (closing : Result T Closed) (close : Bool) (written bytes : List ℕ) (before now : ℕ) → written ≡ bytes → IsClosing close closing → IsOutcome closing (ended_by close) written bytes before now
sent_closing T (Ok r) close written bytes before now w c = (w, ap ended_by c)
sent_closing T (Err End) close written bytes before now w c = (w, ap ended_by c.0)
sent_closing T (Err Early) close written bytes before now w c = absurd (let h : Early ≡ End = c.1 in cc)
sent_closing T (Err ReadFault) close written bytes before now w c = absurd (let h : ReadFault ≡ End = c.1 in cc)
sent_closing T (Err WriteFault) close written bytes before now w c = absurd (let h : WriteFault ≡ End = c.1 in cc)
sent_closing T (Err NoMemory) close written bytes before now w c = absurd (let h : NoMemory ≡ End = c.1 in cc)

-- then nothing broke off
closing_whole : (T : Type 0) (closing : Result T Closed) (close : Bool) → IsClosing close closing → breaks closing ≡ false
closing_whole T (Ok r) close c = refl
closing_whole T (Err End) close c = refl
closing_whole T (Err Early) close c = refl
closing_whole T (Err ReadFault) close c = refl
closing_whole T (Err WriteFault) close c = absurd (let h : WriteFault ≡ End = c.1 in cc)
closing_whole T (Err NoMemory) close c = absurd (let h : NoMemory ≡ End = c.1 in cc)

-- an answer that wasn't written whole
sent_fails : (T : Type 0) (e : Closed) (ended : Option Closed) (written bytes : List ℕ) (before now : ℕ) → IsSent {T = T} (Err e) written bytes before now → IsOutcome {T = T} (Err e) ended written bytes before now
sent_fails T End ended written bytes before now h = absurd h
sent_fails T Early ended written bytes before now h = absurd h
sent_fails T ReadFault ended written bytes before now h = absurd h
sent_fails T WriteFault ended written bytes before now h = h
sent_fails T NoMemory ended written bytes before now h = tt

pub follows_fault : (T : Type 0) (e : Closed) (ended : Option Closed) → Follows {T = T} (Err e) (Err e) ended
follows_fault T e ended = record { is = λ written bytes before now h. sent_fails T e ended written bytes before now h; breaks_so = refl }

pub follows_closing : (T : Type 0) (done : T) (closing : Result T Closed) (close : Bool) → IsClosing close closing → Follows (Ok done) closing (ended_by close)
follows_closing T done closing close c = record {
  is = λ written bytes before now h. sent_closing T closing close written bytes before now h c;
  breaks_so = closing_whole T closing close c;
}

pub follows_early : (T : Type 0) (done : T) → Follows {T = T} (Ok done) (Err Early) (Some Early)
follows_early T done = record { is = λ written bytes before now h. (h, refl); breaks_so = refl }

-- an exchange without a turn
pub answered_fixed : {T S : Type 0} (turn : S → Event → Reply → S → Type 0) (given : FrontSettings) (more : ℕ) (sent outcome : Result T Closed) (request : Request) (last : Bool) (bytes : List ℕ) (ended : Option Closed) (old new : Giving) (s : S)
    → IsExchange given more last (record { request = request; turns = []; bytes = bytes; ended = ended; broken = breaks outcome })
    → ((k : ℕ) → new.answers k ≡ old.answers k) → ((k : ℕ) → new.words k ≡ old.words k) → old.word_faults ≤ new.word_faults
    → Sent sent old.held new.held old.write_faults new.write_faults bytes → Follows sent outcome ended → Answered turn given more outcome request last old new s s
answered_fixed turn given more sent outcome request last bytes ended old new s is a w f wrote follows = record {
  exchange = record { request = request; turns = []; bytes = bytes; ended = ended; broken = breaks outcome };
  request_is = refl;
  is = is;
  broken_is = refl;
  chain = refl;
  took = took_none old new a w f;
  written = wrote.written;
  front = wrote.front;
  heard = (wrote.written, refl);
  to_sink = wrote.to_sink;
  later = wrote.later;
  outcome_is = follows.is wrote.written bytes old.write_faults new.write_faults wrote.is;
}

-- one turn alone drains nothing again
pub heard_alone : (reply : Reply) (written : List ℕ) → IsPrefix (heard_behind reply []) written
heard_alone (Done answer) written = (written, refl)
heard_alone (Attached handle seq resumed may_wait) written = (written, refl)
heard_alone (Frames responses) written = (written, refl)
heard_alone Ended written = (written, refl)
heard_alone Detached written = (written, refl)
heard_alone (Refused refusal) written = (written, refl)
heard_alone (Lost loss) written = (written, refl)

heard_once : (t : Turned) (written : List ℕ) → IsPrefix (heard_of (t ∷ [])) written
heard_once t written = heard_alone t.reply written

-- an exchange of one turn
pub answered_ask : {T S : Type 0} (turn : S → Event → Reply → S → Type 0) (given : FrontSettings) (more : ℕ) (sent outcome : Result T Closed) (request : Request) (last : Bool) (ask : Ask) (old new : Giving) (s t : S)
    → wanted_of given request ≡ wants.Ask ask → IsAskAnswered turn given sent ask (request.close || last) old new s t → Follows sent outcome (ended_by (request.close || last)) → Answered turn given more outcome request last old new s t
answered_ask turn given more sent outcome request last ask old new s t wants_it asked follows =
    let close = request.close || last in
    record {
      exchange = record { request = request; turns = asked.turned ∷ []; bytes = reply_bytes given ask asked.turned.reply close; ended = ended_by close; broken = breaks outcome };
      request_is = refl;
      broken_is = refl;
      is = inr (rw wants_it (asked.turned, refl, asked.asks, refl, refl));
      chain = (t, asked.leads, refl);
      took = asked.took;
      written = asked.sent.written;
      front = asked.sent.front;
      heard = heard_once asked.turned asked.sent.written;
      to_sink = asked.sent.to_sink;
      later = asked.sent.later;
      outcome_is = follows.is asked.sent.written _ old.write_faults new.write_faults asked.sent.is;
    }

-- an exchange of a poll
pub answered_poll : {T S : Type 0} (turn : S → Event → Reply → S → Type 0) (given : FrontSettings) (more : ℕ) (sent outcome : Result T Closed) (request : Request) (last : Bool) (p : Poll) (old new : Giving) (s t : S)
    → wanted_of given request ≡ wants.Poll p → IsPollAnswered turn given more sent p (request.close || last) old new s t → Follows sent outcome (ended_by (request.close || last)) → Answered turn given more outcome request last old new s t
answered_poll turn given more sent outcome request last p old new s t wants_it polled follows =
    let close = request.close || last in
    record {
      exchange = record { request = request; turns = polled.turns; bytes = polled.bytes; ended = ended_by close; broken = breaks outcome };
      request_is = refl;
      broken_is = refl;
      is = inr (rw wants_it (subst (λ (b : Bool). IsPoll given more close p polled.turns polled.bytes b) (sym follows.breaks_so) polled.poll, refl));
      chain = polled.chain;
      took = polled.took;
      written = polled.sent.written;
      front = polled.sent.front;
      heard = polled.heard;
      to_sink = polled.sent.to_sink;
      later = polled.sent.later;
      outcome_is = follows.is polled.sent.written polled.bytes old.write_faults new.write_faults polled.sent.is;
    }

-- lack of memory before any event
pub exchange_unanswered : (given : FrontSettings) (more : ℕ) (request : Request) (last close broken : Bool) (bytes : List ℕ) → close ≡ (request.close || last) → bytes ≡ answer 503 (codes "{\"error\":\"NoMemory\"}") close
    → IsExchange given more last (record { request = request; turns = []; bytes = bytes; ended = ended_by close; broken = broken })
exchange_unanswered given more request last close broken bytes e is = inl (refl, is ∙ ap (λ (b : Bool). answer 503 (codes "{\"error\":\"NoMemory\"}") b) e, ap ended_by e)

-- a fixed answer leaves the connection as the request wants it
pub exchange_fixed : (given : FrontSettings) (more : ℕ) (request : Request) (last close broken : Bool) (status : ℕ) (body : List ℕ) → close ≡ (request.close || last) → wants.Answer status body ≡ wanted_of given request
    → IsExchange given more last (record { request = request; turns = []; bytes = answer status body close; ended = ended_by close; broken = broken })
exchange_fixed given more request last close broken status body e w = inr (rw (← w) (refl, ap (λ (b : Bool). answer status body b) e, ap ended_by e))

-- the answer to a faulty request ends the connection
pub exchange_faulty : (given : FrontSettings) (more : ℕ) (request : Request) (last broken : Bool) (body : List ℕ) → wants.Fault body ≡ wanted_of given request
    → IsExchange given more last (record { request = request; turns = []; bytes = answer 400 body true; ended = Some Early; broken = broken })
exchange_faulty given more request last broken body w = inr (rw (← w) (refl, refl, refl))
