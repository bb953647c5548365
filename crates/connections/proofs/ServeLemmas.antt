-- A connection, one exchange after another.
use Rattle.std.proofs.Common.{◌≡◌, ◌≤◌, ◌<◌, inl, inr, ◌+◌, ◌-◌, ◌==◌, ℕ, Bool, false, Option, None, Some, List, [], ◌∷◌, ◌++◌, refl, ap, sym, ◌∙◌, arith, append_assoc, Result, Ok, Err, OnOk, IfErr, subst}
use Rattle.std.specs.Option.{option_or}
use Rattle.std.proofs.lemmas.List.{append-nil}
use Rattle.io_edge.specs.Edge.{and_then_left, and_held}
use Rattle.io_edge.proofs.Told.{left_more, held_more, held_nothing, rose_later}
use Rattle.http_front.specs.HeadFaults.{head_fault_answer}
use Rattle.http_front.specs.declared.head_fault.HeadFault.{HeadFault}
use Rattle.http_front.specs.Requests.{IsWhole, IsTail, bad}
use Rattle.http_front.specs.Taking.{Takes}
use Rattle.http_front.specs.declared.request.Request.{Request}
use Rattle.http_front.specs.declared.request.Taken.TheVariants as taken
use Rattle.http_front.proofs.Streams.{IsWhole-append}
use Rattle.tailnet_desk.specs.Chains.{Chain}
use Rattle.tailnet_desk.proofs.Histories.{Chain-append}
use Rattle.tailnet_desk.specs.declared.entry.Event.{Event}
use Rattle.tailnet_desk.specs.declared.reply.Reply.{Reply}
use Rattle.desk_front.specs.declared.front_settings.FrontSettings.{FrontSettings}
use Rattle.connections.specs.Tellings.{Giving, TurnsTook}
use Rattle.connections.specs.Asked.{IsRefusalSent, IsRefusedBy}
use Rattle.connections.specs.Exchanges.{Exchange, IsExchange, AreExchanges, Answered, IsOutcome, breaks, turns_of, answers_of, end_of}
use Rattle.connections.specs.Polls.{heard_of}
use Rattle.exit_status.specs.Pieces.{IsPrefix}
use Rattle.connections.specs.Connection.{IsConnection, Goes, Ends, IsExtra, Told}
use Rattle.connections.proofs.AnswerLemmas.{took_none}
use Rattle.connections.proofs.Tellings.{took-append}
use Rattle.exit_status.proofs.Writes.{prefix_more}
use Rattle.exit_status.specs.declared.closed.Closed.{Closed}
use Rattle.exit_status.specs.declared.closed.Closed.TheVariants.{End, Early, ReadFault, WriteFault, NoMemory}

refused_ends : (closed : Closed) (rest : List ℕ) (fault : HeadFault) (written : List ℕ) (old new : Told) → IsTail rest (bad fault) → IsRefusedBy written (head_fault_answer fault) old.giving.write_faults new.giving.write_faults closed
    → IsPrefix written (head_fault_answer fault) → Ends closed [] rest (head_fault_answer fault) written old new
refused_ends End rest fault written old new tail h front = absurd h
refused_ends Early rest fault written old new tail h front = (h, inr (refl, inr (fault, tail, refl)), tt)
refused_ends ReadFault rest fault written old new tail h front = absurd h
refused_ends WriteFault rest fault written old new tail h front = (front, h)
refused_ends NoMemory rest fault written old new tail h front = front

or_none : (o : Option Closed) → option_or o None ≡ o
or_none None = refl
or_none (Some x) = refl

last_ends : (T : Type 0) (closed : Closed) (x : Exchange) (rest written : List ℕ) (old new : Told) → IsOutcome {T = T} (Err closed) x.ended written x.bytes old.giving.write_faults new.giving.write_faults
    → IsPrefix written x.bytes → IsPrefix (heard_of x.turns) written → x.broken ≡ breaks {T = T} (Err closed) → Ends closed (x ∷ []) rest [] written old new
last_ends T End x rest written old new h front heard b = (h.0 ∙ sym (append-nil x.bytes), inl (or_none x.ended ∙ h.1), (b, tt))
last_ends T Early x rest written old new h front heard b = (h.0 ∙ sym (append-nil x.bytes ∙ ap (λ b. b) refl) ∙ sym (append-nil (x.bytes ++ [])), inl (or_none x.ended ∙ h.1), (b, tt))
last_ends T ReadFault x rest written old new h front heard b = absurd h
last_ends T WriteFault x rest written old new h front heard b = (inl (b, refl, refl, front, heard), h)
last_ends T NoMemory x rest written old new h front heard b = inl (b, refl, refl, front, heard)

ends_more : (closed : Closed) (x : Exchange) (xs : List Exchange) (rest extra written : List ℕ) (old mid new : Told) → x.ended ≡ None → x.broken ≡ false → old.read_faults ≤ mid.read_faults → old.giving.write_faults ≤ mid.giving.write_faults
    → Ends closed xs rest extra written mid new → Ends closed (x ∷ xs) rest extra (x.bytes ++ written) old new
ends_more End x xs rest extra written old mid new still u r w e = rw still (ap (λ b. x.bytes ++ b) e.0, e.1, (u, e.2))
ends_more Early x xs rest extra written old mid new still u r w e = rw still (ap (λ b. x.bytes ++ b) e.0 ∙ sym (append_assoc x.bytes (answers_of xs) extra), e.1, (u, e.2))
ends_more ReadFault x xs rest extra written old mid new still u r w e = rw still (ap (λ b. x.bytes ++ b) e.0, e.1, e.2, rose_later old.read_faults mid.read_faults new.read_faults r e.3, (u, e.4))
ends_more WriteFault x xs rest extra written old mid new still u r w e = (inr (written, u, refl, e.0), rose_later old.giving.write_faults mid.giving.write_faults new.giving.write_faults w e.1)
ends_more NoMemory x xs rest extra written old mid new still u r w e = inr (written, u, refl, e)

extra_more : (x : Exchange) (xs : List Exchange) (rest extra : List ℕ) → x.ended ≡ None → IsExtra (end_of xs) rest extra → IsExtra (end_of (x ∷ xs)) rest extra
extra_more x xs rest extra still e = rw still e

module _ {S : Type 0} (turn : S → Event → Reply → S → Type 0) (given : FrontSettings) (further : ℕ) where
  -- nothing was served, and nothing written
  pub serves_none : (closed : Closed) (limit : ℕ) (held read : List ℕ) (old new : Told) (s : S) → new.giving ≡ old.giving → old.left ≡ and_then_left read new.left → old.read_faults ≤ new.read_faults
      → Ends closed [] (held ++ read) [] [] old new → IsConnection turn given further closed limit held old new s s
  serves_none closed limit held read old new s same came later ends =
      let quiet : (f : Giving) → f ≡ old.giving → TurnsTook old.giving f [] = λ f e. subst (λ (x : Giving). TurnsTook old.giving x []) (sym e) (took_none old.giving old.giving (λ k. refl) (λ k. refl) (omega arith)) in
      record {
        exchanges = [];
        read = read;
        rest = held ++ read;
        extra = [];
        written = [];
        from_source = came;
        bytes_read = refl;
        each = tt;
        chain = refl;
        took = quiet new.giving same;
        extra_is = inl refl;
        front = ([], refl);
        to_sink = ap (λ (x : Giving). x.held) same ∙ held_nothing old.giving.held;
        reads_later = later;
        writes_later = omega (arith, ap (λ (x : Giving). x.write_faults) same);
        ending = ends;
      }

  -- nothing was served, and a refused head was answered
  pub serves_refused : (closed : Closed) (limit : ℕ) (held new_held : List ℕ) (fault : HeadFault) (old new : Told) (s : S)
      → Takes old.left new.left held new_held (taken.Bad fault) → old.read_faults ≤ new.read_faults
      → ((k : ℕ) → new.giving.answers k ≡ old.giving.answers k) → ((k : ℕ) → new.giving.words k ≡ old.giving.words k) → old.giving.word_faults ≤ new.giving.word_faults
      → IsRefusalSent old.giving.held new.giving.held old.giving.write_faults new.giving.write_faults (head_fault_answer fault) closed → IsConnection turn given further closed limit held old new s s
  serves_refused closed limit held new_held fault old new s took later answers words faults refused = record {
    exchanges = [];
    read = took.read;
    rest = held ++ took.read;
    extra = head_fault_answer fault;
    written = refused.written;
    from_source = took.moved;
    bytes_read = refl;
    each = tt;
    chain = refl;
    took = took_none old.giving new.giving answers words faults;
    extra_is = inr (refl, (fault, took.answers.0, refl));
    front = refused.front;
    to_sink = refused.to_sink;
    reads_later = later;
    writes_later = refused.later;
    ending = refused_ends closed (held ++ took.read) fault refused.written old new took.answers.0 refused.is refused.front;
  }

  -- the last request was served
  pub served_last : {T : Type 0} (outcome : Result T Closed) (request : Request) (last : Bool) (held new_held : List ℕ) (old new : Told) (s t : S)
      → Takes old.left new.left held new_held (taken.Request request) → old.read_faults ≤ new.read_faults → Answered turn given further outcome request last old.giving new.giving s t
      → IfErr outcome (λ closed. (limit : ℕ) → 0 < limit → last ≡ (limit == 1) → IsConnection turn given further closed limit held old new s t)
  served_last (Ok done) request last held new_held old new s t took later answered = tt
  served_last {T} (Err closed) request last held new_held old new s t took later answered = λ limit some is_last.
      let x = answered.exchange in
      let whole : IsWhole (held ++ took.read) x.request new_held = rw answered.request_is took.answers in
      record {
        exchanges = x ∷ [];
        read = took.read;
        rest = new_held;
        extra = [];
        written = answered.written;
        from_source = took.moved;
        bytes_read = (new_held, whole, refl);
        each = (some, subst (λ (b : Bool). IsExchange given further b x) is_last answered.is, λ never. absurd (never refl), tt);
        chain = rw append-nil answered.chain;
        took = rw append-nil answered.took;
        extra_is = inl refl;
        front = rw (append-nil, append-nil) answered.front;
        to_sink = answered.to_sink;
        reads_later = later;
        writes_later = answered.later;
        ending = last_ends T closed x new_held answered.written old new answered.outcome_is answered.front answered.heard answered.broken_is;
      }

  -- a request was served, and the connection goes on
  pub goes_one : {T : Type 0} (outcome : Result T Closed) (request : Request) (last : Bool) (held new_held : List ℕ) (old new : Told) (s t : S)
      → Takes old.left new.left held new_held (taken.Request request) → old.read_faults ≤ new.read_faults → Answered turn given further outcome request last old.giving new.giving s t → OnOk outcome (last ≡ false)
      → OnOk outcome (Goes turn given further last held new_held old new s t)
  goes_one (Ok done) request last held new_held old new s t took later answered more = record {
    unfinished = more;
    exchange = answered.exchange;
    read = took.read;
    from_source = took.moved;
    bytes_read = rw answered.request_is took.answers;
    is = answered.is;
    open_still = answered.outcome_is.1;
    unbroken = answered.broken_is;
    chain = answered.chain;
    took = answered.took;
    to_sink = answered.to_sink ∙ ap (λ b. and_held old.giving.held b) answered.outcome_is.0;
    reads_later = later;
    writes_later = answered.later;
  }
  goes_one (Err closed) request last held new_held old new s t took later answered more = tt

  -- one exchange, and then the rest of the connection
  pub serves_more : (closed : Closed) (limit more : ℕ) (last : Bool) (held mid_held : List ℕ) (old mid new : Told) (s u t : S) → limit ≡ more - 1 → 0 < more → last ≡ (more == 1)
      → Goes turn given further last held mid_held old mid s u → IsConnection turn given further closed limit mid_held mid new u t → IsConnection turn given further closed more held old new s t
  serves_more closed limit more last held mid_held old mid new s u t is some is_last goes serves =
      let x = goes.exchange in
      let xs = serves.exchanges in
      let whole : IsWhole (held ++ (goes.read ++ serves.read)) x.request (mid_held ++ serves.read) =
      rw (← append_assoc held goes.read serves.read) (IsWhole-append (held ++ goes.read) x.request mid_held serves.read goes.bytes_read) in
      record {
        exchanges = x ∷ xs;
        read = goes.read ++ serves.read;
        rest = serves.rest;
        extra = serves.extra;
        written = x.bytes ++ serves.written;
        from_source = goes.from_source ∙ ap (λ o. and_then_left goes.read o) serves.from_source ∙ left_more new.left goes.read serves.read;
        bytes_read = (mid_held ++ serves.read, whole, serves.bytes_read);
        each = (some, subst (λ (b : Bool). IsExchange given further b x) is_last goes.is, λ _. (goes.open_still, goes.unbroken), subst (λ (n : ℕ). AreExchanges given further n xs) is serves.each);
        chain = Chain-append turn s x.turns (turns_of xs) u t goes.chain serves.chain;
        took = took-append old.giving mid.giving new.giving x.turns (turns_of xs) goes.took serves.took;
        extra_is = extra_more x xs serves.rest serves.extra goes.open_still serves.extra_is;
        front = rw (append_assoc x.bytes (answers_of xs) serves.extra) (prefix_more x.bytes serves.written (answers_of xs ++ serves.extra) serves.front);
        to_sink = serves.to_sink ∙ ap (λ o. and_held o serves.written) goes.to_sink ∙ held_more old.giving.held x.bytes serves.written;
        reads_later = omega (arith, goes.reads_later, serves.reads_later);
        writes_later = omega (arith, goes.writes_later, serves.writes_later);
        ending = ends_more closed x xs serves.rest serves.extra serves.written old mid new goes.open_still goes.unbroken goes.reads_later goes.writes_later serves.ending;
      }
