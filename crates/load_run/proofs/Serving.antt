-- One request as a connection of its own.
use Rattle.std.proofs.Common.{◌≡◌, ◌<◌, ◌==◌, ◌-◌, ◌+◌, inl, inr, ℕ, ℤ, Bool, true, false, Option, None, Some, List, [], ◌∷◌, ◌++◌, length, refl, ap, sym, ◌∙◌, subst, arith}
use Rattle.std.proofs.lemmas.List.{append-nil}
use Rattle.io_edge.specs.Edge.{IsWhereTold, RoseBy, and_held, and_then_left}
use Rattle.http_front.specs.Requests.{Leads}
use Rattle.desk_front.specs.declared.front_settings.FrontSettings.{FrontSettings}
use Rattle.tailnet_desk.specs.Chains.{Chain, Turned}
use Rattle.tailnet_desk.specs.declared.entry.Event.{Event}
use Rattle.tailnet_desk.specs.declared.reply.Reply.{Reply}
use Rattle.connections.specs.Connection.{Ends, IsConnection, Told}
use Rattle.connections.specs.Exchanges.{AreExchanges, Exchange, IsExchange, answers_of, end_of, requests_of, turns_of}
use Rattle.tailnet_desk.specs.Asks.{event_words}
use Rattle.connections.specs.Tellings.{AreNext, MomentsTold, WordsTold, drawn, drawn_for, failed_draws, from_number}
use Rattle.connections.proofs.Tellings.{same_moments}
use Rattle.exit_status.specs.declared.closed.Closed.TheVariants.{End}
use Rattle.load_run.specs.Outside as outside
use Rattle.load_run.specs.Served.{IsServed}
use Rattle.load_run.specs.Steps.{Begins}

-- the one request of a connection, and its answer
record One (given : FrontSettings) (message written : List ℕ) (xs : List Exchange) : Type 0 where
  exchange : Exchange
  only : xs ≡ exchange ∷ []
  request : Begins message exchange.request
  is : IsExchange given 0 true exchange
  unbroken : exchange.broken ≡ false
  written_is : written ≡ exchange.bytes

no_message : {A : Type 0} (message : List ℕ) → 0 < length message → message ≡ [] → A
no_message message some none = absurd (let short : length message ≡ 0 = ap length none in omega (arith, some, short))

-- bytes that were read to their end and hold no request are none
unserved : (message read rest : List ℕ) (left : Option (List ℕ)) → Some message ≡ and_then_left read left → read ≡ rest → rest ≡ [] → IsWhereTold [] left → message ≡ []
unserved message read rest None came same none end = absurd (let bad : Some message ≡ None = came in cc)
unserved message read rest (Some more) came same none end =
    let is : Some message ≡ Some (read ++ more) = came in
    let whole : message ≡ read ++ more = cc in
    whole ∙ ap (λ m. read ++ m) (sym end) ∙ append-nil read ∙ same ∙ none

begun : (message read rest : List ℕ) (left : Option (List ℕ)) (x : Exchange) → Some message ≡ and_then_left read left → Leads read (x.request ∷ []) rest → Begins message x.request
begun message read rest None x came leads = absurd (let bad : Some message ≡ None = came in cc)
begun message read rest (Some more) x came leads =
    let is : Some message ≡ Some (read ++ more) = came in
    record { read = read; unread = more; bytes_are = cc; behind = rest; whole = leads }

one_exchange : (given : FrontSettings) (message read rest extra written : List ℕ) (old new : Told) (xs : List Exchange) → 0 < length message → Some message ≡ and_then_left read new.left
    → Leads read (requests_of xs) rest → AreExchanges given 0 1 xs → Ends End xs rest extra written old new → One given message written xs
one_exchange given message read rest extra written old new [] some came leads each ends = no_message message some (elim ends.1 [
  | inl ended ↦ absurd (cc)
  | inr ended ↦ unserved message read rest new.left came leads ended.1 ended.2
])
one_exchange given message read rest extra written old new (x ∷ []) some came leads each ends = record {
  exchange = x;
  only = refl;
  request = begun message read rest new.left x came leads;
  is = each.1;
  unbroken = ends.2.0;
  written_is = ends.0 ∙ append-nil x.bytes;
}
one_exchange given message read rest extra written old new (x ∷ y ∷ ys) some came leads each ends = absurd (let left : 0 < 1 - 1 = each.3.0 in omega (arith, left))

no_failure : (n : ℕ) (before now : ℕ) → now ≡ 0 → RoseBy n before now → n ≡ 0
no_failure n before now none rose = omega (arith, none, rose)

next_still : (f g : ℕ → Option (List ℕ)) (words : Option (List ℕ)) → f 0 ≡ g 0 → AreNext f words → AreNext g words
next_still f g None h p = tt
next_still f g (Some words) h p = subst (λ (o : Option (List ℕ)). IsWhereTold words o) h p

told_words : (f g : ℕ → Option (List ℕ)) (ts : List Turned) → ((k : ℕ) → f k ≡ g k) → WordsTold f ts → WordsTold g ts
told_words f g [] h p = tt
told_words f g (t ∷ ts) h p =
    let n = drawn_for t.event in
    (next_still f g (event_words t.event) (h 0) p.0, told_words (from_number n f) (from_number n g) ts (λ k. h (k + n)) p.1)

-- a connection that held one message, and ended as it should
pub served : {S : Type 0} (turn : S → Event → Reply → S → Type 0) (given : FrontSettings) (message : List ℕ) (moment : ℤ) (before now : ℕ) (answer : Option (List ℕ)) (old new : Told) (s t : S)
    → IsConnection turn given 0 End 1 [] old new s t → 0 < length message → old.left ≡ Some message → old.giving.held ≡ Some [] → new.giving.held ≡ answer → new.giving.word_faults ≡ 0
    → ((k : ℕ) → old.giving.answers k ≡ outside.still moment k) → ((k : ℕ) → old.giving.words k ≡ outside.counted before k) → ((k : ℕ) → new.giving.words k ≡ outside.counted now k)
    → IsServed turn given message moment before now answer s t
served turn given message moment before now answer old new s t serves some left empty held sure clock words words_after =
    let one = one_exchange given message serves.read serves.rest serves.extra serves.written old new serves.exchanges some (sym left ∙ serves.from_source) serves.bytes_read serves.each serves.ending in
    let turns_are : turns_of serves.exchanges ≡ one.exchange.turns = ap turns_of one.only ∙ append-nil one.exchange.turns in
    let took = serves.took in
    record {
      exchange = one.exchange;
      request = one.request;
      is = one.is;
      unbroken = one.unbroken;
      answer_is = sym held ∙ serves.to_sink ∙ ap (λ (h : Option (List ℕ)). and_held h serves.written) empty ∙ ap Some one.written_is;
      moments = subst (λ (ts : List Turned). MomentsTold (outside.still moment) ts) turns_are (same_moments old.giving.answers (outside.still moment) (turns_of serves.exchanges) clock took.moments);
      words = subst (λ (ts : List Turned). WordsTold (outside.counted before) ts) turns_are (told_words old.giving.words (outside.counted before) (turns_of serves.exchanges) words took.words);
      all_drawn = ap failed_draws (sym turns_are) ∙ no_failure (failed_draws (turns_of serves.exchanges)) old.giving.word_faults new.giving.word_faults sure took.word_faults;
      words_on = λ k. sym (words_after k) ∙ took.entropy k ∙ words (k + drawn (turns_of serves.exchanges)) ∙ ap (λ (ts : List Turned). outside.counted before (k + drawn ts)) turns_are;
      chain = subst (λ (ts : List Turned). Chain turn s ts t) turns_are serves.chain;
    }
