-- Bytes sent in pieces.
use Rattle.std.proofs.Common.{◌≡◌, ◌≤◌, ◌<◌, ◌+◌, ◌∙◌, ℕ, true, Option, List, [], ◌∷◌, ◌++◌, Result, Ok, Err, length, take, drop, get_or, inl, inr, refl, sym, ap, subst, append_assoc, arith, add-one, drop-cons}
use Rattle.std.specs.Prelude.{OnOk}
use Rattle.std.proofs.Math.Seq.{take-length}
use Rattle.std.proofs.lemmas.List.{at_drop_all, take_more}
use Rattle.tailcfg.specs.declared.response.Response.{Response}
use Rattle.fresh_maps.specs.Frames.{frame_of}
use Rattle.http_front.specs.Streams.{chunk_of}
use Rattle.io_edge.specs.Edge.{and_held}
use Rattle.io_edge.proofs.Told.{held_more, held_nothing, rose_later}
use Rattle.exit_status.specs.Pieces.{IsPrefix, IsSent, Sent}
use Rattle.exit_status.specs.declared.closed.Closed.{Closed}
use Rattle.exit_status.specs.declared.closed.Closed.TheVariants.{End, Early, ReadFault, WriteFault, NoMemory}
use Rattle.exit_status.proofs.Writes.{prefix_more}
use Rattle.connections.specs.Carried.{AreMade, AreSized, IsSized}
use Rattle.connections.specs.Exchanges.{breaks}
use Rattle.connections.specs.Polled.{Completed}
use Rattle.connections.specs.Polls.{chunks_for}

sent_as : {T : Type 0} (outcome : Result T Closed) (first written rest : List ℕ) (n m k : ℕ) → n ≤ m → IsSent outcome written rest m k → IsSent outcome (first ++ written) (first ++ rest) n k
sent_as (Ok done) first written rest n m k le h = ap (λ b. first ++ b) h
sent_as (Err End) first written rest n m k le h = h
sent_as (Err Early) first written rest n m k le h = h
sent_as (Err ReadFault) first written rest n m k le h = h
sent_as (Err WriteFault) first written rest n m k le h = rose_later n m k le h
sent_as (Err NoMemory) first written rest n m k le h = tt

-- the first piece went out whole, and then the rest
pub sent_then : {T U : Type 0} (done : U) (outcome : Result T Closed) (o mid new : Option (List ℕ)) (n m k : ℕ) (first rest : List ℕ)
    → Sent (Ok done) o mid n m first → Sent outcome mid new m k rest → Sent outcome o new n k (first ++ rest)
sent_then done outcome o mid new n m k first rest a b =
    let whole : mid ≡ and_held o first = a.to_sink ∙ ap (λ x. and_held o x) a.is in
    record {
      written = first ++ b.written;
      front = prefix_more first b.written rest b.front;
      to_sink = b.to_sink ∙ ap (λ x. and_held x b.written) whole ∙ held_more o first b.written;
      later = omega (arith, a.later, b.later);
      is = sent_as outcome first b.written rest n m k a.later b.is;
    }

-- and what was heard of the rest is heard behind the first
pub heard_then : {T U : Type 0} (done : U) (outcome : Result T Closed) (o mid new : Option (List ℕ)) (n m k : ℕ) (first rest part : List ℕ)
    (a : Sent (Ok done) o mid n m first) (b : Sent outcome mid new m k rest) → IsPrefix part b.written
    → IsPrefix (first ++ part) (sent_then done outcome o mid new n m k first rest a b).written
unfolding sent_then
heard_then done outcome o mid new n m k first rest part a b heard = prefix_more first part b.written heard

broken_as : (T U : Type 0) (e : Closed) (written first all : List ℕ) (n k : ℕ) → IsSent {T = T} (Err e) written first n k → IsSent {T = U} (Err e) written all n k
broken_as T U End written first all n k h = h
broken_as T U Early written first all n k h = h
broken_as T U ReadFault written first all n k h = h
broken_as T U WriteFault written first all n k h = h
broken_as T U NoMemory written first all n k h = tt

-- the first piece broke off
pub sent_broken : {T U : Type 0} (e : Closed) (o new : Option (List ℕ)) (n k : ℕ) (first rest : List ℕ) → Sent {T = T} (Err e) o new n k first → Sent {T = U} (Err e) o new n k (first ++ rest)
sent_broken {T} {U} e o new n k first rest a = record {
  written = a.written;
  front = (a.front.0 ++ rest, ap (λ x. x ++ rest) a.front.1 ∙ append_assoc a.written a.front.0 rest);
  to_sink = a.to_sink;
  later = a.later;
  is = broken_as T U e a.written first (first ++ rest) n k a.is;
}

-- nothing is sent
pub sent_nothing : {T : Type 0} (done : T) (o : Option (List ℕ)) (n : ℕ) → Sent (Ok done) o o n n []
sent_nothing done o n = record { written = []; front = ([], refl); to_sink = held_nothing o; later = omega arith; is = refl }

-- what broke off ends the connection so
pub broke : (T : Type 0) (e : Closed) (written bytes : List ℕ) (before now : ℕ) → IsSent {T = T} (Err e) written bytes before now → breaks {T = T} (Err e) ≡ true
broke T End written bytes before now h = absurd h
broke T Early written bytes before now h = absurd h
broke T ReadFault written bytes before now h = absurd h
broke T WriteFault written bytes before now h = refl
broke T NoMemory written bytes before now h = refl

-- what was sent whole was made; what wasn't broke off
pub made_or_broken : {T : Type 0} (outcome : Result T Closed) (rs : List Response) (written bytes : List ℕ) (before now : ℕ) → IsSent outcome written bytes before now
    → OnOk outcome (AreSized rs) → AreMade (breaks outcome) rs []
made_or_broken (Ok done) rs written bytes before now h sized = inr sized
made_or_broken {T} (Err e) rs written bytes before now h sized = inl (broke T e written bytes before now h, refl)

sized_both : (rs ss : List Response) → AreSized rs → AreSized ss → AreSized (rs ++ ss)
sized_both [] ss p q = q
sized_both (r ∷ rs) ss p q = (p.0, sized_both rs ss p.1 q)

-- the first were made, and then others
pub sized_then : {T : Type 0} (outcome : Result T Closed) (rs ss : List Response) → AreSized rs → OnOk outcome (AreSized ss) → OnOk outcome (AreSized (rs ++ ss))
sized_then (Ok done) rs ss p q = sized_both rs ss p q
sized_then (Err e) rs ss p q = tt

pub one_more_sized : (rs : List Response) (i : ℕ) (x : Response) → i < length rs → x ≡ get_or rs i x → AreSized (take i rs) → IsSized x → AreSized (take (i + 1) rs)
one_more_sized rs i x less is all one =
    subst AreSized (sym (take_more rs i x less ∙ ap (λ y. take i rs ++ y ∷ []) (sym is))) (sized_both (take i rs) (x ∷ []) all (one, tt))

pub all_sized : (rs : List Response) (i : ℕ) → i ≡ length rs → AreSized (take i rs) → AreSized rs
all_sized rs i whole all = subst AreSized (ap (λ n. take n rs) whole ∙ take-length rs) all

-- what was sent, and then its ending, unless it broke off
pub sent_completed : {T : Type 0} (sent outcome : Result T Closed) (o mid new : Option (List ℕ)) (n m k : ℕ) (front ending : List ℕ)
    → Sent sent o mid n m front → Completed sent outcome mid new m k ending → Sent outcome o new n k (front ++ ending)
sent_completed (Ok done) outcome o mid new n m k front ending a c = sent_then done outcome o mid new n m k front ending a c
sent_completed {T} (Err e) outcome o mid new n m k ahead ending a c =
    let same : IsSent {T = T} (Err e) a.written (ahead ++ ending) n m = broken_as T T e a.written ahead (ahead ++ ending) n m a.is in
    record {
      written = a.written;
      front = (a.front.0 ++ ending, ap (λ x. x ++ ending) a.front.1 ∙ append_assoc a.written a.front.0 ending);
      to_sink = c.1 ∙ a.to_sink;
      later = omega (arith, a.later, c.2);
      is = subst (λ (r : Result T Closed). IsSent r a.written (ahead ++ ending) n k) (sym c.0)
          (subst (λ (j : ℕ). IsSent {T = T} (Err e) a.written (ahead ++ ending) n j) (sym c.2) same);
    }

-- what was heard before the ending is heard still
pub heard_completed : {T : Type 0} (sent outcome : Result T Closed) (o mid new : Option (List ℕ)) (n m k : ℕ) (front ending part : List ℕ)
    (a : Sent sent o mid n m front) (c : Completed sent outcome mid new m k ending) → IsPrefix part a.written
    → IsPrefix part (sent_completed sent outcome o mid new n m k front ending a c).written
unfolding sent_completed sent_then
heard_completed (Ok done) outcome o mid new n m k front ending part a c heard =
    (heard.0 ++ c.written, ap (λ x. x ++ c.written) (sym a.is ∙ heard.1) ∙ append_assoc part heard.0 c.written)
heard_completed (Err e) outcome o mid new n m k front ending part a c heard = heard

-- the ending doesn't repair what broke off
pub still_breaks : {T : Type 0} (sent outcome : Result T Closed) (mid new : Option (List ℕ)) (m k : ℕ) (ending : List ℕ)
    → Completed sent outcome mid new m k ending → breaks sent ≡ true → breaks outcome ≡ true
still_breaks (Ok done) outcome mid new m k ending c b = absurd (cc)
still_breaks {T} (Err e) outcome mid new m k ending c b = subst (λ (r : Result T Closed). breaks r ≡ true) (sym c.0) b

-- ---- responses, one after the other

left_at : (rs : List Response) (i : ℕ) (x : Response) → i < length rs → x ≡ get_or rs i x → drop i rs ≡ x ∷ drop (i + 1) rs
left_at rs i x less is =
    let front : drop i rs ≡ get_or rs i x ∷ drop (i + 1) rs = rw (add-one, drop-cons rs i x) refl in
    front ∙ ap (λ (y : Response). y ∷ drop (i + 1) rs) (sym is)

chunks_left : (rs : List Response) (i : ℕ) (x : Response) → i < length rs → x ≡ get_or rs i x → chunks_for (drop i rs) ≡ chunk_of (frame_of x) ++ chunks_for (drop (i + 1) rs)
chunks_left rs i x less is = ap chunks_for (left_at rs i x less is)

pub responses_more : {T U : Type 0} (rs : List Response) (i : ℕ) (x : Response) (done : U) (outcome : Result T Closed) (o mid new : Option (List ℕ)) (n m k : ℕ)
    → i < length rs → x ≡ get_or rs i x → Sent (Ok done) o mid n m (chunk_of (frame_of x)) → Sent outcome mid new m k (chunks_for (drop (i + 1) rs))
    → Sent outcome o new n k (chunks_for (drop i rs))
responses_more rs i x done outcome o mid new n m k less is a b =
    subst (λ (bytes : List ℕ). Sent outcome o new n k bytes) (sym (chunks_left rs i x less is))
    (sent_then done outcome o mid new n m k (chunk_of (frame_of x)) (chunks_for (drop (i + 1) rs)) a b)

pub responses_failed : {T U : Type 0} (rs : List Response) (i : ℕ) (x : Response) (outcome : Result U Closed) (e : Closed) (o new : Option (List ℕ)) (n k : ℕ)
    → outcome ≡ Err e → i < length rs → x ≡ get_or rs i x → Sent {T = T} (Err e) o new n k (chunk_of (frame_of x)) → Sent outcome o new n k (chunks_for (drop i rs))
responses_failed {T} {U} rs i x outcome e o new n k same less is a =
    let here : Sent {T = U} (Err e) o new n k (chunk_of (frame_of x) ++ chunks_for (drop (i + 1) rs)) =
    sent_broken {T = T} {U = U} e o new n k (chunk_of (frame_of x)) (chunks_for (drop (i + 1) rs)) a in
    subst (λ (bytes : List ℕ). Sent outcome o new n k bytes) (sym (chunks_left rs i x less is))
    (subst (λ (r : Result U Closed). Sent r o new n k (chunk_of (frame_of x) ++ chunks_for (drop (i + 1) rs))) (sym same) here)

pub responses_done : {T : Type 0} (done : T) (rs : List Response) (i : ℕ) (o : Option (List ℕ)) (n : ℕ) → length rs ≤ i → Sent (Ok done) o o n n (chunks_for (drop i rs))
responses_done done rs i o n all =
    subst (λ (bytes : List ℕ). Sent (Ok done) o o n n bytes) (sym (at_drop_all chunks_for rs i all)) (sent_nothing done o n)
