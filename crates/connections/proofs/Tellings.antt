-- What turns took, one after the other.
use Rattle.std.proofs.Common.{◌≡◌, ◌+◌, ◌-◌, ℕ, ℤ, Option, None, Some, List, [], ◌∷◌, ◌++◌, length, ap, ◌∙◌, arith, subst, length-append, add-zero}
use Rattle.io_edge.specs.Edge.{IsWhereTold}
use Rattle.std.specs.Option.{option_map}
use Rattle.net_addr.specs.Moments.{clamped}
use Rattle.tailnet_desk.specs.Asks.{event_words}
use Rattle.tailnet_desk.specs.Chains.{Turned}
use Rattle.tailnet_desk.specs.Step.{moment_of}
use Rattle.connections.specs.Tellings.{AreNext, Giving, TurnsTook, MomentsTold, WordsTold, drawn, drawn_for, failed_draws, from_number}

pub same_moments : (f g : ℕ → Option ℤ) (es : List Turned) → ((k : ℕ) → f k ≡ g k) → MomentsTold f es → MomentsTold g es
same_moments f g [] h p = tt
same_moments f g (e ∷ es) h p = (subst (λ (o : Option ℤ). IsWhereTold (moment_of e.event) (option_map clamped o)) (h 0) p.0, same_moments (from_number 1 f) (from_number 1 g) es (λ k. h (k + 1)) p.1)

moments-append : (f : ℕ → Option ℤ) (es fs : List Turned) → MomentsTold f es → MomentsTold (from_number (length es) f) fs → MomentsTold f (es ++ fs)
moments-append f [] fs p q = same_moments (from_number 0 f) f fs (λ k. ap f (add-zero k)) q
moments-append f (e ∷ es) fs p q = (p.0, moments-append (from_number 1 f) es fs p.1 (same_moments _ (from_number (length es) (from_number 1 f)) fs (λ k. ap f (omega arith)) q))

next_still : (f g : ℕ → Option (List ℕ)) (words : Option (List ℕ)) → f 0 ≡ g 0 → AreNext f words → AreNext g words
next_still f g None h p = tt
next_still f g (Some words) h p = subst (λ (o : Option (List ℕ)). IsWhereTold words o) h p

same_words : (f g : ℕ → Option (List ℕ)) (es : List Turned) → ((k : ℕ) → f k ≡ g k) → WordsTold f es → WordsTold g es
same_words f g [] h p = tt
same_words f g (e ∷ es) h p =
    let n = drawn_for e.event in
    (next_still f g (event_words e.event) (h 0) p.0, same_words (from_number n f) (from_number n g) es (λ k. h (k + n)) p.1)

words-append : (f : ℕ → Option (List ℕ)) (es fs : List Turned) → WordsTold f es → WordsTold (from_number (drawn es) f) fs → WordsTold f (es ++ fs)
words-append f [] fs p q = same_words (from_number 0 f) f fs (λ k. ap f (add-zero k)) q
words-append f (e ∷ es) fs p q =
    let n = drawn_for e.event in
    let later = same_words (from_number (n + drawn es) f) (from_number (drawn es) (from_number n f)) fs (λ k. ap f (omega arith)) q in
    (p.0, words-append (from_number n f) es fs p.1 later)

drawn-append : (es fs : List Turned) → drawn (es ++ fs) ≡ drawn es + drawn fs
drawn-append [] fs = omega arith
drawn-append (e ∷ es) fs = omega (arith, drawn-append es fs)

failed-append : (es fs : List Turned) → failed_draws (es ++ fs) ≡ failed_draws es + failed_draws fs
failed-append [] fs = omega arith
failed-append (e ∷ es) fs = omega (arith, failed-append es fs)

pub took-append : (old mid new : Giving) (es fs : List Turned) → TurnsTook old mid es → TurnsTook mid new fs → TurnsTook old new (es ++ fs)
took-append old mid new es fs p q =
    record {
      moments = moments-append old.answers es fs p.moments (same_moments mid.answers (from_number (length es) old.answers) fs p.clock q.moments);
      clock = λ k. q.clock k ∙ p.clock (k + length fs) ∙ ap old.answers (omega (arith, length-append es fs));
      words = words-append old.words es fs p.words (same_words mid.words (from_number (drawn es) old.words) fs p.entropy q.words);
      entropy = λ k. q.entropy k ∙ p.entropy (k + drawn fs) ∙ ap old.words (omega (arith, drawn-append es fs));
      word_faults = omega (arith, p.word_faults, q.word_faults, failed-append es fs);
    }
